-- The source text of a rule file. Assumes nothing.
use Rattle.std.specs.Prelude.{ℕ, ◌+◌, List, [], ◌∷◌, ◌++◌, codes, decimal}
use Rattle.rules.specs.Books.{Rule, Book}
use Rattle.listing.specs.Texts.{separated, rule_text}

-- the texts of the symbols from k on, each with its argument count
abbrev pub symbol_texts : ℕ → List ℕ → List (List ℕ)
symbol_texts k [] = []
symbol_texts k (n ∷ ns) = (codes "c" ++ decimal k ++ codes "/" ++ decimal n) ∷ symbol_texts (k + 1) ns

abbrev pub symbols_text : List ℕ → List ℕ
symbols_text arities = separated (symbol_texts 0 arities)

-- the rules from number n on
abbrev pub rules_text : List ℕ → ℕ → List Rule → List ℕ
rules_text arities n [] = []
rules_text arities n (r ∷ rs) = rule_text arities n r ++ rules_text arities (n + 1) rs

-- the library, the symbols, and the rules
abbrev pub book_text : Book → List ℕ
book_text b = codes ":- use_module(library(chr)).\n:- chr_constraint " ++ symbols_text b.arities ++ codes ".\n" ++ rules_text b.arities 1 b.rules
