-- The text of a rule file, symbol by symbol and rule by rule.
use Rattle.std.proofs.Common.{◌≡◌, ℕ, zero, suc, ◌+◌, ◌<◌, ◌≤◌, List, [], ◌∷◌, ◌++◌, map, length, get_or, take, vec_items, vec_len, codes, decimal, sym, refl, ap, ◌∙◌, append_assoc, append-nil, arith, take-append-drop}
use Rattle.std.proofs.lemmas.List.{take_more, map_push, length-take-le, length-map}
use Rattle.terms.specs.Lists.{All}
use Rattle.rules.specs.Books.{Rule, Book}
use Rattle.rules.specs.Valids.{RuleValid}
use Rattle.rules.specs.Views.{rule_of}
use Rattle.rules.specs.declared.Rule as code
use Rattle.listing.specs.Texts.{separated, comma_before, rule_text}
use Rattle.listing.specs.Listings.{symbol_texts, symbols_text, rules_text, book_text}
use Rattle.listing.proofs.Separations.{separated_push}

symbol_texts_push : (k : ℕ) (ns : List ℕ) (n : ℕ) → symbol_texts k (ns ++ n ∷ []) ≡ symbol_texts k ns ++ (codes "c" ++ decimal (k + length ns) ++ codes "/" ++ decimal n) ∷ []
symbol_texts_push k [] n = let e : k ≡ k + 0 = omega arith in ap (λ x. (codes "c" ++ decimal x ++ codes "/" ++ decimal n) ∷ []) e
symbol_texts_push k (m ∷ ns) n =
    let e : k + 1 + length ns ≡ k + suc (length ns) = omega arith in
    ap (λ t. (codes "c" ++ decimal k ++ codes "/" ++ decimal m) ∷ t) (symbol_texts_push (k + 1) ns n ∙ ap (λ x. symbol_texts (k + 1) ns ++ (codes "c" ++ decimal x ++ codes "/" ++ decimal n) ∷ []) e)

length_symbol_texts : (k : ℕ) (ns : List ℕ) → length (symbol_texts k ns) ≡ length ns
length_symbol_texts k [] = refl
length_symbol_texts k (n ∷ ns) = ap suc (length_symbol_texts (k + 1) ns)

-- one symbol more
pub symbols_more : (ns : List ℕ) (i : ℕ) → i < length ns → symbols_text (take i ns) ++ comma_before i ++ (codes "c" ++ (decimal i ++ (codes "/" ++ decimal (get_or ns i 0)))) ≡ symbols_text (take (i + 1) ns)
symbols_more ns i h =
    let more = take_more ns i 0 h in
    let short : length (take i ns) ≡ i = length-take-le i ns (omega arith) in
    let long : length (symbol_texts 0 (take i ns)) ≡ i = length_symbol_texts 0 (take i ns) ∙ short in
    let place : 0 + length (take i ns) ≡ i = omega (arith, short) in
    let text : codes "c" ++ (decimal i ++ (codes "/" ++ decimal (get_or ns i 0))) ≡ codes "c" ++ decimal (0 + length (take i ns)) ++ codes "/" ++ decimal (get_or ns i 0) =
    ap (λ t. codes "c" ++ t) (sym (append_assoc (decimal i) (codes "/") (decimal (get_or ns i 0)))) ∙ ap (λ n. codes "c" ++ decimal n ++ codes "/" ++ decimal (get_or ns i 0)) (sym place) in
    ap (λ t. symbols_text (take i ns) ++ comma_before i ++ t) text
    ∙ ap (λ n. symbols_text (take i ns) ++ comma_before n ++ (codes "c" ++ decimal (0 + length (take i ns)) ++ codes "/" ++ decimal (get_or ns i 0))) (sym long)
    ∙ sym (separated_push (symbol_texts 0 (take i ns)) (codes "c" ++ decimal (0 + length (take i ns)) ++ codes "/" ++ decimal (get_or ns i 0)))
    ∙ ap separated (sym (symbol_texts_push 0 (take i ns) (get_or ns i 0)) ∙ ap (symbol_texts 0) (sym more))

rules_text_push : (arities : List ℕ) (n : ℕ) (rs : List Rule) (r : Rule) → rules_text arities n (rs ++ r ∷ []) ≡ rules_text arities n rs ++ rule_text arities (n + length rs) r
rules_text_push arities n [] r = let e : n ≡ n + 0 = omega arith in append-nil (rule_text arities n r) ∙ ap (λ k. rule_text arities k r) e
rules_text_push arities n (x ∷ rs) r =
    let e : n + 1 + length rs ≡ n + suc (length rs) = omega arith in
    ap (λ t. rule_text arities n x ++ t) (rules_text_push arities (n + 1) rs r ∙ ap (λ k. rules_text arities (n + 1) rs ++ rule_text arities k r) e)
    ∙ sym (append_assoc (rule_text arities n x) (rules_text arities (n + 1) rs) (rule_text arities (n + suc (length rs)) r))

-- one rule more
pub rules_more : (arities : List ℕ) (rs : List code.Rule) (i : ℕ) (r : code.Rule) → i < length rs → r ≡ get_or rs i r →
    rules_text arities 1 (map rule_of (take i rs)) ++ rule_text arities (i + 1) (rule_of r) ≡ rules_text arities 1 (map rule_of (take (i + 1) rs))
rules_more arities rs i r h e =
    let more : map rule_of (take (i + 1) rs) ≡ map rule_of (take i rs) ++ rule_of r ∷ [] = ap (map rule_of) (take_more rs i r h ∙ ap (λ x. take i rs ++ x ∷ []) (sym e)) ∙ map_push rule_of (take i rs) r in
    let long : length (map rule_of (take i rs)) ≡ i = length-map (take i rs) rule_of ∙ length-take-le i rs (omega arith) in
    let number : i + 1 ≡ 1 + length (map rule_of (take i rs)) = omega arith in
    ap (λ n. rules_text arities 1 (map rule_of (take i rs)) ++ rule_text arities n (rule_of r)) number ∙ sym (rules_text_push arities 1 (map rule_of (take i rs)) (rule_of r)) ∙ ap (rules_text arities 1) (sym more)

-- a rule of a valid file has few heads
pub few_heads : (arities : List ℕ) (rs : List code.Rule) (i : ℕ) (r : code.Rule) → i < length rs → r ≡ get_or rs i r → All (RuleValid arities) (map rule_of rs) → vec_len r.heads ≤ 3
few_heads arities [] i r h e v = absurd (omega arith)
few_heads arities (x ∷ rs) zero r h e v = rw e (omega (arith, v.0.few_heads, ap length (take-append-drop x.kept (vec_items x.heads)), x.heads.ok.0))
few_heads arities (x ∷ rs) (suc i) r h e v = few_heads arities rs i r (omega arith) e v.1

pub book_text_is : (b : Book) (arities : List ℕ) (rs : List Rule) → arities ≡ b.arities → rs ≡ b.rules →
    codes ":- use_module(library(chr)).\n:- chr_constraint " ++ symbols_text arities ++ codes ".\n" ++ rules_text arities 1 rs ≡ book_text b
book_text_is b arities rs e e₁ =
    ap (λ xs. codes ":- use_module(library(chr)).\n:- chr_constraint " ++ symbols_text xs ++ codes ".\n" ++ rules_text xs 1 rs) e
    ∙ ap (λ xs. codes ":- use_module(library(chr)).\n:- chr_constraint " ++ symbols_text b.arities ++ codes ".\n" ++ rules_text b.arities 1 xs) e₁
