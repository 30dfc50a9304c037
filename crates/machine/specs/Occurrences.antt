-- Where a symbol occurs in the rules, and in which order partners are sought. Assumes nothing.
use Rattle.std.specs.Prelude.{ℕ, zero, suc, cond, not, List, [], ◌∷◌, ◌++◌, map, filter, ◌==◌, slice_index}
use Rattle.rules.specs.Books.{Rule, Book, heads}

-- the heads of one rule that have the symbol, from last to first: the rule's number with the head's place, counted from h
abbrev pub places_from : ℕ → ℕ → List ℕ → ℕ → List (ℕ × ℕ)
places_from rule s [] h = []
places_from rule s (x ∷ xs) h = places_from rule s xs (suc h) ++ cond (x == s) ((rule, h) ∷ []) []

-- the same for rules from top to bottom, numbered from k
abbrev pub occurrences_from : ℕ → ℕ → List Rule → List (ℕ × ℕ)
occurrences_from s k [] = []
occurrences_from s k (r ∷ rs) = places_from k s (heads r) 0 ++ occurrences_from s (suc k) rs

-- where a symbol occurs, by rule and head
abbrev pub occurrences : Book → ℕ → List (ℕ × ℕ)
occurrences b s = occurrences_from s 1 b.rules

-- n places from k on
abbrev pub positions : ℕ → ℕ → List ℕ
positions k zero = []
positions k (suc n) = k ∷ positions (suc k) n

-- the order in which the other heads of a rule with n heads are sought when the head h is active: from left to right
abbrev pub search_order : ℕ → ℕ → List ℕ
search_order n h = filter (λ p. not (p == h)) (positions 0 n)

-- the identifiers of a tuple in the order of the search
abbrev pub sought : List ℕ → List ℕ → List ℕ
sought order tuple = map (λ p. slice_index tuple p) order
