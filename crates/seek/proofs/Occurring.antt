-- Counting the places of a symbol. Assumes nothing.
use Rattle.std.proofs.Common.{◌≡◌, ℕ, zero, suc, ◌+◌, ◌-◌, ◌<◌, Bool, true, false, cond, eqb, List, [], ◌∷◌, ◌++◌, map, length, get_or, drop, Some, vec_items, sym, ap, ◌∙◌, subst, not-suc-le-zero, add-zero, add-one, arith}
use Rattle.std.proofs.lemmas.List.{take-append-drop, append-nil, append_assoc, drop_more, get_or-map}
use Rattle.std.proofs.lemmas.Bool.{eq-eqb, ne_eqb}
use Rattle.table.specs.Lists.{nth}
use Rattle.rules.specs.Books.{Rule, Book, heads}
use Rattle.rules.specs.Valids.{Valid, RuleValid}
use Rattle.rules.specs.Views.{rule_of}
use Rattle.rules.specs.declared.Rule as code
use Rattle.machine.specs.Matching.{no_rule}
use Rattle.machine.specs.Lists.{◌∈◌}
use Rattle.machine.specs.Occurrences.{places_from, occurrences_from}
use Rattle.machine.proofs.Members.{get_or_mem, mem_map, all_mem}

places_push : (k s : ℕ) (xs : List ℕ) (x h : ℕ) → places_from k s (xs ++ (x ∷ [])) h ≡ cond (eqb x s) ((k, h + length xs) ∷ []) [] ++ places_from k s xs h
places_push k s [] x h = ap (λ (n : ℕ). cond (eqb x s) ((k, n) ∷ []) []) (sym (add-zero h)) ∙ sym (append-nil (cond (eqb x s) ((k, h + 0) ∷ []) []))
places_push k s (y ∷ xs) x h = ap (λ z. z ++ cond (eqb y s) ((k, h) ∷ []) []) (places_push k s xs x (suc h) ∙ ap (λ (n : ℕ). cond (eqb x s) ((k, n) ∷ []) [] ++ places_from k s xs (suc h)) (let q : suc h + length xs ≡ h + suc (length xs) = omega arith in q)) ∙ append_assoc (cond (eqb x s) ((k, h + suc (length xs)) ∷ []) []) (places_from k s xs (suc h)) (cond (eqb y s) ((k, h) ∷ []) [])

-- the last head's place, among those of the heads before it and what follows
module _ (k s : ℕ) (xs : List ℕ) (x : ℕ) (rest : List (ℕ × ℕ)) where
  abbrev Before : List (ℕ × ℕ)
  Before = places_from k s xs 0 ++ rest

  abbrev All : List (ℕ × ℕ)
  All = places_from k s (xs ++ (x ∷ [])) 0 ++ rest

  split : (b : Bool) → eqb x s ≡ b → All ≡ (cond b ((k, length xs) ∷ []) [] ++ places_from k s xs 0) ++ rest
  split b e = ap (λ z. z ++ rest) (places_push k s xs x 0) ∙ ap (λ (n : ℕ). (cond (eqb x s) ((k, n) ∷ []) [] ++ places_from k s xs 0) ++ rest) (let q : 0 + length xs ≡ length xs = omega arith in q) ∙ ap (λ b. (cond b ((k, length xs) ∷ []) [] ++ places_from k s xs 0) ++ rest) e

  pub place_here : x ≡ s → nth All 0 ≡ Some (k, length xs)
  place_here e = ap (λ z. nth z 0) (split true (eq-eqb x s e))

  pub place_passed : (left : ℕ) → x ≡ s → 0 < left → nth All left ≡ nth Before (left - 1)
  place_passed left e m = ap (λ z. nth z left) (split true (eq-eqb x s e)) ∙ go left m
    where
      go : (n : ℕ) → 0 < n → nth ((k, length xs) ∷ Before) n ≡ nth Before (n - 1)
      go zero m = absurd (not-suc-le-zero m)
      go (suc n) m = ap (nth Before) (let q : n ≡ suc n - 1 = omega arith in q)

  pub place_other : (left : ℕ) → (x ≡ s → ⊥) → nth All left ≡ nth Before left
  place_other left e = ap (λ z. nth z left) (split false (ne_eqb x s e))

module _ {A : Type 0} (f : A → Rule) (xs : List A) (i : ℕ) (x : A) (l : i < length xs) (e : x ≡ get_or xs i x) where
  pub occurs_next : (s : ℕ) (hs : List ℕ) → hs ≡ heads (f x) → occurrences_from s (suc i) (map f (drop i xs)) ≡ places_from (suc i) s hs 0 ++ occurrences_from s (suc (i + 1)) (map f (drop (i + 1) xs))
  occurs_next s hs q = ap (λ z. occurrences_from s (suc i) (map f z)) (drop_more xs i x l) ∙ ap (λ z. places_from (suc i) s (heads (f z)) 0 ++ occurrences_from s (suc (suc i)) (map f (drop (i + 1) xs))) (sym e) ∙ ap (λ z. places_from (suc i) s z 0 ++ occurrences_from s (suc (suc i)) (map f (drop (i + 1) xs))) (sym q) ∙ ap (λ (n : ℕ). places_from (suc i) s hs 0 ++ occurrences_from s (suc n) (map f (drop (i + 1) xs))) (sym (add-one i))

  pub at_rule : get_or (map f xs) (i + 1 - 1) no_rule ≡ f x
  at_rule = ap (λ (n : ℕ). get_or (map f xs) n no_rule) (let q : i + 1 - 1 ≡ i = omega arith in q) ∙ at_place
    where
      at_place : get_or (map f xs) i no_rule ≡ f x
      at_place = get_or-map f xs i x no_rule l ∙ ap f (sym e)

  -- a rule of a valid book is valid
  pub valid_at : (b : Book) → map f xs ≡ b.rules → Valid b → RuleValid b.arities (f x)
  valid_at b q v = all_mem (RuleValid b.arities) v.rules (subst (λ z. f x ∈ z) q (mem_map f (subst (λ z. z ∈ xs) (sym e) (get_or_mem xs i x l))))

-- the heads of a rule, as the code has them
pub heads_are : (r : code.Rule) → vec_items r.heads ≡ heads (rule_of r)
heads_are r = sym (take-append-drop r.kept (vec_items r.heads))
