-- Tuples compared whole are compared in the order of the search. Assumes nothing.
use Rattle.std.proofs.Common.{◌≡◌, ℕ, zero, suc, ◌+◌, ◌<◌, ◌≤◌, Bool, true, false, cond, not, eqb, List, ◌∷◌, length, get_or, drop, filter, sym, refl, ap, ◌∙◌, subst, add-one, arith}
use Rattle.std.proofs.lemmas.List.{drop_more}
use Rattle.std.proofs.lemmas.Bool.{eqb-true}
use Rattle.machine.specs.Lists.{NoLater}
use Rattle.machine.specs.Occurrences.{positions, search_order, sought}

module _ (t u : List ℕ) (h : ℕ) (same : get_or t h 0 ≡ get_or u h 0) where
  step : (k : ℕ) → k < length t → k < length u → NoLater (drop k t) (drop k u) → NoLater (get_or t k 0 ∷ drop (suc k) t) (get_or u k 0 ∷ drop (suc k) u)
  step k l m n = subst (λ z. NoLater z (get_or u k 0 ∷ drop (suc k) u)) (drop_more t k 0 l ∙ ap (λ j. get_or t k 0 ∷ drop j t) (add-one k)) (subst (λ z. NoLater (drop k t) z) (drop_more u k 0 m ∙ ap (λ j. get_or u k 0 ∷ drop j u) (add-one k)) n)

  along : (n k : ℕ) → k + n ≤ length t → k + n ≤ length u → NoLater (drop k t) (drop k u) → NoLater (sought (filter (λ p. not (eqb p h)) (positions k n)) t) (sought (filter (λ p. not (eqb p h)) (positions k n)) u)
  along zero k l m n = tt
  along (suc n) k l m z = go (eqb k h) refl (step k (omega arith) (omega arith) z) (λ w. along n (suc k) (omega arith) (omega arith) w)
    where
      go : (b : Bool) → eqb k h ≡ b → NoLater (get_or t k 0 ∷ drop (suc k) t) (get_or u k 0 ∷ drop (suc k) u) → (NoLater (drop (suc k) t) (drop (suc k) u) → NoLater (sought (filter (λ p. not (eqb p h)) (positions (suc k) n)) t) (sought (filter (λ p. not (eqb p h)) (positions (suc k) n)) u)) → NoLater (sought (cond (not b) (k ∷ filter (λ p. not (eqb p h)) (positions (suc k) n)) (filter (λ p. not (eqb p h)) (positions (suc k) n))) t) (sought (cond (not b) (k ∷ filter (λ p. not (eqb p h)) (positions (suc k) n)) (filter (λ p. not (eqb p h)) (positions (suc k) n))) u)
      go true e w ih = ih (w.1 (let q : k ≡ h = eqb-true k h e in subst (λ j. get_or t j 0 ≡ get_or u j 0) (sym q) same))
      go false e w ih = (w.0, λ q. ih (w.1 q))

  pub in_order : (n : ℕ) → length t ≡ n → length u ≡ n → NoLater t u → NoLater (sought (search_order n h) t) (sought (search_order n h) u)
  in_order n l m z = along n 0 (omega arith) (omega arith) z
