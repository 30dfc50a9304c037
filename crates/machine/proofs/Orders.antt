-- The order of tuples: the first in the order of a search is one. Assumes nothing.
use Rattle.std.proofs.Common.{◌≡◌, ℕ, zero, suc, ◌+◌, ◌<◌, ◌≤◌, not, eqb, ◌⊎◌, List, [], ◌∷◌, map, length, get_or, sym, refl, ap, ◌∙◌, subst, ap₂, inl, inr, arith}
use mathlib.Core.List.{head-eq_of_cons-eq, tail-eq_of_cons-eq}
use native.Mathlib.Decide.{ℕ_discrete}
use lib.ListN.{length-map}
use Rattle.std.proofs.lemmas.List.{ext_get_or}
use Rattle.std.proofs.lemmas.Bool.{ne_eqb, cases_lt}
use Rattle.machine.specs.Lists.{◌∈◌, here, there, NoLater, Rising}
use Rattle.machine.specs.Occurrences.{positions, search_order, sought}
use Rattle.machine.proofs.Members.{mem_kept, mem_cases, mem_none, all_mem, here_at}

-- lists of one length, neither later than the other
nolater_both : (xs ys : List ℕ) → length xs ≡ length ys → NoLater xs ys → NoLater ys xs → xs ≡ ys
nolater_both [] [] e a b = refl
nolater_both [] (y ∷ ys) e a b = absurd (omega arith)
nolater_both (x ∷ xs) [] e a b = absurd (omega arith)
nolater_both (x ∷ xs) (y ∷ ys) e a b = let q : x ≡ y = omega (arith, a.0, b.0) in ap₂ (λ z l. z ∷ l) q (nolater_both xs ys (omega arith) (a.1 q) (b.1 (sym q)))

pub positions_have : (k n p : ℕ) → k ≤ p → p < k + n → p ∈ positions k n
positions_have k zero p a b = absurd (omega arith)
positions_have k (suc n) p a b = go (λ l. positions_have (suc k) n p l (omega arith)) (cases_lt k p)
  where
    go : (suc k ≤ p → p ∈ positions (suc k) n) → (k < p) ⊎ (p ≤ k) → p ∈ (k ∷ positions (suc k) n)
    go later (inl l) = there (later l)
    go later (inr l) = here_at (positions (suc k) n) (omega arith)

map_at : (f g : ℕ → ℕ) {p : ℕ} {ps : List ℕ} → p ∈ ps → map f ps ≡ map g ps → f p ≡ g p
map_at f g here e = head-eq_of_cons-eq e
map_at f g (there m) e = map_at f g m (tail-eq_of_cons-eq e)

-- tuples with the same element at the head h, neither later than the other in the order of the search
pub first_is_one : (n h : ℕ) (xs ys : List ℕ) → length xs ≡ n → length ys ≡ n → get_or xs h 0 ≡ get_or ys h 0 → NoLater (sought (search_order n h) xs) (sought (search_order n h) ys) → NoLater (sought (search_order n h) ys) (sought (search_order n h) xs) → xs ≡ ys
first_is_one n h xs ys lx ly at a b = ext_get_or 0 xs ys (lx ∙ sym ly) (λ p l. each p (subst (λ (z : ℕ). p < z) lx l) (ℕ_discrete p h))
  where
    same : sought (search_order n h) xs ≡ sought (search_order n h) ys
    same = nolater_both (sought (search_order n h) xs) (sought (search_order n h) ys) (length-map (search_order n h) (λ p. get_or xs p 0) ∙ sym (length-map (search_order n h) (λ p. get_or ys p 0))) a b

    each : (p : ℕ) → p < n → Dec (p ≡ h) → get_or xs p 0 ≡ get_or ys p 0
    each p l (yes e) = subst (λ (z : ℕ). get_or xs z 0 ≡ get_or ys z 0) (sym e) at
    each p l (no d) = map_at (λ z. get_or xs z 0) (λ z. get_or ys z 0) (mem_kept (λ z. not (eqb z h)) (positions_have 0 n p (omega arith) (omega arith)) (ap not (ne_eqb p h d))) same

-- rising lists with the same elements
pub rising_one : (xs ys : List ℕ) → Rising xs → Rising ys → ((i : ℕ) → i ∈ xs → i ∈ ys) → ((i : ℕ) → i ∈ ys → i ∈ xs) → xs ≡ ys
rising_one [] [] a b f g = refl
rising_one [] (y ∷ ys) a b f g = absurd (mem_none (g y here))
rising_one (x ∷ xs) [] a b f g = absurd (mem_none (f x here))
rising_one (x ∷ xs) (y ∷ ys) a b f g = ap₂ (λ z l. z ∷ l) same (rising_one xs ys a.1 b.1 (λ i m. into i m (mem_cases (f i (there m)))) (λ i m. back i m (mem_cases (g i (there m)))))
  where
    low : (x ≡ y) ⊎ (x ∈ ys) → y ≤ x
    low (inl e) = omega arith
    low (inr m) = let l : y < x = all_mem (λ z. y < z) b.0 m in omega arith

    high : (y ≡ x) ⊎ (y ∈ xs) → x ≤ y
    high (inl e) = omega arith
    high (inr m) = let l : x < y = all_mem (λ z. x < z) a.0 m in omega arith

    same : x ≡ y
    same = let p = low (mem_cases (f x here)) in let q = high (mem_cases (g y here)) in omega arith

    into : (i : ℕ) → i ∈ xs → (i ≡ y) ⊎ (i ∈ ys) → i ∈ ys
    into i m (inl e) = let l : x < i = all_mem (λ z. x < z) a.0 m in let q = same in absurd (omega arith)
    into i m (inr k) = k

    back : (i : ℕ) → i ∈ ys → (i ≡ x) ⊎ (i ∈ xs) → i ∈ xs
    back i m (inl e) = let l : y < i = all_mem (λ z. y < z) b.0 m in let q = same in absurd (omega arith)
    back i m (inr k) = k
