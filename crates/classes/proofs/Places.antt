-- What holds at one place and at each other holds at all.
use Rattle.std.proofs.Common.{◌≡◌, ℕ, sym, subst, ⊎_elim}
use Rattle.std.proofs.lemmas.Bool.{cases_eq}

pub by_place : (P : ℕ → Type 0) (k : ℕ) → P k → ((i : ℕ) → (i ≡ k → ⊥) → P i) → (i : ℕ) → P i
by_place P k here there i =
    ⊎_elim (λ (e : i ≡ k). subst P (sym e) here) (λ (ne : i ≡ k → ⊥). there i ne) (cases_eq i k)

-- what one of two equal types holds, the other does
pub along : {A B : Type 0} → A ≡ B → A → B
along e a = subst (λ (X : Type 0). X) e a
