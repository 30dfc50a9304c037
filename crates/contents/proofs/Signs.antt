-- Tests and what they say: of two numbers, of the bits of two signed numbers, of facts that say the same.
use Rattle.std.proofs.Common.{◌≡◌, ℕ, Bool, true, false, eqb, ℤ, sym, refl, ap, ◌∙◌, w32, SFits, to_z, of_z}
use Rattle.std.proofs.lemmas.Int.{to_z-of_z}
use Rattle.std.proofs.lemmas.Bool.{eqb-true, eqb-false}
use Rattle.terms.specs.Answers.{Answers}

-- equal bits, equal numbers
pub same_bits : (a b : ℤ) → SFits w32 a → SFits w32 b → of_z w32 a ≡ of_z w32 b → a ≡ b
same_bits a b f g e = sym (to_z-of_z w32 a f) ∙ (ap (to_z w32) e ∙ to_z-of_z w32 b g)

pub answers_eqb : (m n : ℕ) (P : Type 0) → (m ≡ n → P) → ((m ≡ n → ⊥) → P → ⊥) → Answers (eqb m n) P
answers_eqb m n P y no_p = go (eqb m n) refl
  where
    go : (b : Bool) → eqb m n ≡ b → Answers b P
    go true e = y (eqb-true m n e)
    go false e = no_p (eqb-false m n e)

-- a test of the bits of two numbers
pub answers_bits : (a b : ℤ) (P : Type 0) → SFits w32 a → SFits w32 b → (a ≡ b → P) → ((a ≡ b → ⊥) → P → ⊥) → Answers (eqb (of_z w32 a) (of_z w32 b)) P
answers_bits a b P f g y no_p = answers_eqb _ _ P (λ e. y (same_bits a b f g e)) (λ ne. no_p (λ e. ne (ap (of_z w32) e)))

pub answers_iff : (r : Bool) (P Q : Type 0) → (P → Q) → (Q → P) → Answers r P → Answers r Q
answers_iff true P Q pq qp a = pq a
answers_iff false P Q pq qp a = λ q. a (qp q)
