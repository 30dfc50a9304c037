-- Primitives as claims on a forest of classes.
use Rattle.std.proofs.Common.{◌≡◌, ℕ, Bool, ◌↔◌, ℤ, Some, Option, sym, subst, w32, SFits, to_z, of_z}
use Rattle.std.proofs.lemmas.Int.{to_z-of_z}
use Rattle.terms.specs.declared.Operand.{Operand}
use Rattle.terms.specs.declared.Operand.TheVariants.{Value, Variable}
use Rattle.terms.specs.declared.Primitive.{Primitive}
use Rattle.terms.specs.declared.Primitive.TheVariants.{Same}
use Rattle.terms.specs.Answers.{Answers}
use Rattle.terms.specs.Values.{IsValue}
use Rattle.terms.specs.Domains.{TrueIn, worth}
use Rattle.contents.specs.Contents.{HeldIn, Holding}
use Rattle.contents.proofs.Signs.{answers_iff}
use Rattle.classes.specs.Rows.{Valued}
use Rattle.theory.specs.declared.claim.Claim.{Claim}
use Rattle.theory.specs.declared.claim.Claim.TheVariants.{Alike}
use Rattle.theory.specs.Claims.{ClaimsOf, Claims}
use Rattle.theory.specs.Meanings.{Known, KnownAll}
use Rattle.theory.specs.Wholes.{Truth, whole}

-- a signed number, to its bits and back
pub at_bits : (P : ℤ → Type 0) (n : ℤ) → SFits w32 n → P (to_z w32 (of_z w32 n)) → P n
at_bits P n f p = subst P (to_z-of_z w32 n f) p

-- only a value is alone in a content, and what holds that content holds it
module _ {C : Type 0} (H : C → ℤ → Type 0) (low : C → ℤ) (ends : (c : C) → H c (low c)) (proper : (c : C) (z : ℤ) → H c z → IsValue z) where
  pub within_says : (n : ℤ) (o : Option C) (one all : C) (r : Bool) → Holding H (λ z. z ≡ n) (Some one) → o ≡ Some all →
      Answers r ((z : ℤ) → H one z → H all z) → Answers r (HeldIn H o n)
  within_says n o one all r only eo w =
      let self : low one ≡ n = (only (low one) (proper one (low one) (ends one))).0 (ends one) in
      let mine : H one n = subst (λ (z : ℤ). H one z) self (ends one) in
      subst (λ (p : Option C). Answers r (HeldIn H p n)) (sym eo)
      (answers_iff r _ _ (λ f. f n mine) (λ h z k. subst (λ (y : ℤ). H all y) (sym ((only z (proper one z k)).0 k)) h) w)

module _ {C : Type 0} (t : Truth) (H : C → ℤ → Type 0) where
  -- a known operand stands for a value
  worth_value : (m : ℕ) (a : Operand) → Known m a → (v : ℕ → ℤ) → Valued v → IsValue (worth (whole t) v a)
  worth_value m (Value n) k v w = k
  worth_value m (Variable x) k v w = w x

  -- a content that holds exactly what a primitive is true of, at a signed number, claims the primitive
  pub claims_by : (p : Primitive Operand) (a : Operand) (by : Option C) (c : Claim C) (Q : ℤ → ℤ → Type 0) (n : ℤ) → SFits w32 n →
      ((m : ℕ) → KnownAll m p → Known m a) → ((v : ℕ → ℤ) → Q n (worth (whole t) v a) ↔ TrueIn (whole t) v p) →
      Holding H (Q (to_z w32 (of_z w32 n))) by → ClaimsOf t H a by c → Claims t H p c
  claims_by p a by c Q n fits known says holding of =
      record {
        exact = λ m k v w.
            let h = at_bits (λ (j : ℤ). Holding H (Q j) by) n fits holding (worth (whole t) v a) (worth_value m a (known m k) v w) in
            (λ x. (says v).0 (h.0 ((of.exact v).0 x)), λ x. (of.exact v).1 (h.1 ((says v).1 x)));
        made = λ m k. of.made m (known m k);
      }

  -- sameness, read as equality
  pub same_left : (a : Operand) (n : ℤ) (v : ℕ → ℤ) → (worth (whole t) v a ≡ n) ↔ TrueIn (whole t) v (Same a (Value n))
  same_left a n v = (λ e. (t.same _ _).1 e, λ s. (t.same _ _).0 s)

  pub same_right : (b : Operand) (n : ℤ) (v : ℕ → ℤ) → (worth (whole t) v b ≡ n) ↔ TrueIn (whole t) v (Same (Value n) b)
  same_right b n v = (λ e. (t.same _ _).1 (sym e), λ s. sym ((t.same _ _).0 s))

  pub claims_alike : (x y : ℕ) → Claims t H (Same (Variable x) (Variable y)) (Alike x y)
  claims_alike x y = record { exact = λ m k v w. (λ e. (t.same _ _).1 e, λ s. (t.same _ _).0 s); made = λ m k. k }
