-- A number, or nothing said, as a content.
use Rattle.std.proofs.Common.{◌≡◌, Bool, true, false, ℤ, pos, negsuc, Some, None, Option, sym, refl, ◌∙◌, subst, arith}
use Rattle.std.proofs.lemmas.Int.{ints}
use Rattle.terms.specs.Answers.{Answers}
use Rattle.contents.specs.declared.number.Number.{Number}
use Rattle.contents.specs.Ranges.{NameHold}

-- a number is not every value
pub not_all : (a b : Option Number) (n : Number) → a ≡ None → b ≡ Some n → ((z : ℤ) → NameHold a z → NameHold b z) → ⊥
not_all a b n ea eb all =
    let low : negsuc 999_999 ≡ n.value =
    subst (λ (o : Option Number). NameHold o (negsuc 999_999)) eb (all (negsuc 999_999) (subst (λ (o : Option Number). NameHold o (negsuc 999_999)) (sym ea) (omega (arith, ints), omega (arith, ints)))) in
    let high : pos 1_000_000 ≡ n.value =
    subst (λ (o : Option Number). NameHold o (pos 1_000_000)) eb (all (pos 1_000_000) (subst (λ (o : Option Number). NameHold o (pos 1_000_000)) (sym ea) (omega (arith, ints), omega (arith, ints)))) in
    omega (arith, ints)

-- a number is within another exactly if they are equal, as a test says
pub numbers_within : (a b : Option Number) (m n : Number) (r : Bool) → a ≡ Some m → b ≡ Some n →
    (r ≡ true → m.value ≡ n.value) → (r ≡ false → m.value ≡ n.value → ⊥) → Answers r ((z : ℤ) → NameHold a z → NameHold b z)
numbers_within a b m n true ea eb y no_p =
    λ z h. subst (λ (o : Option Number). NameHold o z) (sym eb) (subst (λ (o : Option Number). NameHold o z) ea h ∙ y refl)
numbers_within a b m n false ea eb y no_p =
    λ all. no_p refl (subst (λ (o : Option Number). NameHold o m.value) eb (all m.value (subst (λ (o : Option Number). NameHold o m.value) (sym ea) refl)))
