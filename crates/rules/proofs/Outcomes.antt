-- What the outcome of a parser says of its parts.
use Rattle.std.proofs.Common.{◌≡◌, ℕ, Bool, true, false, cond, List, refl, ap, ◌∙◌}
use Rattle.std.proofs.lemmas.Bool.{cond-true, cond-false}
use Rattle.rules.specs.Parse.{Outcome, Parser, got, refused, after}
use Rattle.rules.specs.declared.LoadRefusal.{LoadRefusal}

pub got_is : {A : Type 0} (a b : A) (k k' : ℕ) (s s' : List ℕ) → got a k s ≡ got b k' s' → (b ≡ a) × (s' ≡ s)
got_is a b k k' s s' e = (cc, cc)

-- the two ways of a test
pub branch : {X G : Type 0} (b : Bool) {x y z : X} → cond b x y ≡ z → (b ≡ true → x ≡ z → G) → (b ≡ false → y ≡ z → G) → G
branch true e f g = f refl e
branch false e f g = g refl e

-- where one parser after another got something, each got something
pub inverted : {A B : Type 0} (o : Outcome A) (f : A → Parser B) (b : B) (k : ℕ) (s : List ℕ) {G : Type 0} → after o f ≡ got b k s →
    ((a : A) (k₁ : ℕ) (s₁ : List ℕ) → o ≡ got a k₁ s₁ → f a k₁ s₁ ≡ got b k s → G) → G
inverted (got a k₁ s₁) f b k s e g = g a k₁ s₁ refl e
inverted (refused x) f b k s e g = cc

-- a parser's run, step by step: what a part got, that it was refused, and which way a test went
module _ {A B : Type 0} where
  pub step : {o : Outcome A} (f : A → Parser B) {a : A} {k : ℕ} {s : List ℕ} {r : Outcome B} → o ≡ got a k s → f a k s ≡ r → after o f ≡ r
  step f e q = ap (λ x. after x f) e ∙ q

  pub fails : {o : Outcome A} (f : A → Parser B) {x : LoadRefusal} → o ≡ refused x → after o f ≡ refused x
  fails f e = ap (λ x. after x f) e

module _ {X : Type 0} {b : Bool} (x y : X) {r : X} where
  pub on : b ≡ true → x ≡ r → cond b x y ≡ r
  on t e = cond-true b x y t ∙ e

  pub off : b ≡ false → y ≡ r → cond b x y ≡ r
  off t e = cond-false b x y t ∙ e
