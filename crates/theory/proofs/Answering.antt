-- From what a forest says to what a theory says.
use Rattle.std.proofs.Common.{◌≡◌, ℕ, Bool, ℤ, Some, None, Option, refl, subst}
use Rattle.terms.specs.declared.Operand.{Operand}
use Rattle.terms.specs.declared.Primitive.{Primitive}
use Rattle.terms.specs.Answers.{Answers}
use Rattle.terms.specs.Domains.{TrueIn}
use Rattle.classes.specs.declared.forest.Forest.{Forest}
use Rattle.classes.specs.Forests as forests
use Rattle.classes.specs.Forests.{made_in, Barren, Narrowed, Throughout}
use Rattle.classes.proofs.Stores.{narrowed_iff}
use Rattle.theory.specs.declared.claim.Claim.{Claim}
use Rattle.theory.specs.declared.told.Told.TheVariants as told
use Rattle.theory.specs.Claims.{Claimed, OfMade, Claims}
use Rattle.theory.specs.Meanings.{KnownAll, Follows, Told}
use Rattle.theory.specs.Says.{TellSays, LeastSays, GreatestSays}
use Rattle.theory.specs.Wholes.{Truth, whole, means_of}
use Rattle.contents.proofs.Signs.{answers_iff}

module _ {C : Type 0} (t : Truth) (H : C → ℤ → Type 0) (f : Forest C) where
  module _ (p : Primitive Operand) (c : Claim C) (n : ℕ) (e : n ≡ made_in f) (known : KnownAll n p) (claims : Claims t H p c) where
    k : KnownAll (made_in f) p
    k = subst (λ (m : ℕ). KnownAll m p) e known

    told_is : (g : Forest C) → Narrowed H f (λ v. Claimed H c v) g → Told (means_of t H f) p (means_of t H g)
    told_is g w =
        let m = narrowed_iff H f _ (λ v. TrueIn (whole t) v p) g (λ v l. claims.exact (made_in f) k v l.1.0) w in
        (m.size, λ _. m.allows, λ no_k. absurd (no_k k))

    -- the variables of a known primitive are made
    pub refused_not : (OfMade (made_in f) c → ⊥) → ⊥
    refused_not refused = refused (claims.made (made_in f) k)

    pub told_failed : (g : Forest C) → Narrowed H f (λ v. Claimed H c v) g → Barren H g → TellSays (means_of t H f) p told.Failed (means_of t H g)
    told_failed g w none = (k, told_is g w, none)

    pub told_kept : (g : Forest C) → Narrowed H f (λ v. Claimed H c v) g → (Barren H g → ⊥) → TellSays (means_of t H f) p told.Kept (means_of t H g)
    told_kept g w some = (k, told_is g w, some)

    pub asked : (r : Bool) → Answers r (OfMade (made_in f) c × Throughout H f (λ v. Claimed H c v)) → Answers r (Follows (means_of t H f) p)
    asked r a =
        answers_iff r _ _
        (λ all. (k, λ v l. (claims.exact (made_in f) k v l.1.0).0 (all.1 v l)))
        (λ both. (claims.made (made_in f) k, λ v l. (claims.exact (made_in f) k v l.1.0).1 (both.1 v l))) a

  pub least_said : (x : ℕ) (r : Option ℤ) → forests.LeastSays H f x r → LeastSays (means_of t H f) x r
  least_said x (Some z) m = (m.within, m.reached, λ v a. (v x, refl, m.bound v a))
  least_said x None m = m

  pub greatest_said : (x : ℕ) (r : Option ℤ) → forests.GreatestSays H f x r → GreatestSays (means_of t H f) x r
  greatest_said x (Some z) m = (m.within, m.reached, λ v a. (v x, refl, m.bound v a))
  greatest_said x None m = m
