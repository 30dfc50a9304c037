-- Primitives as claims on a forest of classes. Assumes nothing.
use Rattle.std.specs.Prelude.{◌≡◌, ℕ, ◌<◌, true, ◌↔◌, ℤ, Option}
use Rattle.terms.specs.declared.Operand.{Operand}
use Rattle.terms.specs.declared.Primitive.{Primitive}
use Rattle.terms.specs.Domains.{TrueIn, worth}
use Rattle.contents.specs.Contents.{HeldIn}
use Rattle.classes.specs.Rows.{Valued}
use Rattle.theory.specs.declared.claim.Claim.{Claim}
use Rattle.theory.specs.declared.claim.Claim.TheVariants.{Alike, Within, Plain}
use Rattle.theory.specs.Meanings.{Known, KnownAll}
use Rattle.theory.specs.Wholes.{Truth, whole}

-- the claim is true in the valuation
abbrev pub Claimed : {C : Type 0} → (C → ℤ → Type 0) → Claim C → (ℕ → ℤ) → Type 0
Claimed H (Alike x y) v = v x ≡ v y
Claimed H (Within x by) v = HeldIn H by (v x)
Claimed H (Plain b) v = b ≡ true

-- its variables are made
abbrev pub OfMade : {C : Type 0} → ℕ → Claim C → Type 0
OfMade made (Alike x y) = (x < made) × (y < made)
OfMade made (Within x by) = x < made
OfMade made (Plain b) = Unit {0}

-- the claim says that what an operand stands for is in what `by` holds
pub record ClaimsOf {C : Type 0} (t : Truth) (H : C → ℤ → Type 0) (a : Operand) (by : Option C) (c : Claim C) : Type 0 where
  pub exact : (v : ℕ → ℤ) → Claimed H c v ↔ HeldIn H by (worth (whole t) v a)
  pub made : (m : ℕ) → Known m a → OfMade m c

-- the claim says what a primitive does that is known
pub record Claims {C : Type 0} (t : Truth) (H : C → ℤ → Type 0) (p : Primitive Operand) (c : Claim C) : Type 0 where
  pub exact : (m : ℕ) → KnownAll m p → (v : ℕ → ℤ) → Valued v → Claimed H c v ↔ TrueIn (whole t) v p
  pub made : (m : ℕ) → KnownAll m p → OfMade m c
