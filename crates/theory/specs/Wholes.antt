-- Theories of whole numbers, whose variables form classes. Assumes nothing.
use Rattle.std.specs.Prelude.{◌≡◌, Bool, true, false, T, ◌↔◌, ℤ, ◌≤ℤ◌, int_le, refl}
use Rattle.std.proofs.Common.{sym, subst}
use Rattle.std.proofs.Math.IntN.{ℤ_discrete}
use Rattle.terms.specs.declared.Primitive.{Primitive}
use Rattle.terms.specs.declared.Primitive.TheVariants.{Same, Least, Most}
use Rattle.terms.specs.Values.{IsValue}
use Rattle.terms.specs.Domains.{Domain}
use Rattle.classes.specs.declared.forest.Forest.{Forest}
use Rattle.classes.specs.Forests.{made_in, Allows}
use Rattle.theory.specs.Meanings.{Meaning}

-- which primitives are true of whole numbers
pub record Truth : Type 1 where
  pub True : Primitive ℤ → Type 0
  pub same : (a b : ℤ) → True (Same a b) ↔ (a ≡ b)
  pub decided : (p : Primitive ℤ) → Dec (True p)

-- the domain of the values, with such a truth
abbrev pub whole : Truth → Domain
whole t = record { Worth = ℤ; Proper = IsValue; number = λ z. z; True = t.True; proper = λ n p. p; apart = λ m n e. e; same = t.same; decided = t.decided }

-- names: no order is true
abbrev pub Named : Primitive ℤ → Type 0
Named (Same a b) = a ≡ b
Named (Least a n) = ⊥
Named (Most a n) = ⊥

-- bounds: the order of the numbers
abbrev pub InOrder : Primitive ℤ → Type 0
InOrder (Same a b) = a ≡ b
InOrder (Least a n) = n ≤ℤ a
InOrder (Most a n) = a ≤ℤ n

-- an order of two numbers is decided, by its test
order_decided : (b : Bool) (m n : ℤ) → int_le m n ≡ b → Dec (m ≤ℤ n)
order_decided true m n e = yes (record { le = subst T (sym e) tt })
order_decided false m n e = no (λ l. subst T e l.le)

-- what is true in names is decided
pub named_decided : (p : Primitive ℤ) → Dec (Named p)
named_decided (Same a b) = ℤ_discrete a b
named_decided (Least a n) = no (λ e. e)
named_decided (Most a n) = no (λ e. e)

-- and what is true in bounds
pub in_order_decided : (p : Primitive ℤ) → Dec (InOrder p)
in_order_decided (Same a b) = ℤ_discrete a b
in_order_decided (Least a n) = order_decided (int_le n a) n a refl
in_order_decided (Most a n) = order_decided (int_le a n) a n refl

-- the truth of names
abbrev pub named : Truth
named = record { True = Named; same = λ a b. (λ e. e, λ e. e); decided = named_decided }

-- the truth of bounds
abbrev pub in_order : Truth
in_order = record { True = InOrder; same = λ a b. (λ e. e, λ e. e); decided = in_order_decided }

-- a forest of classes means the variables made in it and the valuations that it allows
abbrev pub means_of : {C : Type 0} (t : Truth) → (C → ℤ → Type 0) → Forest C → Meaning (whole t)
means_of t H f = record { made = made_in f; admits = λ v. Allows H f v }
