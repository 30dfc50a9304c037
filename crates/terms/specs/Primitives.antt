-- The parts of a primitive: what it speaks of, and the bare number of least and most. Assumes nothing.
use Rattle.std.specs.Prelude.{ℤ, ℕ, ◌<◌}
use Rattle.terms.specs.declared.Primitive.{Primitive}
use Rattle.terms.specs.declared.Primitive.TheVariants.{Same, Least, Most}
use Rattle.terms.specs.declared.Term.{Term}
use Rattle.terms.specs.declared.Term.TheVariants.{Value, Slot}
use Rattle.terms.specs.Values.{IsValue}

-- the same primitive, of what f gives
abbrev pub map_primitive : {A B : Type 0} → (A → B) → Primitive A → Primitive B
map_primitive f (Same a b) = Same (f a) (f b)
map_primitive f (Least a n) = Least (f a) n
map_primitive f (Most a n) = Most (f a) n

-- P holds of what it speaks of, and Q of its number
abbrev pub EachPart : {A : Type 0} → (A → Type 0) → (ℤ → Type 0) → Primitive A → Type 0
EachPart P Q (Same a b) = P a × P b
EachPart P Q (Least a n) = P a × Q n
EachPart P Q (Most a n) = P a × Q n

-- a value, or one of n slots
abbrev pub TermValid : ℕ → Term → Type 0
TermValid n (Value x) = IsValue x
TermValid n (Slot k) = k < n

-- a primitive over values and n slots
abbrev pub PrimitiveValid : ℕ → Primitive Term → Type 0
PrimitiveValid n = EachPart (TermValid n) IsValue
