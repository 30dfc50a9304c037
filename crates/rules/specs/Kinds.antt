-- The numbers of kinds. Assumes nothing.
use Rattle.std.specs.Prelude.{◌≡◌, ℕ, ◌<◌, ◌≤◌, List, ◌++◌, codes, decimal, Ok, Err, Result}
use Rattle.rules.specs.declared.kind.UnknownKind.{UnknownKind}
use Rattle.rules.specs.declared.kind.TermKind as terms
use Rattle.rules.specs.declared.kind.TermKind.TheVariants.{Value, Slot}
use Rattle.rules.specs.declared.kind.PrimitiveKind as primitives
use Rattle.rules.specs.declared.kind.PrimitiveKind.TheVariants.{Same, Least, Most}
use Rattle.rules.specs.declared.kind.ItemKind as items
use Rattle.rules.specs.declared.kind.ItemKind.TheVariants.{Tell, Add}

-- an operand: a value, or a slot
abbrev pub term_kind_number : terms.TermKind → ℕ
term_kind_number Value = 0
term_kind_number Slot = 1

-- a primitive
abbrev pub primitive_kind_number : primitives.PrimitiveKind → ℕ
primitive_kind_number Same = 0
primitive_kind_number Least = 1
primitive_kind_number Most = 2

-- a body item: a primitive, or a new constraint
abbrev pub item_kind_number : items.ItemKind → ℕ
item_kind_number (Tell kind) = primitive_kind_number kind
item_kind_number Add = 3

-- the kind whose number is n, or n where it is above the most that a kind has
abbrev pub KindOf : {K : Type 0} → (K → ℕ) → ℕ → ℕ → Result K UnknownKind → Type 0
KindOf number most n (Ok kind) = (number kind ≡ n) × (n ≤ most)
KindOf number most n (Err e) = (e.0 ≡ n) × (most < n)

abbrev pub unknown_kind_text : UnknownKind → List ℕ
unknown_kind_text e = decimal e.0 ++ codes " is no kind"
