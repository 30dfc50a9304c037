-- The heads of a rule while partners are sought, and the key of the next. Assumes nothing.
use Rattle.std.specs.Prelude.{ℕ, cond, List, length, take, ℤ, Some, None, Option, ◌==◌, nat_lt, slice_index}
use Rattle.std.specs.Option.{option_or}
use Rattle.terms.specs.declared.Operand.{Operand}
use Rattle.terms.specs.declared.Primitive.{Primitive}
use Rattle.terms.specs.declared.Term.{Term}
use Rattle.rules.specs.Books.{slot_count}
use Rattle.rulefile.specs.Rulebooks.{rules_book}
use Rattle.table.specs.declared.partner.PartnerTable as PartnerTable
use Rattle.table.specs.Lists.{nth}
use Rattle.machine.specs.Keys.{Filling, partial_slot, value_in, is_slot, key_from}
use Rattle.machine.specs.Tuples.{ids}
use Rattle.seek.specs.Slots.{store_in}
use Rattle.seek.specs.declared.keys.Partial.{Partial}

-- the first heads are filled by the identifiers, and the head h by i
abbrev pub filler_at : List ℕ → ℕ → ℕ → Filling
filler_at is h i p = option_or (nth is p) (cond (p == h) (Some i) None)

-- the value of a term that stands beside a slot
abbrev pub value_beside : (ℕ → Option Operand) → ℕ → Term → Term → Option ℤ
value_beside at k other t = cond (is_slot k other) (value_in at t) None

module _ {B : Type 0} (P : PartnerTable.Ghosts B) where
  -- what stands in a slot, if its head is filled
  abbrev pub known_in : Partial B → ℕ → Option Operand
  known_in f = partial_slot (rules_book f.slots.rules.now).arities (store_in P f.slots.table.now) f.slots.heads.now (filler_at (ids f.slots.tuple) f.head f.active)

  -- the key of the first head that the identifiers do not fill
  abbrev pub key_in : Partial B → List (Primitive Term) → Option ℤ
  key_in f gs = cond (nat_lt 0 (slice_index (rules_book f.slots.rules.now).arities (slice_index f.slots.heads.now (length (ids f.slots.tuple))))) (key_from (known_in f) (slot_count (rules_book f.slots.rules.now).arities (take (length (ids f.slots.tuple)) f.slots.heads.now)) gs) None
