-- What stands in the slots of heads that a tuple fills. Assumes nothing.
use Rattle.std.specs.Prelude.{ℕ, suc, ◌-◌, cond, List, [], ◌∷◌, Some, None, Option, nat_lt, slice_index}
use Rattle.terms.specs.declared.Operand.{Operand}
use Rattle.rulefile.specs.Rulebooks.{rules_book}
use Rattle.table.specs.declared.partner.PartnerTable as PartnerTable
use Rattle.table.specs.Lists.{first, nth}
use Rattle.machine.specs.Matching.{Store, head_slot}
use Rattle.machine.specs.Keys.{partial_slot}
use Rattle.machine.specs.Tuples.{ids}
use Rattle.seek.specs.declared.slots.Slots.{Slots}

-- the same a head later
abbrev pub later : Option (ℕ × ℕ) → Option (ℕ × ℕ)
later None = None
later (Some o) = Some (suc o.0, o.1)

-- the head that a slot belongs to, and which argument of that head it is
abbrev pub located : List ℕ → List ℕ → ℕ → Option (ℕ × ℕ)
located arities [] k = None
located arities (c ∷ cs) k = cond (nat_lt k (slice_index arities c)) (Some (0, k)) (later (located arities cs (k - slice_index arities c)))

module _ {B : Type 0} (P : PartnerTable.Ghosts B) where
  -- the living constraints of a table
  abbrev pub store_in : B → Store
  store_in t i = first (P.records t i)

  -- what stands in a slot of the heads
  abbrev pub slot_in : Slots B → ℕ → Operand
  slot_in f = head_slot (rules_book f.rules.now).arities (store_in f.table.now) f.heads.now (ids f.tuple)

  -- the argument of the constraint at the head that a slot belongs to, if there is one
  abbrev pub argument_in : Slots B → ℕ → Option Operand
  argument_in f = partial_slot (rules_book f.rules.now).arities (store_in f.table.now) f.heads.now (λ p. nth (ids f.tuple) p)
