-- What stands in the slots of a rule's body, and when its items can be filled and can wait. Assumes nothing.
use Rattle.std.specs.Prelude.{ℕ, ◌+◌, ◌-◌, ◌≤◌, cond, min, List, length, nat_lt}
use Rattle.terms.specs.declared.Operand.{Operand}
use Rattle.terms.specs.declared.Operand.TheVariants.{Variable}
use Rattle.terms.specs.declared.Term.{Term}
use Rattle.terms.specs.Lists.{All}
use Rattle.rules.specs.Books.{Goal, slot_count}
use Rattle.rules.specs.Valids.{GoalValid}
use Rattle.rulefile.specs.Rulebooks.{rules_book}
use Rattle.table.specs.declared.partner.PartnerTable as PartnerTable
use Rattle.lists.specs.declared.lists.Lists.{Lists}
use Rattle.lists.specs.Views.{waiting_of}
use Rattle.seek.specs.Slots.{slot_in}
use Rattle.applying.specs.declared.body.Filler.{Filler}

module _ {B : Type 0} where
  -- how many arguments each symbol takes
  abbrev pub argument_counts : Filler B → List ℕ
  argument_counts f = (rules_book f.slots.rules.now).arities

  -- how many slots the heads have together
  abbrev pub head_slots : Filler B → ℕ
  head_slots f = slot_count (argument_counts f) f.slots.heads.now

  -- there are three heads at most, and of n slots each after those of the heads has a number below 256 for its variable
  pub record Numbered (f : Filler B) (n : ℕ) : Type 0 where
    pub few_heads : length f.slots.heads.now ≤ 3
    pub small : f.made + (n - head_slots f) ≤ 256

  -- the items are valid over n such slots, and no more than 512 wait with them
  pub record ItemsFit (f : Filler B) (l : Lists) (gs : List (Goal Term)) (n : ℕ) : Type 0 where
    pub numbered : Numbered f n
    pub valid : All (GoalValid (argument_counts f) n) gs
    pub room : length (waiting_of l) + length gs ≤ 512

module _ {B : Type 0} (P : PartnerTable.Ghosts B) where
  -- what stands in a slot of the body: what the head slots have, and then the fresh variables, numbered from the made ones on
  abbrev pub operand_at : Filler B → ℕ → Operand
  operand_at f k = cond (nat_lt k (head_slots f)) (slot_in P f.slots k) (Variable (f.made + (k - head_slots f)))

  -- the same as bytes count it: how many slots there are, and the number of a variable, are 255 where they would pass it
  abbrev pub placed_at : Filler B → ℕ → Operand
  placed_at f k = cond (nat_lt k (min (head_slots f) 255)) (slot_in P f.slots k) (Variable (min (f.made + (k - min (head_slots f) 255)) 255))
