-- What the entries of a waiting list mean, and which of them a table takes. Assumes nothing.
use Rattle.std.specs.Prelude.{◌≡◌, ℕ, suc, ◌≤◌, Bool, true, ◌&&◌, List, [], ◌∷◌, length, nat_le, nat_lt}
use Rattle.terms.specs.declared.Operand.{Operand}
use Rattle.rules.specs.Books.{Goal, tell, add}
use Rattle.table.specs.Records.{all_fitting, fit, recorded}
use Rattle.machine.specs.Sheets.{Entry, goal, wake, active}
use Rattle.inplace.specs.declared.InPlace.{InPlace}
use Rattle.inplace.specs.Items.{items}
use Rattle.lists.specs.declared.entry.Goal as code_goal
use Rattle.lists.specs.declared.entry.Goal.TheVariants.{Tell, Add}
use Rattle.lists.specs.declared.entry.Entry as code_entry
use Rattle.lists.specs.declared.entry.Entry.TheVariants as entry

-- the operands of a constraint, in their order
abbrev pub arguments_list : InPlace Operand 4 → List Operand
arguments_list a = items a

-- the primitive or the constraint that a goal of the code is
abbrev pub goal_means : code_goal.Goal → Goal Operand
goal_means (Tell p) = tell p
goal_means (Add s a) = add s (arguments_list a)

-- the entry that an entry of the code is, where occurrences are counted from 0
abbrev pub entry_means : code_entry.Entry → Entry
entry_means (entry.Goal g) = goal (goal_means g)
entry_means (entry.Wake i) = wake i
entry_means (entry.Active i j) = active i (suc j)

-- a primitive, or a constraint that a table takes under an identifier from 1 to 1,000,000
abbrev pub storable : Goal Operand → Bool
storable (tell p) = true
storable (add s xs) = nat_lt s 32 && (nat_le (length xs) 4 && all_fitting xs)

-- if it is a goal, it is such
abbrev pub storable_entry : Entry → Bool
storable_entry (goal g) = storable g
storable_entry (wake i) = true
storable_entry (active i j) = true

-- each entry is such
abbrev pub all_storable : List Entry → Bool
all_storable [] = true
all_storable (e ∷ es) = storable_entry e && all_storable es

-- a constraint to add is one that a table takes under every identifier from 1 to 1,000,000
abbrev pub Puttable : Entry → Type 0
Puttable (goal (tell p)) = Unit {0}
Puttable (goal (add s xs)) = (n : ℕ) → 1 ≤ n → n ≤ 1_000_000 → fit n (recorded s xs) ≡ true
Puttable (wake i) = Unit {0}
Puttable (active i j) = Unit {0}
