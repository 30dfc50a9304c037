-- What waits, and which goals can be put to it. Assumes nothing.
use Rattle.std.specs.Prelude.{Bool, true, false, ◌&&◌, List, length, nat_lt, Ok, Err, Result}
use Rattle.rules.specs.Books.{Goal}
use Rattle.terms.specs.declared.Operand.{Operand}
use Rattle.machine.specs.Sheets.{Entry}
use Rattle.lists.specs.declared.entry.Goal as code_goal
use Rattle.lists.specs.declared.waiting.Waiting.{Waiting}
use Rattle.lists.specs.Entries.{storable}
use Rattle.lists.specs.Rooms.{entries_of}

-- what waits, the top first
abbrev pub queued : Waiting → List Entry
queued w = entries_of w.entries

-- whether the goal can wait too: fewer than 512 wait, and it is no constraint that a table does not take
abbrev pub can_wait : Waiting → Goal Operand → Bool
can_wait w g = nat_lt (length (queued w)) 512 && storable g

-- nothing where there is room for a goal, and else the goal
abbrev pub told_room : Bool → code_goal.Goal → Result Unit code_goal.Goal
told_room true g = Ok tt
told_room false g = Err g
