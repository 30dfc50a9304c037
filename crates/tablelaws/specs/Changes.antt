-- What a list of changes makes of a table. Assumes nothing.
use Rattle.std.specs.Prelude.{◌≡◌, ℕ, ◌≤◌, Bool, true, false, ◌&&◌, List, [], ◌∷◌, length, ℤ, vec_items, Option, Ok, Err, Result}
use Rattle.table.specs.Nexts.{NextOf}
use Rattle.table.specs.Records.{recorded}
use Rattle.table.specs.Tables.{Table, nothing, without, put_answer, put_after}
use Rattle.table.specs.declared.put.PutRefusal.{PutRefusal}
use Rattle.table.specs.declared.put.PutRefusal.TheVariants.{Unfit, Twice, Full}
use Rattle.tablelaws.specs.declared.changes.Change.{Change}
use Rattle.tablelaws.specs.declared.changes.Change.TheVariants as change

-- the table after a change, where it holds so many records at most
abbrev pub changed : ℕ → Change → Table → Table
changed limit change.Clear t = nothing
changed limit (change.Put n s xs) t = put_after t n (recorded s (vec_items xs)) (put_answer t limit n (recorded s (vec_items xs)))
changed limit (change.Remove n) t = without t (n ∷ [])

-- the table after all of them, the first one first
abbrev pub changed_all : ℕ → List Change → Table → Table
changed_all limit [] t = t
changed_all limit (c ∷ cs) t = changed_all limit cs (changed limit c t)

-- any answer but full
abbrev pub not_full : Result (Unit {0}) PutRefusal → Bool
not_full (Ok done) = true
not_full (Err Unfit) = true
not_full (Err Twice) = true
not_full (Err Full) = false

-- whether the change is no put that is answered full
abbrev pub finds_room : ℕ → Change → Table → Bool
finds_room limit change.Clear t = true
finds_room limit (change.Put n s xs) t = not_full (put_answer t limit n (recorded s (vec_items xs)))
finds_room limit (change.Remove n) t = true

-- whether none of them is
abbrev pub all_find_room : ℕ → List Change → Table → Bool
all_find_room limit [] t = true
all_find_room limit (c ∷ cs) t = finds_room limit c t && all_find_room limit cs (changed limit c t)

-- at most one record stands under each identifier
abbrev pub AtMostOne : Table → Type 0
AtMostOne t = (i : ℕ) → length (t i) ≤ 1

-- every next is answered alike
abbrev pub NextAlike : Table → Table → Type 0
NextAlike t u = (s : Option ℕ) (k : Option ℤ) (low : ℕ) (a b : Option ℕ) → NextOf t s k low a → NextOf u s k low b → a ≡ b
