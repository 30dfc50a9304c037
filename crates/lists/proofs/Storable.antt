-- Constraints that a table takes. Assumes nothing.
use Rattle.std.proofs.Common.{◌≡◌, true, List, [], ◌∷◌, ◌++◌, refl}
use Rattle.std.proofs.lemmas.Bool.{and_parts, and_from}
use Rattle.machine.specs.Sheets.{Entry}
use Rattle.lists.specs.Entries.{storable_entry, all_storable}

pub storable_push : (es : List Entry) (e : Entry) → all_storable es ≡ true → storable_entry e ≡ true → all_storable (es ++ (e ∷ [])) ≡ true
storable_push [] e q s = and_from (storable_entry e) true s refl
storable_push (x ∷ es) e q s = let p = and_parts (storable_entry x) (all_storable es) q in and_from (storable_entry x) (all_storable (es ++ (e ∷ []))) p.0 (storable_push es e p.1 s)
