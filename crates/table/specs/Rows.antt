-- What a list of rows means. Assumes nothing.
use Rattle.std.specs.Prelude.{◌≡◌, ℕ, ◌<◌, Bool, true, false, cond, ◌&&◌, List, [], ◌∷◌, ◌++◌, length, get_or, Some, None, Option, Ok, Err, Result, ◌==◌, slice_index_or}
use Rattle.std.specs.List.{remove}
use Rattle.inplace.specs.Items.{items}
use Rattle.table.specs.Lists.{is_none, first}
use Rattle.table.specs.Records.{Record, recorded, fit}
use Rattle.table.specs.Tables.{Table}
use Rattle.table.specs.declared.put.PutRefusal.{PutRefusal}
use Rattle.table.specs.declared.row.Row.{Row}

-- the record that a row holds
abbrev pub record_of : Row → Record
record_of r = recorded r.symbol (items r.arguments)

-- the records under each identifier, in the order of the rows
abbrev pub look : List Row → Table
look [] i = []
look (r ∷ rs) i = cond (r.identifier == i) (record_of r ∷ look rs i) (look rs i)

-- each row is a record, and no two have one identifier
abbrev pub lawful : List Row → Bool
lawful [] = true
lawful (r ∷ rs) = fit r.identifier (record_of r) && (is_none (look rs r.identifier) && lawful rs)

-- the row made for a record under an identifier, or none where the record is not fit for it
abbrev pub Made : ℕ → Record → Option Row → Type 0
Made n r None = fit n r ≡ false
Made n r (Some x) = (fit n r ≡ true) × (x.identifier ≡ n) × (record_of x ≡ r)

-- the place of the first row of an identifier, or none where it has no row
abbrev pub Position : List Row → ℕ → Option ℕ → Type 0
Position rows n None = look rows n ≡ []
Position rows n (Some k) = (k < length rows) × ((d : Row) → ((get_or rows k d).identifier ≡ n) × (first (look rows n) ≡ Some (record_of (slice_index_or rows k d))))

-- the rows after a put: one more at the end, or the same
abbrev pub Placed : List Row → List Row → ℕ → Record → Result (Unit {0}) PutRefusal → Type 0
Placed xs ys n r (Ok done) = (x : Row) × (ys ≡ xs ++ x ∷ []) × (x.identifier ≡ n) × (record_of x ≡ r)
Placed xs ys n r (Err refusal) = ys ≡ xs

-- the rows after the row of an identifier was taken out of its place, or the same where it had none
abbrev pub TakenOut : List Row → List Row → ℕ → Option ℕ → Type 0
TakenOut xs ys n None = (look xs n ≡ []) × (ys ≡ xs)
TakenOut xs ys n (Some k) = (k < length xs) × ((d : Row) → (get_or xs k d).identifier ≡ n) × (ys ≡ remove xs k)
