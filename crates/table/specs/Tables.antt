-- What a partner table means, and what its changes do to it. Assumes nothing.
use Rattle.std.specs.Prelude.{ℕ, zero, suc, ◌+◌, Bool, true, false, cond, List, [], ◌∷◌, ◌++◌, length, Ok, Err, Result, ◌==◌, nat_lt}
use Rattle.table.specs.Lists.{is_none, memberb}
use Rattle.table.specs.Records.{Record, fit}
use Rattle.table.specs.declared.put.PutRefusal.{PutRefusal}
use Rattle.table.specs.declared.put.PutRefusal.TheVariants.{Unfit, Twice, Full}

-- the records under each identifier. A table that began cleared has at most one under each
abbrev pub Table : Type 0
Table = ℕ → List Record

-- no record
abbrev pub nothing : Table
nothing i = []

-- how many records stand under the identifiers 1 to n
unfoldable pub tally : Table → ℕ → ℕ
tally t zero = 0
tally t (suc n) = length (t (suc n)) + tally t n

-- how many records there are
abbrev pub size : Table → ℕ
size t = tally t 1000000

-- the record r under n, where none stands there yet
abbrev pub with_record : Table → ℕ → Record → Table
with_record t n r i = cond (n == i) (cond (is_none (t n)) (r ∷ []) (t n)) (t i)

-- the records of the one before those of the other, under each identifier
abbrev pub both : Table → Table → Table
both s t i = s i ++ t i

-- no record under those identifiers
abbrev pub without : Table → List ℕ → Table
without t gone i = cond (memberb i gone) [] (t i)

-- what a put is answered, by whether the record is fit, whether none stands under the identifier, and whether there is room: unfit where it is not fit, else twice where one stands there, else full where there is no room, and else no refusal
abbrev pub judged : Bool → Bool → Bool → Result (Unit {0}) PutRefusal
judged false fresh room = Err Unfit
judged true false room = Err Twice
judged true true false = Err Full
judged true true true = Ok tt

-- what a put of r under n is answered by a table that holds so many at most
abbrev pub put_answer : Table → ℕ → ℕ → Record → Result (Unit {0}) PutRefusal
put_answer t limit n r = judged (fit n r) (is_none (t n)) (nat_lt (size t) limit)

-- the table after a put of r under n that was so answered
abbrev pub put_after : Table → ℕ → Record → Result (Unit {0}) PutRefusal → Table
put_after t n r (Ok done) = with_record t n r
put_after t n r (Err refusal) = t
