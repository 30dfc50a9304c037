-- A front of rows before a table, both as one. Assumes nothing.
use Rattle.std.specs.Prelude.{◌≡◌, ℕ, ◌+◌, ◌-◌, ◌<◌, ◌≤◌, min, List, take, Result}
use Rattle.table.specs.Records.{Record}
use Rattle.table.specs.Rows.{look}
use Rattle.table.specs.Tables.{Table, size, both, put_after}
use Rattle.table.specs.declared.put.PutRefusal.{PutRefusal}
use Rattle.table.specs.declared.row.Row.{Row}

-- how many rows of its own a front has before a table that holds n records: 32, or fewer where both would pass 4,096
abbrev pub own_limit : ℕ → ℕ
own_limit n = min 32 (4096 - n)

-- how many records both hold
abbrev pub front_limit : ℕ → ℕ
front_limit n = own_limit n + n

-- the records in its own rows
abbrev pub own_records : ℕ → List Row → Table
own_records n rows = look (take (own_limit n) rows)

-- all records: its own, and those behind
abbrev pub front_records : ℕ → List Row → Table → Table
front_records n rows behind = both (own_records n rows) behind

-- a put of r under n that was so answered, where the front's own rows come first: while one is free, the record goes there and those behind stay; else its own stay and the record goes behind
pub record OwnFirst (limit : ℕ) (own behind own' behind' : Table) (n : ℕ) (r : Record) (a : Result (Unit {0}) PutRefusal) : Type 0 where
  pub while_free : size own < own_limit limit → (own' ≡ put_after own n r a) × (behind' ≡ behind)
  pub then_behind : own_limit limit ≤ size own → (own' ≡ own) × (behind' ≡ put_after behind n r a)
