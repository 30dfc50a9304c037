-- A list of identifiers that rises and has exactly the records that answer. Assumes nothing.
use Rattle.std.specs.Prelude.{◌≡◌, ℕ, ◌<◌, true, List, length, ℤ, Option, slice_index}
use Rattle.table.specs.Tables.{Table}
use Rattle.table.specs.Nexts.{any_answers}

-- each number is above those before it
abbrev pub Rises : List ℕ → Type 0
Rises xs = (j k : ℕ) → j < k → k < length xs → slice_index xs j < slice_index xs k

-- the identifiers that have a record that answers to the symbol and the key, all of them and no other, in rising order and so each once
pub record Visited (t : Table) (s : Option ℕ) (k : Option ℤ) (xs : List ℕ) : Type 0 where
  pub rises : Rises xs
  pub none_other : (j : ℕ) → j < length xs → any_answers s k (t (slice_index xs j)) ≡ true
  pub all : (i : ℕ) → any_answers s k (t i) ≡ true → (j : ℕ) × (j < length xs) × (slice_index xs j ≡ i)
