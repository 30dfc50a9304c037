-- What the memory of the lists holds, and what is kept of it. Assumes nothing.
use Rattle.std.specs.Prelude.{◌≡◌, ℕ, ◌≤◌, true, not, List, map, vec_items, vec_len, vec_capacity, filter, Vec}
use Rattle.std.specs.VecDeque.{deque_items, deque_len, deque_capacity}
use Rattle.std.specs.declared.collections.VecDeque.{VecDeque}
use Rattle.machine.specs.declared.tuple.firing.Firing as code_firing
use Rattle.machine.specs.Matching.{Firing}
use Rattle.machine.specs.Refined.{names_any}
use Rattle.machine.specs.Sheets.{Entry}
use Rattle.machine.specs.Tuples.{firing_of}
use Rattle.lists.specs.declared.entry.Entry as code_entry
use Rattle.lists.specs.Entries.{entry_means, all_storable}

module _ {Z : Type 0} where
  -- what waits, the top first
  abbrev pub entries_of : VecDeque code_entry.Entry Z → List Entry
  entries_of q = map entry_means (deque_items q)

  -- what was applied, the oldest first
  abbrev pub firings_of : Vec code_firing.Firing Z → List Firing
  firings_of v = map firing_of (vec_items v)

  -- there is room for 512 entries, no more wait, and a table takes each constraint among them
  abbrev pub WaitingKept : VecDeque code_entry.Entry Z → Type 0
  WaitingKept q = (512 ≤ deque_capacity q) × (deque_len q ≤ 512) × (all_storable (entries_of q) ≡ true)

  -- there is room for n, and no more stand there
  abbrev pub Roomy : {X : Type 0} → ℕ → Vec X Z → Type 0
  Roomy n v = (n ≤ vec_capacity v) × (vec_len v ≤ n)

-- what names none of those gone, in its order
abbrev pub unnamed : List ℕ → List Firing → List Firing
unnamed gone = filter (λ f. not (names_any gone f.1))

-- an identifier that can be given, or the one after all of them
abbrev pub Following : ℕ → Type 0
Following n = (1 ≤ n) × (n ≤ 1_000_001)
