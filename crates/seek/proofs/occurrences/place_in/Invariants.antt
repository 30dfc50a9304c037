use Rattle.std.proofs.Common.{◌≡◌, ℕ, ◌+◌, ◌≤◌, List, ◌++◌, length}
use Rattle.table.specs.Lists.{nth}
use Rattle.machine.specs.Occurrences.{places_from}
use Rattle.seek.proofs.occurrences.place_in.Given as goal

abbrev pub invariant-loop-place : goal.invariant-loop-place
invariant-loop-place l =
    let heads = l.place-iterator.iter.iter.rest.now in
    (passed : List ℕ)
    × (l.heads ≡ heads ++ passed)
    × (l.place-iterator.iter.count ≡ 0)
    × ((k : ℕ) (rest : List (ℕ × ℕ)) → nth (places_from k l.symbol l.heads 0 ++ rest) l.index ≡ nth (places_from k l.symbol heads 0 ++ rest) l.left)
    × (l.index ≤ l.left + length passed)
