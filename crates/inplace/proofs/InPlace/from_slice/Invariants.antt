use Rattle.std.proofs.Common.{◌≡◌, length, take}
use Rattle.inplace.proofs.InPlace.from_slice.Given as goal

abbrev pub invariant-loop-place : goal.invariant-loop-place
invariant-loop-place g l = (length l.places ≡ g.row.N) × (take l.place l.places ≡ take l.place l.slice)
