-- How many heads a rule has. Assumes nothing.
use Rattle.std.specs.Prelude.{◌≤◌, length}
use Rattle.rules.specs.Books.{Rule, heads}

-- at most three heads
abbrev pub FewHeads : Rule → Type 0
FewHeads r = length (heads r) ≤ 3
