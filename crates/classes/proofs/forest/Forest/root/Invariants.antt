use Rattle.std.proofs.Common.{◌≡◌, ◌-◌, ◌<◌, vec_items, length}
use Rattle.classes.specs.Rows.{root_of, standing_at}
use Rattle.classes.proofs.forest.Forest.root.Given as goal

abbrev pub invariant-loop-at : goal.invariant-loop-at
invariant-loop-at g l = (l.at < length (vec_items l.self.rows)) × (root_of (vec_items l.self.rows) l.at ≡ root_of (vec_items l.self.rows) l.x)

abbrev pub decreases-loop-at : goal.decreases-loop-at
decreases-loop-at g l = 65_536 - standing_at (vec_items l.self.rows) l.at
