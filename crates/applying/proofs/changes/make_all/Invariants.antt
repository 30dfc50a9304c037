use Rattle.std.proofs.Common.{◌+◌, ◌≤◌}
use Rattle.theory.specs.Meanings.{Made}
use Rattle.applying.proofs.changes.make_all.Given as goal

abbrev pub invariant-loop-made : goal.invariant-loop-made
invariant-loop-made g l = (g.T.Theory.means l.initial.theory).made + l.count ≤ g.T.Theory.capacity → Made (g.T.Theory.means l.initial.theory) l._made (g.T.Theory.means l.theory)
