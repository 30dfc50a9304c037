use Rattle.std.proofs.Common.{take}
use Rattle.theory.specs.Runs.{ToldAll}
use Rattle.theory.proofs.uses.tell_all.Given as goal

abbrev pub invariant-loop-p : goal.invariant-loop-p
invariant-loop-p g l = ToldAll (g.T.Theory.means l.initial.theory) (take l.p-index l.ps) (g.T.Theory.means l.theory)
