use Rattle.theory.proofs.Telling.{told_more, told_all}
use Rattle.theory.proofs.uses.tell_all.Goals as goal

pub loop-p-preserved : goal.loop-p-preserved
loop-p-preserved g c =
    told_more (g.T.Theory.means c.args.theory.now) (g.T.Theory.means c.loop-p.theory) (g.T.Theory.means c.tell.new.self) c.args.ps.now
    c.loop-p.p-index _ c.tell.result c.loop-p-test.true c.loop-p.invariant c.tell.ensures

pub returns : goal.returns
returns g c =
    told_all (g.T.Theory.means c.args.theory.now) (g.T.Theory.means c.loop-p.theory) c.args.ps.now c.loop-p.p-index c.loop-p-test.false c.loop-p.invariant
