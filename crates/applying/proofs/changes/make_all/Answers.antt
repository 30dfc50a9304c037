use Rattle.std.proofs.Common.{◌≡◌, subst, arith}
use Rattle.theory.specs.Meanings.{Made}
use Rattle.applying.proofs.Changing.{made_none, made_more}
use Rattle.applying.proofs.changes.make_all.Goals as goal

pub loop-made-init : goal.loop-made-init
loop-made-init g c h = made_none (g.T.Theory.means c.args.theory.now)

pub loop-made-preserved : goal.loop-made-preserved
loop-made-preserved g c h = made_more (g.T.Theory.means c.args.theory.now) (g.T.Theory.means c.loop-made.theory) (g.T.Theory.means c.make.new.self) c.loop-made._made g.T.Theory.capacity c.make.result (c.loop-made.invariant h) (omega (arith, h, c.loop-made-test.true)) c.make.ensures

pub returns : goal.returns
returns g c h = subst (λ n. Made (g.T.Theory.means c.args.theory.now) n (g.T.Theory.means c.loop-made.theory)) (let q : c.loop-made._made ≡ c.args.count = omega arith in q) (c.loop-made.invariant h)
