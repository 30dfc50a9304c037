use Rattle.std.proofs.Common.{vec_items, arith, length-take}
use Rattle.std.proofs.lemmas.Grind.{common_steps}
use Rattle.rules.proofs.Cuts.{back_cut}
use Rattle.rules.proofs.Rule.removed_heads.Goals as goal

pub returns-clause-value : goal.returns-clause-value
returns-clause-value c = rw c.deref.ensures.value (back_cut c.args.self.now.kept c.min-start.result (vec_items c.args.self.now.heads) (omega (arith, c.args.self.now.heads.ok.0)))

pub returns-clause-bound : goal.returns-clause-bound
returns-clause-bound c = grind (arith, length-take, common_steps)
