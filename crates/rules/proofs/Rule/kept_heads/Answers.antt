use Rattle.std.proofs.Common.{arith, length-take}
use Rattle.std.proofs.lemmas.Grind.{common_steps}
use Rattle.rules.proofs.Cuts.{front_cut}
use Rattle.rules.proofs.Rule.kept_heads.Goals as goal

pub returns-clause-value : goal.returns-clause-value
returns-clause-value c = rw c.deref.ensures.value (front_cut _ _ _ (omega (arith, c.args.self.now.heads.ok.0)))

pub returns-clause-bound : goal.returns-clause-bound
returns-clause-bound c = grind (arith, length-take, common_steps)
