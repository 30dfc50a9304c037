use Rattle.std.proofs.Common.{◌∙◌}
use Rattle.machine.proofs.Members.{contains_memberb}
use Rattle.lists.proofs.reserved.methods.is_among.Goals as goal

pub returns : goal.returns
returns c = c.contains.ensures.value ∙ contains_memberb c.args.identifier c.args.those.now
