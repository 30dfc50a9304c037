use Rattle.std.proofs.Common.{ap}
use Rattle.listing.specs.Texts.{constraint_text}
use Rattle.listing.proofs.RuleTexts.{slots_are}
use Rattle.listing.proofs.Steps.{spelled}
use Rattle.listing.proofs.rule.show_head.Goals as goal

pub returns : goal.returns
returns g c plain ok = spelled (ap (constraint_text c.args.symbol) (slots_are c.args.first c.args.count c.requires.0)) (c.write.ensures.writes plain ok)
