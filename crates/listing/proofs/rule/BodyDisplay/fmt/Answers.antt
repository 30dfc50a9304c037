use Rattle.std.proofs.Common.{sym}
use Rattle.std.proofs.lemmas.Bool.{eqb-false}
use Rattle.listing.proofs.RuleTexts.{body_is}
use Rattle.listing.proofs.Steps.{spelled}
use Rattle.listing.proofs.rule.BodyDisplay.fmt.Goals as goal

pub returns-clause-writes : goal.returns-clause-writes
returns-clause-writes g c plain ok = spelled (body_is c.args.self.now.0.now (eqb-false _ 0 (sym c.if-is_empty.ensures))) (c.write.ensures.writes plain ok)
