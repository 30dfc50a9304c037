use Rattle.rules.proofs.ValidOnce.{validity}
use Rattle.rulefile.specs.Rulebooks.{rules_book}
use Rattle.rulefile.proofs.loaded.Rules.rules.Goals as goal

pub returns-clause-valid : goal.returns-clause-valid
returns-clause-valid c = validity (rules_book c.args.self.now) c.args.self.now.valid
