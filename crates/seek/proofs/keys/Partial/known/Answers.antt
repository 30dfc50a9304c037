use Rattle.std.proofs.Common.{◌∙◌}
use Rattle.rulefile.specs.Rulebooks.{rules_book}
use Rattle.machine.specs.Tuples.{ids}
use Rattle.seek.specs.Fillings.{filler_at}
use Rattle.seek.specs.Slots.{store_in}
use Rattle.seek.proofs.Located.{partial_read, partial_unread}
use Rattle.seek.proofs.keys.Partial.known.Goals as goal

pub returns-in_err-place : goal.returns-in_err-place
returns-in_err-place g c = c.from_residual.ensures ∙ partial_unread (rules_book c.args.self.now.slots.rules.now).arities (store_in g.P.PartnerTable c.args.self.now.slots.table.now) c.args.self.now.slots.heads.now (filler_at (ids c.args.self.now.slots.tuple) c.args.self.now.head c.args.self.now.active) c.args.slot c.locate.result c.locate.ensures c.in_err-place.was

pub returns : goal.returns
returns g c = partial_read (rules_book c.args.self.now.slots.rules.now).arities (store_in g.P.PartnerTable c.args.self.now.slots.table.now) c.args.self.now.slots.heads.now (filler_at (ids c.args.self.now.slots.tuple) c.args.self.now.head c.args.self.now.active) c.args.slot c.locate.result c.locate.ensures (c.in_ok-place.place, c.in_ok-place.argument) c.in_ok-place.was c.filler.result c.filler.ensures c.argument_of.result c.argument_of.ensures
