use Rattle.std.proofs.Common.{ap, pos, unwrap_or, ◌∙◌}
use Rattle.terms.specs.declared.Operand.TheVariants.{Value}
use Rattle.rulefile.specs.Rulebooks.{rules_book}
use Rattle.machine.specs.Tuples.{ids}
use Rattle.seek.specs.Slots.{store_in}
use Rattle.seek.proofs.Located.{unwraps_or, slot_or}
use Rattle.seek.proofs.slots.filling.SlotsFilling.slot.Goals as goal

pub returns : goal.returns
returns g c =
    let f = c.args.self.now in
    unwraps_or (Value (pos 0)) c.argument.result c.unwrap_or_default.result c.unwrap_or_default.ensures
    ∙ ap (λ z. unwrap_or z (Value (pos 0))) c.argument.ensures
    ∙ slot_or (rules_book f.rules.now).arities (store_in g.P.PartnerTable f.table.now) f.heads.now (ids f.tuple) c.args.slot
