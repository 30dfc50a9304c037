use Rattle.std.proofs.Common.{◌∙◌}
use Rattle.lists.specs.Entries.{arguments_list}
use Rattle.applying.specs.Fillers.{operand_at, argument_counts}
use Rattle.applying.proofs.Filling.{constraint_filled, primitive_told}
use Rattle.applying.proofs.Storing.{loaded_short, primitive_placed}
use Rattle.applying.proofs.body.Filler.fill_item.Goals as goal

pub returns-in-Add : goal.returns-in-Add
returns-in-Add g c n h valid =
    let f = c.args.self.now in
    constraint_filled (argument_counts f) (loaded_short f.slots.rules.now) (operand_at g.P.PartnerTable f) n c.args.item.now c.in-Add.symbol c.in-Add.arguments c.in-Add.is valid c.deref.result.now c.deref.ensures.value (arguments_list c.fill_arguments.result) (c.fill_arguments.ensures n h)

pub returns-in-Tell : goal.returns-in-Tell
returns-in-Tell g c n h valid =
    let f = c.args.self.now in
    primitive_told (argument_counts f) n (operand_at g.P.PartnerTable f) c.args.item.now c.in-Tell.primitive c.in-Tell.is valid c.fill_primitive.result
    (λ v. c.fill_primitive.ensures ∙ primitive_placed g.P.PartnerTable g.met.P.PartnerTable.fits f n c.in-Tell.primitive h v)
