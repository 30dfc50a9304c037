use Rattle.std.proofs.Common.{map, pos, ap, ◌∙◌}
use Rattle.std.proofs.lemmas.List.{take_all}
use Rattle.terms.specs.declared.Term.TheVariants.{Value}
use Rattle.terms.specs.Primitives.{TermValid}
use Rattle.machine.specs.Matching.{fill}
use Rattle.lists.specs.Entries.{arguments_list}
use Rattle.seek.proofs.Lasting.{all_at}
use Rattle.applying.specs.Fillers.{operand_at}
use Rattle.applying.proofs.Filling.{one_more}
use Rattle.applying.proofs.Storing.{fill_placed}
use Rattle.applying.proofs.body.Filler.fill_arguments.Goals as goal

pub loop-term-preserved : goal.loop-term-preserved
loop-term-preserved g c n h few valid =
    let ts = c.args.terms.now in
    let i = c.loop-term.term-index in
    one_more (fill (operand_at g.P.PartnerTable c.args.self.now)) ts i (Value (pos 0)) (arguments_list c.loop-term.arguments) (arguments_list c.with-arguments.result) c.fill.result c.loop-term-test.true few (c.loop-term.invariant n h few valid)
    (c.fill.ensures ∙ fill_placed g.P.PartnerTable g.met.P.PartnerTable.fits c.args.self.now n _ h (all_at (TermValid n) ts i (Value (pos 0)) c.loop-term-test.true valid))
    c.with-arguments.ensures

pub returns : goal.returns
returns g c n h few valid = c.loop-term.invariant n h few valid ∙ ap (map (fill (operand_at g.P.PartnerTable c.args.self.now))) (take_all c.loop-term.term-index c.args.terms.now c.loop-term-test.false)
