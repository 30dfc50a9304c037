use Rattle.std.proofs.Common.{get_or, take, sym, ap, ◌∙◌}
use Rattle.std.proofs.lemmas.List.{take_more, take_all}
use Rattle.table.specs.Tables.{without}
use Rattle.applying.proofs.Changing.{without_more}
use Rattle.applying.proofs.changes.remove_all.Goals as goal

pub loop-identifier-preserved : goal.loop-identifier-preserved
loop-identifier-preserved g c =
    let xs = c.args.gone.now in
    let t = g.P.PartnerTable.records c.args.table.now in
    without_more t (g.P.PartnerTable.records c.loop-identifier.table) (g.P.PartnerTable.records c.remove.new.self) (take c.loop-identifier.identifier-index xs) (get_or xs c.loop-identifier.identifier-index 0) c.loop-identifier.invariant c.remove.ensures.after ∙ ap (without t) (sym (take_more xs c.loop-identifier.identifier-index 0 c.loop-identifier-test.true))

pub returns : goal.returns
returns g c = c.loop-identifier.invariant ∙ ap (without (g.P.PartnerTable.records c.args.table.now)) (take_all c.loop-identifier.identifier-index c.args.gone.now c.loop-identifier-test.false)
