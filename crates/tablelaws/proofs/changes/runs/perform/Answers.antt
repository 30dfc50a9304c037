use Rattle.std.proofs.Common.{◌≡◌, sym, ap, ◌∙◌, subst}
use Rattle.std.proofs.lemmas.List.{at_drop_all}
use Rattle.table.specs.Tables.{nothing}
use Rattle.tablelaws.specs.Changes.{changed_all, all_find_room, AtMostOne}
use Rattle.tablelaws.proofs.Changing.{single_nothing, run_more, rooms_more, rooms_done}
use Rattle.tablelaws.proofs.changes.runs.perform.Goals as goal

pub loop-change-init : goal.loop-change-init
loop-change-init g c =
    let limit = g.P.PartnerTable.limit in
    (ap (changed_all limit c.args.changes.now) c.clear.ensures, ap (all_find_room limit c.args.changes.now) c.clear.ensures)

pub loop-change-preserved : goal.loop-change-preserved
loop-change-preserved g c =
    let limit = g.P.PartnerTable.limit in
    let cs = c.args.changes.now in
    let k = c.loop-change.change-index in
    let t = g.P.PartnerTable.records c.loop-change.table in
    let u = g.P.PartnerTable.records c.make-roomy.new.table in (
      run_more limit cs k c.change-item.result t u c.loop-change-test.true c.change-item.is c.make-roomy.ensures.after ∙ c.loop-change.invariant.0,
      rooms_more limit cs k c.change-item.result t u c.loop-change.roomy c.make-roomy.result c.loop-change-test.true c.change-item.is c.make-roomy.ensures.after c.make-roomy.ensures.value
          ∙ c.loop-change.invariant.1,
    )

pub returns : goal.returns
returns g c =
    let limit = g.P.PartnerTable.limit in
    let cs = c.args.changes.now in
    let t = g.P.PartnerTable.records c.loop-change.table in
    let after : t ≡ changed_all limit cs nothing = sym (at_drop_all (λ ds. changed_all limit ds t) cs c.loop-change.change-index c.loop-change-test.false) ∙ c.loop-change.invariant.0 in
    record {
      value = sym (rooms_done limit cs c.loop-change.change-index t c.loop-change.roomy c.loop-change-test.false) ∙ c.loop-change.invariant.1;
      after = after;
      single = subst AtMostOne (sym after) (single_nothing limit cs);
    }
