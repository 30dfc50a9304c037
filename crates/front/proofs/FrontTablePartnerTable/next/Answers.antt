use Rattle.std.proofs.Common.{vec_items, sym, subst}
use Rattle.table.specs.Nexts.{NextOf}
use Rattle.table.specs.Rows.{look}
use Rattle.table.specs.NextsLemmas.{next_both}
use Rattle.front.specs.Fronts.{own_records, front_records}
use Rattle.front.proofs.FrontTablePartnerTable.next.Goals as goal

pub returns : goal.returns
returns g c =
    let limit = g.P.PartnerTable.limit in
    let t = c.args.self.now in
    let own = own_records limit (vec_items t.own.items) in
    let b = g.P.PartnerTable.records t.behind in
    subst (λ o. NextOf (front_records limit (vec_items t.own.items) b) c.args.symbol c.args.key c.args.above o) (sym c.lower.ensures)
    (next_both own b c.args.symbol c.args.key c.args.above c.next-own.result c.next-behind.result
    (subst (λ xs. NextOf (look xs) c.args.symbol c.args.key c.args.above c.next-own.result) c.own_rows.ensures c.next-own.ensures)
    c.next-behind.ensures)
