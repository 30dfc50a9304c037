use Rattle.std.proofs.Common.{vec_items, arith}
use Rattle.table.specs.TablesLemmas.{size_both}
use Rattle.front.specs.Fronts.{own_records}
use Rattle.front.proofs.Fills.{own_size}
use Rattle.front.proofs.FrontTablePartnerTable.count.Goals as goal

pub overflow_add-result : goal.overflow_add-result
overflow_add-result g c =
    let t = c.args.self.now in
    omega (arith, own_size g.P.PartnerTable.limit (vec_items t.own.items) t.own.ok.0, c.own_count.ensures, c.count.ensures, g.met.P.PartnerTable.within t.behind, g.met.P.PartnerTable.few)

pub returns : goal.returns
returns g c =
    let t = c.args.self.now in
    omega (arith, size_both (own_records g.P.PartnerTable.limit (vec_items t.own.items)) (g.P.PartnerTable.records t.behind), c.own_count.ensures, c.count.ensures)
