use Rattle.std.proofs.Common.{length, vec_items, sym, ap, ◌∙◌}
use Rattle.table.specs.Looks.{size_look, lawful_take}
use Rattle.front.specs.Fronts.{own_limit}
use Rattle.front.proofs.FrontTable.own_count.Goals as goal

pub returns : goal.returns
returns g c =
    let rows = c.args.self.now.own in
    ap length c.own_rows.ensures ∙ sym (size_look _ (lawful_take (vec_items rows.items) (own_limit g.P.PartnerTable.limit) rows.ok.0))
