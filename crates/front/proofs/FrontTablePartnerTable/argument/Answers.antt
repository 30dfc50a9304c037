use Rattle.std.proofs.Common.{take, vec_items, not, ap, ◌∙◌}
use Rattle.table.specs.Lists.{first}
use Rattle.table.specs.Records.{argument_of}
use Rattle.table.specs.Rows.{look}
use Rattle.table.proofs.Positions.{known_is}
use Rattle.front.specs.Fronts.{own_limit}
use Rattle.front.specs.FrontsLemmas.{first_some}
use Rattle.front.proofs.FrontTablePartnerTable.argument.Goals as goal

pub returns-then-is_some : goal.returns-then-is_some
returns-then-is_some g c =
    let t = c.args.self.now in
    let n = c.args.identifier in
    let xs = take (own_limit g.P.PartnerTable.limit) (vec_items t.own.items) in
    let known = known_is xs _ n _ _ c.own_rows-rows.ensures c.position.ensures c.is_some.ensures ∙ ap not c.if-is_some.true in
    c.argument.ensures ∙ ap (λ zs. argument_of (first (look zs n)) c.args.place) c.own_rows-rows.ensures
    ∙ ap (λ o. argument_of o c.args.place) (first_some (look xs n) (g.P.PartnerTable.records t.behind n) known)
