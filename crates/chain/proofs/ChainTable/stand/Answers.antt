use Rattle.std.proofs.Common.{◌<◌, length, get_or, None, vec_items, sym, ap, ◌∙◌, subst, arith}
use Rattle.std.proofs.lemmas.List.{get_or_read}
use Rattle.table.specs.declared.row.Row.{Row}
use Rattle.chain.specs.Chains.{To}
use Rattle.chain.proofs.Links.{linked}
use Rattle.chain.proofs.ChainTable.stand.Goals as goal

pub index-requires : goal.index-requires
index-requires c =
    let t = c.args.self.now in
    omega (arith, c.requires, (linked t.linked).long, t.rows.items.ok.0, t.links.ok.0)

pub returns : goal.returns
returns c =
    let t = c.args.self.now in
    let xs = vec_items t.rows.items in
    let k = c.args.place in
    let x = c.index-as_slice-place.result in
    let l : k < length xs = omega (arith, c.requires, t.rows.items.ok.0) in
    let at = get_or_read xs k x l (c.index-as_slice-place.is ∙ ap (λ zs. get_or zs k x) c.as_slice.ensures) in
    let link = get_or_read (vec_items t.links) k c.index.result.now (omega (arith, l, (linked t.linked).long)) c.index.ensures None in
    record {
      at = at;
      next = subst (λ (y : Row). To xs c.index.result.now y.symbol y.identifier) (sym (at x))
          (subst (λ o. To xs o (get_or xs k x).symbol (get_or xs k x).identifier) (sym link) ((linked t.linked).others k l x));
    }
