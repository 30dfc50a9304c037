use Rattle.std.proofs.Common.{take, vec_items, ap, not, sym, ◌∙◌, inl, inr, arith}
use Rattle.std.proofs.lemmas.Bool.{not-true, not-false}
use Rattle.table.specs.Records.{recorded}
use Rattle.table.proofs.Positions.{known_is}
use Rattle.table.specs.TablesLemmas.{none_is}
use Rattle.front.specs.Fronts.{own_limit}
use Rattle.front.specs.FrontsLemmas.{symbol_some}
use Rattle.front.proofs.Fills.{Filled, own_size, filled_known, filled_free, filled_behind}
use Rattle.front.proofs.FrontTable.put_own_first.Goals as goal

pub returns-then-not-elsewhere : goal.returns-then-not-elsewhere
returns-then-not-elsewhere g c =
    let limit = g.P.PartnerTable.limit in
    let t = c.args.self.now in
    let xs = vec_items t.own.items in
    let ys = vec_items c.put.new.self.items in
    let b = g.P.PartnerTable.records t.behind in
    let n = c.args.identifier in
    let r = recorded c.args.symbol c.args.arguments.now in
    let fresh = known_is (take (own_limit limit) xs) _ n _ _ c.own_rows.ensures c.position.ensures c.is_some-known.ensures in
    let filled : Filled limit xs ys b b n r c.put.result = elim c.if-not-elsewhere.either [
      | inl known ↦ filled_known limit xs ys b t.own.limit n r c.put.result (fresh ∙ ap not known) c.put.ensures.value c.put.ensures.items
      | inr free ↦ filled_free limit xs ys b t.own.limit n r c.put.result t.own.ok.0
          (none_is (b n) (not-false _ (sym (symbol_some (b n) c.symbol.result c.symbol.ensures) ∙ sym c.is_some-elsewhere.ensures ∙ free.2)))
          (omega (arith, free.1, c.own_count.ensures, own_size limit xs t.own.ok.0, c.own_capacity.ensures)) (omega (arith, t.wide)) (g.met.P.PartnerTable.within t.behind)
          c.put.ensures.value c.put.ensures.items c.put.ensures.after
    ] in
    record { value = filled.value; after = filled.after; order = filled.order }

pub returns-else-not-elsewhere : goal.returns-else-not-elsewhere
returns-else-not-elsewhere g c =
    let limit = g.P.PartnerTable.limit in
    let t = c.args.self.now in
    let xs = vec_items t.own.items in
    let b = g.P.PartnerTable.records t.behind in
    let b' = g.P.PartnerTable.records c.put-else-not-elsewhere.new.self in
    let n = c.args.identifier in
    let r = recorded c.args.symbol c.args.arguments.now in
    let a = c.put-else-not-elsewhere.result in
    let fresh = known_is (take (own_limit limit) xs) _ n _ _ c.own_rows.ensures c.position.ensures c.is_some-known.ensures in
    let filled : Filled limit xs xs b b' n r a = elim c.if-not-elsewhere.either [
      | inl known ↦ filled_behind limit xs b b' n r a t.own.ok.0 (none_is _ (fresh ∙ ap not known.0))
          (inl (not-true _ (sym (symbol_some (b n) c.symbol.result c.symbol.ensures) ∙ sym c.is_some-elsewhere.ensures ∙ known.2)))
          c.put-else-not-elsewhere.ensures.value c.put-else-not-elsewhere.ensures.after
      | inr full ↦ filled_behind limit xs b b' n r a t.own.ok.0 (none_is _ (fresh ∙ ap not full.0))
          (inr (omega (arith, full.1, c.own_count.ensures, own_size limit xs t.own.ok.0, c.own_capacity.ensures)))
          c.put-else-not-elsewhere.ensures.value c.put-else-not-elsewhere.ensures.after
    ] in
    record { value = filled.value; after = filled.after; order = filled.order }
