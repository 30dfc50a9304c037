use Rattle.std.proofs.Common.{◌≡◌, ◌<◌, [], ◌∷◌, ◌++◌, length, set, None, Some, vec_items, ap, ◌∙◌, arith}
use Rattle.std.proofs.lemmas.List.{get_or_read}
use Rattle.table.specs.Records.{recorded}
use Rattle.table.specs.Rows.{look}
use Rattle.table.specs.Looks.{size_look, low_fit, symbol_fit}
use Rattle.table.proofs.Puts.{when_added}
use Rattle.chain.proofs.Inserts.{chained_after, chained_first}
use Rattle.chain.proofs.Links.{linked}
use Rattle.chain.proofs.ChainTablePartnerTable.put.Goals as goal
use Rattle.chain.proofs.ChainTablePartnerTable.put.Goals.{in-Some, in-None}

pub invariant_of-self-2-clause-linked : goal.invariant_of-self-2-clause-linked
invariant_of-self-2-clause-linked c =
    let t = c.args.self.now in
    let xs = vec_items t.rows.items in
    let ys = vec_items c.put.new.self.items in
    let links = vec_items t.links in
    let ls = vec_items c.push_reserved.new.self in
    let n = c.args.identifier in
    let s = c.args.symbol in
    let m = c.count-place.result in
    let r = recorded s c.args.arguments.now in
    let known = when_added (look xs) t.rows.limit n r c.in_ok-put.ensures.value in
    let m_is = c.count-place.ensures ∙ size_look xs t.rows.ok.0 in
    elim c.match-last.branch [
      | in-Some w ↦
          let b = w.in-Some.before in
          let links_is : vec_items c.match-last.self.1.1.0 ≡ set links b (Some m) = ap (λ z. vec_items z.1.1.0) w.self-is ∙ ap (set links b) w.replace-rest.ensures.after in
          let in_links : b < length links = omega (arith, w.in-Some.ensures.0, (linked t.linked).long) in
          ∣ chained_after xs ys links ls t.heads _ n s b m c.args.arguments.now c.match-last.rest t.rows.ok.0 known.1 (linked t.linked) w.in-Some.ensures c.in_ok-put.ensures.items
          (w.rest-is ∙ w.replace-rest.ensures.value ∙ get_or_read links b w.index_mut.result.now in_links w.index_mut.ensures.value None)
          (c.push_reserved.ensures.items ∙ ap (λ zs. zs ++ c.match-last.rest ∷ []) links_is)
          (ap (λ z. z.1.1.1.0) w.self-is) m_is ∣₁
      | in-None w ↦
          ∣ chained_first xs ys links ls t.heads _ n s m c.args.arguments.now c.match-last.rest t.rows.ok.0 known.1 (symbol_fit n r known.0) (low_fit n r known.0) (linked t.linked) w.in-None.ensures c.in_ok-put.ensures.items
          (w.rest-is ∙ w.replace-rest-in-None.ensures.value)
          (c.push_reserved.ensures.items ∙ ap (λ z. vec_items z.1.1.0 ++ c.match-last.rest ∷ []) w.self-is)
          (ap (λ z. z.1.1.1.0) w.self-is ∙ ap (set t.heads s) w.replace-rest-in-None.ensures.after) m_is ∣₁
    ]
