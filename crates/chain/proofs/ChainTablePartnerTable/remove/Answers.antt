use Rattle.std.proofs.Common.{◌≡◌, map, length, Some, None, vec_items, sym, ap, ◌∙◌, arith}
use Rattle.std.proofs.lemmas.List.{get_or_read, with_items_is, length-map}
use Rattle.table.proofs.Positions.{blank, taken_some}
use Rattle.chain.specs.Chains.{relinked}
use Rattle.chain.proofs.Cuts.{chained_cut}
use Rattle.chain.proofs.Links.{linked}
use Rattle.chain.proofs.ChainTablePartnerTable.remove.Goals as goal

pub returns-in_default-clause-value : goal.returns-in_default-clause-value
returns-in_default-clause-value c = taken_some (vec_items c.args.self.now.rows.items) (vec_items c.remove.new.self.items) c.args.identifier None c.in_default.ensures.place

pub invariant_of-self-2-clause-linked : goal.invariant_of-self-2-clause-linked
invariant_of-self-2-clause-linked c =
    let t = c.args.self.now in
    let xs = vec_items t.rows.items in
    let links = vec_items t.links in
    let p = c.in-Some.place in
    let at = c.in-Some.ensures.place in
    let ls = vec_items c.remove-rest.new.self in
    let f = relinked p c.remove-rest.result in
    let ws = c.relink.new.links in
    let ew : ws ≡ map f ls = c.relink.ensures ∙ ap (map f) c.as_mut_slice.ensures.value in
    ∣ chained_cut xs (vec_items c.remove.new.self.items) links ls _ t.heads _ p c.remove-rest.result blank t.rows.ok.0 at.0 (linked t.linked)
    at.2 c.remove-rest.ensures.items
    (get_or_read links p c.remove-rest.result (omega (arith, at.0, (linked t.linked).long)) c.remove-rest.ensures.value None)
    (with_items_is c.remove-rest.new.self ws (ap length ew ∙ length-map ls f ∙ sym c.remove-rest.new.self.ok.0) ∙ ew)
    c.relink-2.ensures ∣₁

pub returns-clause-value : goal.returns-clause-value
returns-clause-value c =
    taken_some (vec_items c.args.self.now.rows.items) (vec_items c.remove.new.self.items) c.args.identifier (Some c.in-Some.place) c.in-Some.ensures.place
