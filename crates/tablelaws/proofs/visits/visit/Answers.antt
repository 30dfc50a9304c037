use Rattle.std.proofs.Common.{vec_items, sym, subst, ap, ◌∙◌}
use Rattle.tablelaws.proofs.Stepping.{begun, gone_on, next_step}
use Rattle.tablelaws.proofs.Visiting.{Seen, seen_none, seen_more, seen_all}
use Rattle.tablelaws.proofs.visits.visit.Goals as goal

pub loop-identifier-init : goal.loop-identifier-init
loop-identifier-init g c =
    let t = g.P.PartnerTable.records c.args.table.now in
    let e = c.into_iter-identifier-iterator.ensures.into_iter_gives in
    let o = c.of-identifier-items.ensures in
    record {
      visit = begun e o.table o.symbol o.key;
      seen = subst (λ n. Seen t c.args.symbol c.args.key n (vec_items c.new-found.result)) (sym (ap (λ v. v.above) e ∙ o.above))
          (subst (λ xs. Seen t c.args.symbol c.args.key 0 xs) (sym c.new-found.ensures.items)
          (seen_none t c.args.symbol c.args.key (λ i. g.met.P.PartnerTable.fits c.args.table.now i)));
    }

pub loop-identifier-preserved : goal.loop-identifier-preserved
loop-identifier-preserved g c =
    let t = g.P.PartnerTable.records c.args.table.now in
    let i = c.loop-identifier.invariant in
    let s = c.in-Some.ensures.steps in
    record {
      visit = gone_on g.P.PartnerTable i.visit s;
      seen = subst (λ n. Seen t c.args.symbol c.args.key n (vec_items c.push.new.self)) (sym s.above)
          (subst (λ xs. Seen t c.args.symbol c.args.key c.in-Some.identifier xs) (sym c.in_ok-push.ensures.items)
          (seen_more t c.args.symbol c.args.key c.loop-identifier.identifier-iterator.above c.in-Some.identifier (vec_items c.loop-identifier.found) i.seen (next_step g.P.PartnerTable i.visit s)));
    }

pub returns : goal.returns
returns g c =
    let i = c.loop-identifier.invariant in
    seen_all (g.P.PartnerTable.records c.args.table.now) c.args.symbol c.args.key c.loop-identifier.identifier-iterator.above (vec_items c.loop-identifier.found) i.seen (next_step g.P.PartnerTable i.visit c.in-None.ensures.steps)
