use Rattle.std.proofs.Common.{◌+◌, vec_items, sym, subst, ap, ◌∙◌}
use Rattle.tablelaws.proofs.Stepping.{begun, gone_on, next_step}
use Rattle.lists.proofs.Collects.{Collecting, collect_none, collect_rest, collect_more, collect_all}
use Rattle.lists.proofs.lists.waking.collect.Goals as goal

pub loop-identifier-init : goal.loop-identifier-init
loop-identifier-init g c =
    let m = g.T.Theory.means c.args.theory.now in
    let t = g.P.PartnerTable.records c.args.table.now in
    let e = c.into_iter-identifier-iterator.ensures.into_iter_gives in
    let o = c.of-identifier-items.ensures in
    record {
      visit = begun e o.table o.symbol o.key;
      found = subst (λ n. Collecting m t n 0 (vec_items c.clear.new.self.items)) (sym (ap (λ v. v.above) e ∙ o.above))
          (collect_none m t (g.met.P.PartnerTable.fits c.args.table.now) (vec_items c.clear.new.self.items) c.clear.ensures);
    }

pub loop-identifier-preserved-then-is_unfixed : goal.loop-identifier-preserved-then-is_unfixed
loop-identifier-preserved-then-is_unfixed g c =
    let m = g.T.Theory.means c.args.theory.now in
    let t = g.P.PartnerTable.records c.args.table.now in
    let i = c.loop-identifier.invariant in
    let s = c.in-Some.ensures.steps in
    record {
      visit = gone_on g.P.PartnerTable i.visit s;
      found = subst (λ n. Collecting m t n (c.loop-identifier.count + 1) (vec_items c.push.new.self.items)) (sym s.above)
          (collect_more m t (g.met.P.PartnerTable.fits c.args.table.now) c.loop-identifier.identifier-iterator.above c.loop-identifier.count c.in-Some.identifier _ (vec_items c.push.new.self.items) i.found (next_step g.P.PartnerTable i.visit s) c.if-is_unfixed.ensures c.push.ensures);
    }

pub loop-identifier-preserved : goal.loop-identifier-preserved
loop-identifier-preserved g c =
    let m = g.T.Theory.means c.args.theory.now in
    let t = g.P.PartnerTable.records c.args.table.now in
    let i = c.loop-identifier.invariant in
    let s = c.in-Some.ensures.steps in
    record {
      visit = gone_on g.P.PartnerTable i.visit s;
      found = subst (λ n. Collecting m t n c.loop-identifier.count (vec_items c.loop-identifier.woken.items)) (sym s.above)
          (collect_rest m t (g.met.P.PartnerTable.fits c.args.table.now) c.loop-identifier.identifier-iterator.above c.loop-identifier.count c.in-Some.identifier _ i.found (next_step g.P.PartnerTable i.visit s) c.if-is_unfixed.ensures);
    }

pub returns : goal.returns
returns g c =
    let i = c.loop-identifier.invariant in
    collect_all (g.T.Theory.means c.args.theory.now) (g.P.PartnerTable.records c.args.table.now) c.loop-identifier.identifier-iterator.above c.loop-identifier.count _ i.found (next_step g.P.PartnerTable i.visit c.in-None.ensures.steps)
