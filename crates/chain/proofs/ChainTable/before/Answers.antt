use Rattle.std.proofs.Common.{vec_items, ap, ◌∙◌, subst, arith}
use Rattle.chain.specs.Chains.{Stands}
use Rattle.chain.specs.declared.ChainTable.{ChainTable}
use Rattle.chain.proofs.Trails.{Trail, trail_next, trail_stop, trail_end}
use Rattle.chain.proofs.ChainTable.before.Goals as goal

pub returns-then-identifier : goal.returns-then-identifier
returns-then-identifier c =
    let t = c.args.self.now in
    let xs = vec_items t.rows.items in
    let inv = c.loop-place.invariant in
    let step = c.in-Some.ensures.steps in
    let st = subst (λ (u : ChainTable). Stands (vec_items u.rows.items) c.in-Some.place c.in-Some.row c.next.new.self.at) inv.same step.1.1 in
    let tr = subst (λ o. Trail xs c.args.symbol c.args.identifier c.loop-place.last o) step.1.0 inv.trail in
    trail_stop xs c.args.symbol c.args.identifier c.loop-place.last c.in-Some.place c.in-Some.row c.next.new.self.at t.rows.ok.0 tr st (omega (arith, c.identifier.ensures, c.if-identifier.true))

pub loop-place-preserved : goal.loop-place-preserved
loop-place-preserved c =
    let t = c.args.self.now in
    let xs = vec_items t.rows.items in
    let inv = c.loop-place.invariant in
    let step = c.in-Some.ensures.steps in
    let st = subst (λ (u : ChainTable). Stands (vec_items u.rows.items) c.in-Some.place c.in-Some.row c.next.new.self.at) inv.same step.1.1 in
    let tr = subst (λ o. Trail xs c.args.symbol c.args.identifier c.loop-place.last o) step.1.0 inv.trail in
    record {
      can = tt;
      finite = tt;
      same = ap (λ r. r.now) step.0 ∙ inv.same;
      trail = trail_next xs c.args.symbol c.args.identifier c.loop-place.last c.next.new.self.at c.in-Some.place c.in-Some.row t.rows.ok.0 tr st (omega (arith, c.identifier.ensures, c.if-identifier.false));
    }

pub returns-in-None : goal.returns-in-None
returns-in-None c =
    let t = c.args.self.now in
    let xs = vec_items t.rows.items in
    trail_end xs c.args.symbol c.args.identifier c.loop-place.last t.rows.ok.0
    (subst (λ o. Trail xs c.args.symbol c.args.identifier c.loop-place.last o) c.in-None.ensures.steps.1.0 c.loop-place.invariant.trail)
