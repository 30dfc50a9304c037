use Rattle.std.proofs.Common.{vec_items, sym, ap, ◌∙◌, subst, arith}
use Rattle.chain.specs.Chains.{Stands}
use Rattle.chain.specs.declared.ChainTable.{ChainTable}
use Rattle.chain.proofs.Walks.{Way, way_found, way_passed, way_ended}
use Rattle.chain.proofs.ChainTable.next_of.Goals as goal
use Rattle.chain.proofs.ChainTable.next_of.Goals.{else-identifier-above-via-then-identifier-above+else-answers, else-identifier-above-via-else-identifier-above}

pub returns-then-answers : goal.returns-then-answers
returns-then-answers c =
    let t = c.args.self.now in
    let xs = vec_items t.rows.items in
    let inv = c.loop-row.invariant in
    let step = c.in-Some.ensures.steps in
    let st = subst (λ (u : ChainTable). Stands (vec_items u.rows.items) c.in-Some.field-0-0 c.in-Some.row c.next.new.self.at) inv.same step.1.1 in
    let w = subst (λ o. Way xs c.args.symbol c.args.key c.args.above o) step.1.0 inv.way in
    way_found xs t.rows.ok.0 c.args.symbol c.args.key c.args.above c.in-Some.field-0-0 c.in-Some.row c.next.new.self.at c.identifier-identifier.result
    w st c.identifier-identifier.ensures c.if-identifier-above.true (sym c.answers.ensures ∙ c.if-answers.true)

pub loop-row-preserved : goal.loop-row-preserved
loop-row-preserved c =
    let t = c.args.self.now in
    let xs = vec_items t.rows.items in
    let inv = c.loop-row.invariant in
    let step = c.in-Some.ensures.steps in
    let st = subst (λ (u : ChainTable). Stands (vec_items u.rows.items) c.in-Some.field-0-0 c.in-Some.row c.next.new.self.at) inv.same step.1.1 in
    let w = subst (λ o. Way xs c.args.symbol c.args.key c.args.above o) step.1.0 inv.way in
    let passed = way_passed xs t.rows.ok.0 c.args.symbol c.args.key c.args.above c.in-Some.field-0-0 c.in-Some.row c.next.new.self.at c.identifier-identifier.result w st c.identifier-identifier.ensures in
    record {
      can = tt;
      finite = tt;
      same = ap (λ r. r.now) step.0 ∙ inv.same;
      way = elim c.else-identifier-above.branch [
        | else-identifier-above-via-then-identifier-above+else-answers v ↦ passed (λ _. sym v.answers.ensures ∙ v.if-answers.false)
        | else-identifier-above-via-else-identifier-above v ↦ passed (λ l. absurd (omega (arith, v.if-identifier-above.false)))
      ];
    }

pub returns : goal.returns
returns c =
    let t = c.args.self.now in
    let xs = vec_items t.rows.items in
    way_ended xs t.rows.ok.0 c.args.symbol c.args.key c.args.above
    (subst (λ o. Way xs c.args.symbol c.args.key c.args.above o) c.in-None.ensures.steps.1.0 c.loop-row.invariant.way)
