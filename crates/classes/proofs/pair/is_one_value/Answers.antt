use Rattle.std.proofs.Common.{sym, ap, ◌∙◌, w32, SFits, of_z, rules}
use Rattle.contents.proofs.Signs.{same_bits, answers_bits}
use Rattle.classes.proofs.Pairs.{one_value_by_ends, ends_of_one_value}
use Rattle.classes.proofs.pair.is_one_value.Goals as goal

pub returns-then-low-ceiling : goal.returns-then-low-ceiling
returns-then-low-ceiling g c =
    let t = g.C.Content in
    let laws = g.met.C.Content in
    let low : SFits w32 c.least-low.result = search rules in
    let ceiling : SFits w32 c.greatest-ceiling.result = search rules in
    answers_bits c.greatest-high.result c.least-floor.result _ (search rules) (search rules)
    (λ e. one_value_by_ends t.holds t.low t.high laws.ends laws.between c.args.left c.args.right
    (sym c.least-low.ensures ∙ (same_bits _ _ low ceiling c.if-low-ceiling.true ∙ c.greatest-ceiling.ensures))
    (sym c.greatest-high.ensures ∙ (e ∙ c.least-floor.ensures)))
    (λ ne one. ne (c.greatest-high.ensures ∙ ((ends_of_one_value t.holds t.low t.high laws.ends laws.between c.args.left c.args.right one).1 ∙ sym c.least-floor.ensures)))

pub returns-else-low-ceiling : goal.returns-else-low-ceiling
returns-else-low-ceiling g c =
    let t = g.C.Content in
    let laws = g.met.C.Content in
    answers_bits c.least-low.result c.greatest-ceiling.result _ (search rules) (search rules)
    (λ e. absurd (c.if-low-ceiling.false (ap (of_z w32) e)))
    (λ ne one. ne (c.least-low.ensures ∙ ((ends_of_one_value t.holds t.low t.high laws.ends laws.between c.args.left c.args.right one).0 ∙ sym c.greatest-ceiling.ensures)))
