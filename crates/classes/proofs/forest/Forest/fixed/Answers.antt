use Rattle.std.proofs.Common.{sym, rules}
use Rattle.classes.proofs.Stores.{range_is, one_value, least_is, greatest_is}
use Rattle.classes.proofs.forest.Forest.fixed.Goals as goal

pub returns-in-Ok : goal.returns-in-Ok
returns-in-Ok g c =
    let H = g.C.Content.holds in
    let laws = g.met.C.Content in
    let f = c.args.self.now in
    let range = range_is H f c.if-self.false c.args.x c.in-Ok.content c.in-Ok.ensures.0 c.in-Ok.ensures.1 in
    one_value H f c.args.x c.least.result c.greatest.result (search rules) (search rules)
    (least_is H f c.args.x _ range g.C.Content.low (λ k. (laws.ends k).0) (λ k z h. (laws.between k z h).0) _ (sym c.least.ensures))
    (greatest_is H f c.args.x _ range g.C.Content.high (λ k. (laws.ends k).1) (λ k z h. (laws.between k z h).1) _ (sym c.greatest.ensures))
