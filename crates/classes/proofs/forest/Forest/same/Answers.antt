use Rattle.std.proofs.Common.{vec_items, ap}
use Rattle.classes.proofs.Reaches.{alike}
use Rattle.classes.proofs.Stores.{has_row, at_found, same_says}
use Rattle.classes.proofs.forest.Forest.same.Goals as goal

pub returns-in-Ok-Ok : goal.returns-in-Ok-Ok
returns-in-Ok-Ok g c =
    let a = c.in-Ok-Ok.ensures in
    let b = c.in-Ok-Ok.ensures' in
    (a.0, b.0, λ v k. (at_found g.C.Content.holds c.args.self.now c.args.a c.args.b _ _ a b v k).0 (ap v c.if-one-other.true))

pub returns-in-Ok-Ok-2 : goal.returns-in-Ok-Ok-2
returns-in-Ok-Ok-2 g c =
    let laws = g.met.C.Content in
    let f = c.args.self.now in
    let a = c.in-Ok-Ok.ensures in
    let b = c.in-Ok-Ok.ensures' in
    same_says g.C.Content.holds f c.if-self.false c.args.a c.args.b c.is_one_value.result a.0 b.0
    (alike g.C.Content.holds g.C.Content.low (λ x. (laws.ends x).0) laws.proper (vec_items f.rows) f.ok c.args.a c.args.b _ _
    c.index.result.now c.index-in-Ok-Ok-2.result.now c.is_one_value.result (has_row f _ a.0) (has_row f _ b.0) a.1 b.1 c.if-one-other.false
    c.index.ensures c.index-in-Ok-Ok-2.ensures c.is_one_value.ensures)
