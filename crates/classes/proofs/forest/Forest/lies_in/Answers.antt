use Rattle.classes.proofs.Stores.{range_is, lies_says, lies_nowhere}
use Rattle.classes.proofs.forest.Forest.lies_in.Goals as goal

pub returns-in_default : goal.returns-in_default
returns-in_default g c = λ all.
    let laws = g.met.C.Content in
    lies_nowhere g.C.Content.holds g.C.Content.low (λ x. (laws.ends x).0) laws.proper c.args.self.now c.args.x c.args.by all.0 c.in_default.is _ c.if-self.false all

pub returns-in-Ok : goal.returns-in-Ok
returns-in-Ok g c =
    let found = c.in-Ok.ensures in
    lies_says g.C.Content.holds c.args.self.now c.args.x c.in-Ok.held
    (range_is g.C.Content.holds c.args.self.now c.if-self.false c.args.x c.in-Ok.held found.0 found.1)
    c.in-Some.content c.args.by c.is_within.result c.in-Some.is c.is_within.ensures
