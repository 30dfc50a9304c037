use Rattle.std.proofs.Common.{refl}
use Rattle.classes.proofs.Stores.{failed_says}
use Rattle.classes.proofs.forest.Forest.failed.Goals as goal

pub returns : goal.returns
returns g c =
    let laws = g.met.C.Content in
    failed_says g.C.Content.holds g.C.Content.low (λ x. (laws.ends x).0) laws.proper c.args.self.now _ refl
