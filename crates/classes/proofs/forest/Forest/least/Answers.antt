use Rattle.std.proofs.Common.{sym, ◌∙◌, w32, SFits, rules}
use Rattle.std.proofs.lemmas.Int.{to_z-of_z}
use Rattle.classes.proofs.Stores.{least_is}
use Rattle.classes.proofs.forest.Forest.least.Goals as goal

pub returns : goal.returns
returns g c =
    let laws = g.met.C.Content in
    let fits : SFits w32 c.least.result = search rules in
    least_is g.C.Content.holds c.args.self.now c.args.x _ c.in_ok-range.ensures
    g.C.Content.low (λ k. (laws.ends k).0) (λ k z h. (laws.between k z h).0) _ (sym (to_z-of_z w32 c.least.result fits ∙ c.least.ensures))
