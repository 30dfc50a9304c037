use Rattle.std.proofs.Common.{sym, ◌∙◌, w32, SFits, rules}
use Rattle.std.proofs.lemmas.Int.{to_z-of_z}
use Rattle.classes.proofs.Stores.{greatest_is}
use Rattle.classes.proofs.forest.Forest.greatest.Goals as goal

pub returns : goal.returns
returns g c =
    let laws = g.met.C.Content in
    let fits : SFits w32 c.greatest.result = search rules in
    greatest_is g.C.Content.holds c.args.self.now c.args.x _ c.in_ok-range.ensures
    g.C.Content.high (λ k. (laws.ends k).1) (λ k z h. (laws.between k z h).1) _ (sym (to_z-of_z w32 c.greatest.result fits ∙ c.greatest.ensures))
