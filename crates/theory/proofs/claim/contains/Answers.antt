use Rattle.std.proofs.Common.{◌≡◌, ℤ, Some}
use Rattle.contents.specs.Contents.{Holding}
use Rattle.theory.proofs.Claiming.{at_bits, within_says}
use Rattle.theory.proofs.claim.contains.Goals as goal

pub returns-in-Some-Some : goal.returns-in-Some-Some
returns-in-Some-Some g c =
    let laws = g.met.C.Content in
    within_says g.C.Content.holds g.C.Content.low (λ x. (laws.ends x).0) laws.proper c.args.n c.args.by c.in-Some-Some.one c.in-Some-Some.all c.is_within.result
    (at_bits (λ (k : ℤ). Holding g.C.Content.holds (λ z. z ≡ k) (Some c.in-Some-Some.one)) c.args.n c.ranges.n c.in-Some-Some.ensures) c.in-Some-Some.is-0 c.is_within.ensures
