use Rattle.std.proofs.Common.{arith}
use Rattle.std.proofs.lemmas.Int.{ints, clamps}
use Rattle.contents.proofs.ends.content.EndsContent.meet.Goals as goal

pub returns : goal.returns
returns c = λ z k.
    let b = c.ordered.ensures z k in (
      λ h. let w = b.0 h in ((omega (arith, ints, clamps), omega (arith, ints, clamps)), (omega (arith, ints, clamps), omega (arith, ints, clamps))),
      λ p. b.1 (omega (arith, ints, clamps), omega (arith, ints, clamps)),
    )
