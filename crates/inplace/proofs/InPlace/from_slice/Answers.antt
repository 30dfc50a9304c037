use Rattle.std.proofs.Common.{◌≡◌, length, take, ap, ◌∙◌, arith}
use Rattle.std.proofs.lemmas.List.{length-set, take_all}
use Rattle.inplace.proofs.Places.{copied_more}
use Rattle.inplace.proofs.InPlace.from_slice.Goals as goal

pub loop-place-preserved : goal.loop-place-preserved
loop-place-preserved g c = (
  length-set _ _ _ ∙ c.loop-place.invariant.0,
  copied_more _ _ _ _ _ c.index-slice-place.is (omega arith) c.loop-place-test.true c.loop-place.invariant.1,
)

pub returns : goal.returns
returns g c =
    let p : length c.args.slice.now ≡ c.loop-place.place = omega arith in (
      omega arith,
      ap (λ n. take n c.loop-place.places) p ∙ c.loop-place.invariant.1 ∙ take_all _ _ c.loop-place-test.false,
    )
