use Rattle.std.proofs.Common.{map, ap}
use Rattle.std.proofs.lemmas.List.{take_all}
use Rattle.listing.specs.Texts.{separated}
use Rattle.listing.proofs.Separations.{separated_more}
use Rattle.listing.proofs.Steps.{nothing, more, spelled}
use Rattle.listing.proofs.source.SeparatedDisplay.fmt.Goals as goal

pub loop-i-init : goal.loop-i-init
loop-i-init g c plain = nothing plain

pub loop-i-preserved : goal.loop-i-preserved
loop-i-preserved g c plain =
    spelled (separated_more g.S.Source.text c.args.self.now.0.now c.loop-i.i c.part-item.result c.loop-i-test.true c.part-item.is)
    (more (more (c.loop-i.invariant plain) c.in_ok-show_comma.ensures) c.in_ok-show.ensures)

pub returns-clause-writes : goal.returns-clause-writes
returns-clause-writes g c plain ok = spelled (ap (λ xs. separated (map g.S.Source.text xs)) (take_all c.loop-i.i c.args.self.now.0.now c.loop-i-test.false)) (c.loop-i.invariant plain)
