use Rattle.std.proofs.Common.{ap}
use Rattle.std.proofs.lemmas.List.{take_all}
use Rattle.listing.specs.Listings.{symbols_text}
use Rattle.listing.proofs.ListingTexts.{symbols_more}
use Rattle.listing.proofs.Steps.{nothing, more, spelled}
use Rattle.listing.proofs.SymbolsDisplay.fmt.Goals as goal

pub loop-k-init : goal.loop-k-init
loop-k-init g c plain = nothing plain

pub loop-k-preserved : goal.loop-k-preserved
loop-k-preserved g c plain =
    spelled (symbols_more c.args.self.now.0.now c.loop-k.k-counter c.loop-k-test.true)
    (more (more (c.loop-k.invariant plain) c.in_ok-show_comma.ensures) c.in_ok-write.ensures.writes)

pub returns-clause-writes : goal.returns-clause-writes
returns-clause-writes g c plain ok = spelled (ap symbols_text (take_all c.loop-k.k-counter c.args.self.now.0.now c.loop-k-test.false)) (c.loop-k.invariant plain)
