use Rattle.std.proofs.Common.{ap, arith}
use Rattle.std.proofs.lemmas.List.{take_all}
use Rattle.listing.specs.Texts.{heads_text}
use Rattle.listing.proofs.RuleTexts.{heads_more, slots_more}
use Rattle.listing.proofs.Steps.{nothing, more, spelled}
use Rattle.listing.proofs.rule.HeadsDisplay.fmt.Goals as goal

pub loop-i-init : goal.loop-i-init
loop-i-init g c = (omega arith, c.args.self.now.low, nothing)

pub loop-i-preserved : goal.loop-i-preserved
loop-i-preserved g c =
    let heads = c.args.self.now in
    let inv = c.loop-i.invariant in
    let slots = slots_more heads.signature.arities.now heads.symbols.now c.loop-i.i c.loop-i-test.true in (
      omega (arith, slots, inv.0, c.arity-count.ensures.value),
      omega (arith, inv.1, c.arity-count.ensures.few),
      λ plain.
          spelled (heads_more heads.signature.arities.now heads.symbols.now c.loop-i.i c.loop-i-test.true heads.first c.loop-i.slot c.arity-count.result inv.0 c.arity-count.ensures.value)
          (more (more (inv.2 plain) c.in_ok-show_comma.ensures) c.in_ok-show_head.ensures),
    )

pub returns-clause-writes : goal.returns-clause-writes
returns-clause-writes g c plain ok =
    spelled (ap (heads_text c.args.self.now.signature.arities.now c.args.self.now.first) (take_all c.loop-i.i c.args.self.now.symbols.now c.loop-i-test.false)) (c.loop-i.invariant.2 plain)
