use Rattle.std.proofs.Common.{ap, ◌∙◌, arith}
use Rattle.std.proofs.lemmas.List.{take_more, take_all}
use Rattle.rules.specs.Books.{slot_count}
use Rattle.rules.proofs.Slots.{few_slots, slot_count_push}
use Rattle.rules.proofs.signature.Signature.slots.Goals as goal

pub loop-symbol-preserved : goal.loop-symbol-preserved
loop-symbol-preserved c = let more = take_more c.args.heads.now c.loop-symbol.symbol-index 0 c.loop-symbol-test.true in omega (arith, ap (slot_count c.args.self.now.arities.now) more ∙ slot_count_push c.args.self.now.arities.now _ _)

pub returns-clause-few : goal.returns-clause-few
returns-clause-few c h =
    let all = take_all c.loop-symbol.symbol-index c.args.heads.now c.loop-symbol-test.false in
    let few = few_slots c.args.self.now.arities.now c.args.self.now.short c.args.heads.now in
    (grind (arith, all, few), grind (arith, all, few))
