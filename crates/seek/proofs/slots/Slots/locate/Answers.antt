use Rattle.std.proofs.Common.{get_or, sym, ap, ◌∙◌}
use Rattle.rulefile.specs.Rulebooks.{rules_book}
use Rattle.seek.specs.Slots.{located}
use Rattle.seek.proofs.Located.{shifted_none, located_here, located_later, located_none}
use Rattle.seek.proofs.slots.Slots.locate.Goals as goal

pub loop-place-init : goal.loop-place-init
loop-place-init g c = shifted_none (located (rules_book c.args.self.now.rules.now).arities c.args.self.now.heads.now c.args.slot)

pub returns-then-left-arity : goal.returns-then-left-arity
returns-then-left-arity g c = located_here (rules_book c.args.self.now.rules.now).arities c.args.self.now.heads.now c.loop-place.place c.loop-place.left c.arity-arity.result c.loop-place-test.true (c.arity-arity.ensures.value ∙ ap (λ z. get_or z (get_or c.args.self.now.heads.now c.loop-place.place 0) 0) c.signature-signature.ensures.value) c.if-left-arity.true ∙ c.loop-place.invariant

pub loop-place-preserved : goal.loop-place-preserved
loop-place-preserved g c = sym (located_later (rules_book c.args.self.now.rules.now).arities c.args.self.now.heads.now c.loop-place.place c.loop-place.left c.arity-arity.result c.loop-place-test.true (c.arity-arity.ensures.value ∙ ap (λ z. get_or z (get_or c.args.self.now.heads.now c.loop-place.place 0) 0) c.signature-signature.ensures.value) c.if-left-arity.false) ∙ c.loop-place.invariant

pub returns : goal.returns
returns g c = located_none (rules_book c.args.self.now.rules.now).arities c.args.self.now.heads.now c.loop-place.place c.loop-place.left c.loop-place-test.false ∙ c.loop-place.invariant
