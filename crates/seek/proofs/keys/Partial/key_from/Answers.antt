use Rattle.std.proofs.Common.{pos, sym, refl, ◌∙◌}
use Rattle.terms.specs.declared.Primitive.TheVariants.{Same}
use Rattle.terms.specs.declared.Term.TheVariants.{Value}
use Rattle.seek.specs.Fillings.{known_in}
use Rattle.seek.proofs.Keying.{key_found, key_next, key_none}
use Rattle.seek.proofs.keys.Partial.key_from.Goals as goal

pub loop-guard-init : goal.loop-guard-init
loop-guard-init g c = refl

pub returns-then-is_some : goal.returns-then-is_some
returns-then-is_some g c = key_found (known_in g.P.PartnerTable c.args.self.now) c.args.slot c.args.guards.now c.loop-guard.guard-index (Same (Value (pos 0)) (Value (pos 0))) c.loop-guard-test.true c.tied_to-value.result c.tied_to-value.ensures (sym c.is_some.ensures ∙ c.if-is_some.true) ∙ c.loop-guard.invariant

pub loop-guard-preserved : goal.loop-guard-preserved
loop-guard-preserved g c = key_next (known_in g.P.PartnerTable c.args.self.now) c.args.slot c.args.guards.now c.loop-guard.guard-index (Same (Value (pos 0)) (Value (pos 0))) c.loop-guard-test.true c.tied_to-value.result c.tied_to-value.ensures (sym c.is_some.ensures ∙ c.if-is_some.false) ∙ c.loop-guard.invariant

pub returns : goal.returns
returns g c = key_none (known_in g.P.PartnerTable c.args.self.now) c.args.slot c.args.guards.now c.loop-guard.guard-index c.loop-guard-test.false ∙ c.loop-guard.invariant
