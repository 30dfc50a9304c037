use Rattle.std.proofs.Common.{rules}
use Rattle.std.proofs.lemmas.Iterator.{cases_from_all, YieldsList-from_slice}
use Rattle.theory.specs.Meanings.{Follows}
use Rattle.machine.specs.Matching.{fill_primitive}
use Rattle.terms.specs.declared.Primitive.{Primitive}
use Rattle.terms.specs.declared.Term.{Term}
use Rattle.seek.specs.Slots.{slot_in}
use Rattle.seek.proofs.Lasting.{answers_all}
use Rattle.seek.proofs.partners.ready.guarded.Goals as goal

pub returns : goal.returns
returns g c =
    let Q : Primitive Term → Type 0 = λ p. Follows (g.T.Theory.means c.args.theory.now) (fill_primitive (slot_in g.P.PartnerTable c.args.slots.now) p) in
    answers_all Q c.args.guards.now _ (cases_from_all _ _ _ Q (λ p. Q p → ⊥) c.all.ensures.ran (YieldsList-from_slice c.args.guards.now cc) (λ x q k. search rules) (λ x q k. search rules))
