use Rattle.std.proofs.Common.{sym, ◌∙◌, subst}
use Rattle.std.proofs.lemmas.Bool.{false≢true}
use Rattle.terms.specs.Answers.{Answers}
use Rattle.contents.proofs.Signs.{answers_iff}
use Rattle.classes.specs.Forests.{made_in, Throughout}
use Rattle.theory.specs.declared.claim.Claim.{Claim}
use Rattle.theory.specs.Claims.{Claimed, OfMade}
use Rattle.theory.proofs.claim.entails.Goals as goal

pub returns-in-Alike : goal.returns-in-Alike
returns-in-Alike g c =
    let f = c.args.forest.now in
    subst (λ (d : Claim g.row.C.Denot). Answers c.same.result (OfMade (made_in f) d × Throughout g.C.Content.holds f (λ v. Claimed g.C.Content.holds d v))) (sym c.in-Alike.is)
    (answers_iff c.same.result _ _ (λ b. ((b.0, b.1), b.2)) (λ b. (b.0.0, b.0.1, b.1)) c.same.ensures)

pub returns-in-Within : goal.returns-in-Within
returns-in-Within g c =
    let f = c.args.forest.now in
    subst (λ (d : Claim g.row.C.Denot). Answers c.lies_in.result (OfMade (made_in f) d × Throughout g.C.Content.holds f (λ v. Claimed g.C.Content.holds d v))) (sym c.in-Within.is) c.lies_in.ensures

pub returns-else-holds : goal.returns-else-holds
returns-else-holds g c =
    let f = c.args.forest.now in
    subst (λ (d : Claim g.row.C.Denot). Answers c.failed.result (OfMade (made_in f) d × Throughout g.C.Content.holds f (λ v. Claimed g.C.Content.holds d v))) (sym c.in-Plain.is)
    (answers_iff c.failed.result _ _ (λ none. (tt, λ v a. absurd (none v a))) (λ b v a. false≢true (sym c.if-holds.false ∙ b.1 v a)) c.failed.ensures)
