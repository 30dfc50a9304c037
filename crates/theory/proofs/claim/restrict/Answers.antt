use Rattle.std.proofs.Common.{sym, subst}
use Rattle.classes.specs.Forests.{made_in, Narrowed, Narrows}
use Rattle.theory.specs.declared.claim.Claim.{Claim}
use Rattle.theory.specs.Claims.{Claimed, OfMade}
use Rattle.theory.proofs.claim.restrict.Goals as goal

pub returns-in-Alike : goal.returns-in-Alike
returns-in-Alike g c =
    let f = c.args.forest.now in
    subst (λ (d : Claim g.row.C.Denot). Narrows g.C.Content.holds f (OfMade (made_in f) d) (λ v. Claimed g.C.Content.holds d v) c.join.result c.join.new.self) (sym c.in-Alike.is) c.join.ensures.narrows

pub returns-in-Within : goal.returns-in-Within
returns-in-Within g c =
    let f = c.args.forest.now in
    subst (λ (d : Claim g.row.C.Denot). Narrows g.C.Content.holds f (OfMade (made_in f) d) (λ v. Claimed g.C.Content.holds d v) c.confine.result c.confine.new.self) (sym c.in-Within.is) c.confine.ensures.narrows

pub returns-in-Plain : goal.returns-in-Plain
returns-in-Plain g c =
    let f = c.args.forest.now in
    subst (λ (d : Claim g.row.C.Denot). OfMade (made_in f) d × Narrowed g.C.Content.holds f (λ v. Claimed g.C.Content.holds d v) c.keep.new.self) (sym c.in-Plain.is) (tt, c.keep.ensures)
