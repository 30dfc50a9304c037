use Rattle.std.proofs.Common.{sym, subst, rules}
use Rattle.terms.specs.declared.Operand.{Operand}
use Rattle.terms.specs.declared.Primitive.{Primitive}
use Rattle.terms.specs.declared.Primitive.TheVariants.{Least, Most}
use Rattle.theory.specs.Claims.{Claims}
use Rattle.theory.proofs.Claiming.{claims_by}
use Rattle.theory.proofs.claim.ClaimFromPrimitiveOperand.from.Goals as goal

pub returns-in-Least : goal.returns-in-Least
returns-in-Least g c =
    let t = g.C.Interpreted.truth in
    let H = g.C.Content.holds in
    subst (λ (y : Primitive Operand). Claims t H y c.within.result) (sym c.in-Least.is)
    (claims_by t H (Least c.in-Least.a c.in-Least.n) c.in-Least.a c.at_least.result c.within.result (λ k z. t.True (Least z k)) c.in-Least.n (search rules)
    (λ m k. k.0) (λ v. (λ x. x, λ x. x)) c.at_least.ensures c.within.ensures)

pub returns-in-Most : goal.returns-in-Most
returns-in-Most g c =
    let t = g.C.Interpreted.truth in
    let H = g.C.Content.holds in
    subst (λ (y : Primitive Operand). Claims t H y c.within-in-Most.result) (sym c.in-Most.is)
    (claims_by t H (Most c.in-Most.a c.in-Most.n) c.in-Most.a c.at_most.result c.within-in-Most.result (λ k z. t.True (Most z k)) c.in-Most.n (search rules)
    (λ m k. k.0) (λ v. (λ x. x, λ x. x)) c.at_most.ensures c.within-in-Most.ensures)
