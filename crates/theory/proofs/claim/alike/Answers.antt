use Rattle.std.proofs.Common.{◌≡◌, sym, subst, rules}
use Rattle.terms.specs.declared.Operand.{Operand}
use Rattle.terms.specs.declared.Operand.TheVariants.{Value, Variable}
use Rattle.terms.specs.declared.Primitive.TheVariants.{Same}
use Rattle.theory.specs.declared.claim.Claim.TheVariants.{Alike}
use Rattle.theory.specs.Claims.{Claims}
use Rattle.theory.proofs.Claiming.{claims_by, claims_alike, same_left, same_right}
use Rattle.theory.proofs.claim.alike.Goals as goal

pub returns-in-Variable-Variable : goal.returns-in-Variable-Variable
returns-in-Variable-Variable g c =
    let t = g.C.Interpreted.truth in
    let H = g.C.Content.holds in
    let vars = c.in-Variable-Variable in
    subst (λ (y : Operand). Claims t H (Same y c.args.b) (Alike vars.x vars.y)) (sym vars.is-0)
    (subst (λ (y : Operand). Claims t H (Same (Variable vars.x) y) (Alike vars.x vars.y)) (sym vars.is-1) (claims_alike t H vars.x vars.y))

pub returns-in_default-Value : goal.returns-in_default-Value
returns-in_default-Value g c =
    let t = g.C.Interpreted.truth in
    let H = g.C.Content.holds in
    let n = c.in_default-Value.n in
    subst (λ (y : Operand). Claims t H (Same c.args.a y) c.within.result) (sym c.in_default-Value.is-1)
    (claims_by t H (Same c.args.a (Value n)) c.args.a c.only.result c.within.result (λ k z. z ≡ k) n (search rules)
    (λ m k. k.0) (same_left t H c.args.a n) c.only.ensures c.within.ensures)

pub returns-in-Value-default : goal.returns-in-Value-default
returns-in-Value-default g c =
    let t = g.C.Interpreted.truth in
    let H = g.C.Content.holds in
    let n = c.in-Value-default.n in
    subst (λ (y : Operand). Claims t H (Same y c.args.b) c.within-in-Value-default.result) (sym c.in-Value-default.is-0)
    (claims_by t H (Same (Value n) c.args.b) c.args.b c.only-in-Value-default.result c.within-in-Value-default.result (λ k z. z ≡ k) n (search rules)
    (λ m k. k.1) (same_right t H c.args.b n) c.only-in-Value-default.ensures c.within-in-Value-default.ensures)
