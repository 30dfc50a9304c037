use Rattle.std.proofs.Common.{◌≤◌, None, vec_items, sym, subst, arith}
use Rattle.table.specs.Rows.{look}
use Rattle.table.specs.Looks.{look_fits}
use Rattle.chain.specs.Chains.{To}
use Rattle.chain.proofs.Links.{linked}
use Rattle.chain.proofs.Walks.{past_symbols}
use Rattle.chain.proofs.ChainTable.head.Goals as goal

pub returns-in_err-get : goal.returns-in_err-get
returns-in_err-get c =
    let t = c.args.self.now in
    let xs = vec_items t.rows.items in
    let past : 32 ≤ c.args.symbol = omega (arith, c.in_err-get.ensures.lookup.3, (linked t.linked).wide) in
    subst (λ o. To xs o c.args.symbol 0) (sym c.from_residual.ensures)
    (λ i l. past_symbols c.args.symbol None i (look xs i) past (look_fits xs t.rows.ok.0 i))

pub returns : goal.returns
returns c =
    let t = c.args.self.now in
    let at = c.in_ok-get.ensures.lookup.3 in
    subst (λ o. To (vec_items t.rows.items) o c.args.symbol 0) (sym (at.1 None)) ((linked t.linked).firsts c.args.symbol (omega (arith, at.0, (linked t.linked).wide)))
