use Rattle.std.proofs.Common.{map, vec_items, ap, ◌∙◌, inl, inr, ⊎_elim, rules}
use Rattle.std.proofs.lemmas.List.{map_push}
use Rattle.std.proofs.lemmas.Result.{err_from_is_err_and}
use Rattle.rulereader.proofs.Ahead.{sofar_more, sofar_refused, sofar_all}
use Rattle.rulereader.proofs.reader.Reader.parts.Goals as goal

pub returns-in_err-part : goal.returns-in_err-part
returns-in_err-part g c =
    let p = err_from_is_err_and c.from_residual-in_err-part.result c.from_residual-in_err-part.ensures.1 in
    rw (p.1, p.2) (⊎_elim (λ h. inl (sofar_refused (g.P.Production.parser c.args.production.now) _ _ _ _ _ _ _ c.loop-test.true c.loop.invariant.1 h)) inr c.in_err-part.ensures)

pub loop-preserved : goal.loop-preserved
loop-preserved g c =
    let pushed = ap (map g.P.Production.view) c.push_reserved.ensures.items ∙ map_push g.P.Production.view (vec_items c.loop.all) c.in_ok-part.part in
    let step = sofar_more (g.P.Production.parser c.args.production.now) _ _ _ _ _ _ _ _ _ _ c.loop-test.true c.loop.invariant.1 c.in_ok-part.ensures.1 pushed in
    (c.in_ok-part.ensures.0 ∙ c.loop.invariant.0, step, search rules, search rules)

pub returns : goal.returns
returns g c = (c.loop.invariant.0, sofar_all (g.P.Production.parser c.args.production.now) _ _ _ _ _ _ c.loop-test.false c.loop.invariant.1)
