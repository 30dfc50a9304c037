use Rattle.std.proofs.Common.{◌++◌, map, drop, set, ap, ◌∙◌, arith}
use Rattle.std.proofs.lemmas.List.Edits.{map_over_more}
use Rattle.std.proofs.lemmas.List.{take_all, drop_all, append-nil, get_or_default}
use Rattle.chain.specs.Chains.{relinked}
use Rattle.chain.proofs.relink.Goals as goal

pub loop-link-preserved : goal.loop-link-preserved
loop-link-preserved c =
    let ys = c.loop-link.links in
    let i = c.loop-link.link-index in
    ap (set ys i) c.relinked.ensures
    ∙ map_over_more (relinked c.args.place c.args.rest) c.args.links.now ys i _ (omega arith) c.loop-link.invariant (get_or_default ys i _ _ (omega arith))

pub returns : goal.returns
returns c =
    let xs = c.args.links.now in
    let i = c.loop-link.link-index in
    let f = relinked c.args.place c.args.rest in
    c.loop-link.invariant
    ∙ ap (λ zs. map f zs ++ drop i xs) (take_all i xs (omega arith))
    ∙ ap (λ zs. map f xs ++ zs) (drop_all i xs (omega arith))
    ∙ append-nil (map f xs)
