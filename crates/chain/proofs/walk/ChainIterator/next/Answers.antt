use Rattle.std.proofs.Common.{◌<◌, vec_items, sym, subst, arith}
use Rattle.chain.specs.Chains.{left}
use Rattle.chain.proofs.Walks.{chain_falls}
use Rattle.chain.proofs.walk.ChainIterator.next.Goals as goal

pub returns-clause-goes : goal.returns-clause-goes
returns-clause-goes c =
    let t = c.args.self.now.table.now in
    let xs = vec_items t.rows.items in
    record {
      on = λ f. (
        tt,
        tt,
        subst (λ o. left xs c.stand-rest.result.1 < left xs o) (sym c.in_ok-place.was)
            (chain_falls xs c.in_ok-place.place c.stand-rest.result.0 c.stand-rest.result.1 t.rows.ok.0 (omega (arith, c.args.self.now.within c.in_ok-place.place c.in_ok-place.was, t.rows.items.ok.0)) c.stand-rest.ensures),
      );
      keeps = tt;
      rests = λ f. tt;
    }
