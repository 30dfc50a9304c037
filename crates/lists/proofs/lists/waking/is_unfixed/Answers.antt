use Rattle.std.proofs.Common.{true, false, refl, rules}
use Rattle.std.proofs.lemmas.Iterator.{cases_from_any, YieldsList-from_range}
use Rattle.lists.specs.Wakings.{OpenIn}
use Rattle.lists.proofs.Collects.{unfixed_any}
use Rattle.lists.proofs.lists.waking.is_unfixed.Goals as goal

pub returns : goal.returns
returns g c =
    let said = OpenIn g.T.Theory g.P.PartnerTable c.args.theory.now c.args.table.now in
    let i = c.args.identifier in
    unfixed_any (g.T.Theory.means c.args.theory.now) i (g.P.PartnerTable.records c.args.table.now i) (g.met.P.PartnerTable.fits c.args.table.now i) _
    (cases_from_any _ _ _ (λ place. said true i place) (λ place. said false i place) c.any.ensures.ran (YieldsList-from_range 0 4 4 refl refl) (λ x q k. search rules) (λ x q k. search rules))
