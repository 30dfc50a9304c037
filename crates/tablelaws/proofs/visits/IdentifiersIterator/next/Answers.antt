use Rattle.std.proofs.Common.{arith}
use Rattle.tablelaws.proofs.Visiting.{high_answer}
use Rattle.tablelaws.proofs.visits.IdentifiersIterator.next.Goals as goal

pub returns-clause-goes : goal.returns-clause-goes
returns-clause-goes g c =
    let v = c.args.self.now in
    let i = c.in_ok-identifier.identifier in
    record {
      on = λ f. (tt, tt, omega (arith, c.in_ok-identifier.ensures.0, high_answer i v.symbol v.key (g.P.PartnerTable.records v.table.now i) (g.met.P.PartnerTable.fits v.table.now i) c.in_ok-identifier.ensures.1));
      keeps = tt;
      rests = λ f. tt;
    }
