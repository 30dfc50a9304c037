use Rattle.std.proofs.Common.{vec_items}
use Rattle.tablelaws.proofs.Stepping.{VisitOf}
use Rattle.tablelaws.proofs.Visiting.{Seen}
use Rattle.tablelaws.proofs.visits.visit.Given as goal

abbrev pub invariant-loop-identifier : goal.invariant-loop-identifier
invariant-loop-identifier g l = record {
  visit : VisitOf l.table l.fn.symbol l.fn.key l.identifier-iterator;
  seen : Seen (g.P.PartnerTable.records l.table) l.fn.symbol l.fn.key l.identifier-iterator.above (vec_items l.found);
}
