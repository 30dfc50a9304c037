use Rattle.std.proofs.Common.{None, vec_items}
use Rattle.tablelaws.proofs.Stepping.{VisitOf}
use Rattle.lists.proofs.Collects.{Collecting}
use Rattle.lists.proofs.lists.waking.collect.Given as goal

abbrev pub invariant-loop-identifier : goal.invariant-loop-identifier
invariant-loop-identifier g l = record {
  visit : VisitOf l.table None None l.identifier-iterator;
  found : Collecting (g.T.Theory.means l.theory) (g.P.PartnerTable.records l.table) l.identifier-iterator.above l.count (vec_items l.woken.items);
}
