use Rattle.std.proofs.Common.{◌-◌, length, Some}
use Rattle.rules.specs.Views.{rule_of}
use Rattle.machine.specs.Tuples.{ids}
use Rattle.machine.specs.Keys.{key_at}
use Rattle.seek.specs.Fillings.{filler_at}
use Rattle.seek.specs.Slots.{store_in}
use Rattle.seek.specs.Searches.{view, Begun}
use Rattle.tablelaws.proofs.Stepping.{VisitOf}
use Rattle.seek.proofs.Searching.{Passed}
use Rattle.seek.proofs.partners.Search.+first_from.Given as goal

abbrev pub decreases-first_from : goal.decreases-first_from
decreases-first_from g l = 3 - length (ids l.tuple)

abbrev pub invariant-loop-identifier : goal.invariant-loop-identifier
invariant-loop-identifier g l = record {
  visit : VisitOf l.self.table.now (Some l.symbol) (key_at (view l.self).book.arities (store_in g.P.PartnerTable l.self.table.now) (rule_of l.attempt.rule.now) (filler_at (ids l.tuple) l.attempt.head l.attempt.active) (length (ids l.tuple))) l.identifier-iterator;
  passed : Begun g.T.Theory g.P.PartnerTable (view l.self) l.attempt.number l.attempt.head l.attempt.active (rule_of l.attempt.rule.now) (ids l.tuple) → Passed g.T.Theory g.P.PartnerTable (view l.self) l.attempt.number l.attempt.head l.attempt.active (ids l.tuple) l.identifier-iterator.above;
}
