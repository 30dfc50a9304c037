use Rattle.std.proofs.Common.{◌≡◌, suc, ◌+◌, ◌*◌, ◌≤◌, map, drop}
use Rattle.table.specs.Lists.{nth}
use Rattle.rules.specs.Views.{rule_of}
use Rattle.machine.specs.Occurrences.{occurrences_from}
use Rattle.seek.proofs.occurrences.occurrence.Given as goal

abbrev pub invariant-loop-k : goal.invariant-loop-k
invariant-loop-k l = (nth (occurrences_from l.symbol 1 (map rule_of l.rule-items)) l.index ≡ nth (occurrences_from l.symbol (suc l.k) (map rule_of (drop l.k l.rule-items))) l.left) × (l.index ≤ l.left + 3 * l.k)
