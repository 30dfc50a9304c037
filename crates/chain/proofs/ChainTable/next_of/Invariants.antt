use Rattle.std.proofs.Common.{◌≡◌, vec_items}
use Rattle.chain.proofs.Walks.{Way}
use Rattle.chain.proofs.ChainTable.next_of.Given as goal

abbrev pub invariant-loop-row : goal.invariant-loop-row
invariant-loop-row l = record {
  can : (goal.iterator-loop-row).can_next l.row-iterator;
  finite : (goal.iterator-loop-row).is_finite l.row-iterator;
  same : l.row-iterator.table.now ≡ l.self;
  way : Way (vec_items l.self.rows.items) l.symbol l.key l.above l.row-iterator.at;
}
