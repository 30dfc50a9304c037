use Rattle.std.proofs.Common.{◌≡◌, vec_items}
use Rattle.chain.proofs.Trails.{Trail}
use Rattle.chain.proofs.ChainTable.before.Given as goal

abbrev pub invariant-loop-place : goal.invariant-loop-place
invariant-loop-place l = record {
  can : (goal.iterator-loop-place).can_next l.place-iterator;
  finite : (goal.iterator-loop-place).is_finite l.place-iterator;
  same : l.place-iterator.table.now ≡ l.self;
  trail : Trail (vec_items l.self.rows.items) l.symbol l.identifier l.last l.place-iterator.at;
}
