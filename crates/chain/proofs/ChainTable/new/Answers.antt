use Rattle.std.proofs.Common.{refl}
use Rattle.chain.proofs.Links.{linked_none}
use Rattle.chain.proofs.ChainTable.new.Goals as goal

pub invariant_of-result-clause-linked : goal.invariant_of-result-clause-linked
invariant_of-result-clause-linked c = ∣ linked_none _ _ _ c.in_ok-new.ensures.0 c.in_ok-with_capacity.ensures.items refl refl ∣₁
