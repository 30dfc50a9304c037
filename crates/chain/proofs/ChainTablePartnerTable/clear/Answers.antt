use Rattle.std.proofs.Common.{refl}
use Rattle.chain.proofs.Links.{linked_none}
use Rattle.chain.proofs.ChainTablePartnerTable.clear.Goals as goal

pub invariant_of-self-clause-linked : goal.invariant_of-self-clause-linked
invariant_of-self-clause-linked c = ∣ linked_none _ _ _ c.clear.ensures.items c.clear-2.ensures.items refl refl ∣₁
