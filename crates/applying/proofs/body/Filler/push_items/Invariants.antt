use Rattle.std.proofs.Common.{◌≡◌, ℕ, List, ◌++◌, map}
use Rattle.rules.specs.declared.Item.{Item}
use Rattle.rules.specs.Views.{goal_of}
use Rattle.lists.specs.Views.{Waits, waiting_of}
use Rattle.applying.specs.Fillers.{ItemsFit, operand_at}
use Rattle.applying.proofs.Pushing.{topped}
use Rattle.applying.proofs.body.Filler.push_items.Given as goal

abbrev pub invariant-loop-item : goal.invariant-loop-item
invariant-loop-item g l =
    (done : List Item)
    × (l.items ≡ l.item-iterator.iter.rest.now ++ done)
    × ((n : ℕ) → ItemsFit l.self l.initial.lists (map goal_of l.items) n → Waits l.initial.lists l.lists (topped (operand_at g.P.PartnerTable l.self) (waiting_of l.initial.lists) (map goal_of done)))
