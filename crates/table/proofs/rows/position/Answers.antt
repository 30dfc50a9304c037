use Rattle.std.proofs.Common.{◌≡◌, ◌≢◌, rules}
use Rattle.std.proofs.lemmas.Iterator.{YieldsList-from_slice, IsFirst-from_position}
use Rattle.table.specs.declared.row.Row.{Row}
use Rattle.table.proofs.Positions.{position_is}
use Rattle.table.proofs.rows.position.Goals as goal
use borrow.Author.Tests.{tests}

pub returns : goal.returns
returns c =
    position_is _ _ _
    (IsFirst-from_position _ _ _ (λ (x : Row). x.identifier ≡ c.args.identifier) (λ (x : Row). x.identifier ≢ c.args.identifier) c.position.ensures.ran (YieldsList-from_slice c.args.rows.now cc) (λ x q k. search (rules, tests)) (λ x q k. search (rules, tests)))
