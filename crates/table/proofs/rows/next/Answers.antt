use Rattle.std.proofs.Common.{sym, ◌∙◌, subst, rules}
use Rattle.std.proofs.lemmas.Iterator.{YieldsList-from_slice, YieldsList-from_map}
use Rattle.std.proofs.lemmas.Iterator.Adapters.{option_map_id}
use Rattle.std.proofs.lemmas.Iterator.Consumers.{YieldsList-at, YieldsList-from_filter, min_from_yields_List}
use Rattle.table.specs.Nexts.{NextOf}
use Rattle.table.specs.Rows.{look}
use Rattle.table.specs.declared.row.Row.{Row}
use Rattle.table.proofs.Leasts.{passes, next_least}
use Rattle.table.proofs.rows.next.Goals as goal
use borrow.Author.Tests.{tests}

pub returns : goal.returns
returns c =
    let xs = c.args.rows.now in
    let s = c.args.symbol in
    let key = c.args.key in
    let low = c.args.above in
    subst (λ o. NextOf (look xs) s key low o)
    (sym (sym (option_map_id c.min.result) ∙ min_from_yields_List c.map.result c.min.result c.min.ensures.ran
    (YieldsList-from_map _ (λ (x : Row). x.identifier) (YieldsList-at c.map.ensures.source (YieldsList-from_filter _ (passes s key low) (YieldsList-from_slice xs cc) c.filter.ensures.closure (λ x b q k. search (rules, tests)))) c.map.ensures.closure (λ x r q k. search rules))))
    (next_least xs s key low)
