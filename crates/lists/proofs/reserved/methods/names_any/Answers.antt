use Rattle.std.proofs.Common.{rules, ◌∙◌}
use Rattle.std.proofs.lemmas.Iterator.{YieldsList-from_slice}
use Rattle.std.proofs.lemmas.Iterator.Search.{any_from_yields_List}
use Rattle.table.specs.Lists.{memberb}
use Rattle.machine.proofs.Members.{any_names}
use Rattle.lists.proofs.reserved.methods.names_any.Goals as goal

pub returns : goal.returns
returns c =
    let gone = c.args.gone.now in
    any_from_yields_List (λ i. memberb i gone) _ _ _ c.any.ensures.ran (YieldsList-from_slice c.args.identifiers.now cc) (λ x b q k. search rules)
    ∙ any_names gone c.args.identifiers.now
