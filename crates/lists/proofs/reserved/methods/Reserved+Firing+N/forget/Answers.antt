use Rattle.std.proofs.Common.{map, vec_items, not, rules, ap, ◌∙◌}
use Rattle.std.proofs.lemmas.Fn.{filter_same}
use Rattle.machine.specs.Refined.{names_any}
use Rattle.machine.specs.Tuples.{ids, firing_of}
use Rattle.lists.proofs.Keeps.{kept_by_map}
use Rattle.lists.proofs.reserved.methods.Reserved+Firing+N.forget.Goals as goal

pub returns : goal.returns
returns g c =
    let gone = c.args.gone.now in
    ap (map firing_of) (filter_same _ (λ f. not (names_any gone (ids f.tuple))) _ (λ x b f k. search rules) _ _ c.retain.ensures.filtered)
    ∙ kept_by_map (λ f. not (names_any gone f.1)) firing_of (vec_items c.args.self.now.items)
