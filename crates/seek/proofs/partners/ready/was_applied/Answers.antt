use Rattle.std.proofs.Common.{rules, tests}
use Rattle.std.proofs.lemmas.Iterator.{YieldsList-from_slice}
use Rattle.std.proofs.lemmas.Iterator.Search.{any_from_yields_List}
use Rattle.machine.specs.declared.tuple.firing.Firing.{Firing}
use Rattle.seek.proofs.Recorded.{same_firing, answers_applied}
use Rattle.seek.proofs.partners.ready.was_applied.Goals as goal

pub returns : goal.returns
returns c =
    let x : Firing = record { rule = c.args.number; tuple = c.args.tuple } in
    answers_applied c.any.result x c.args.history.now
    (any_from_yields_List (λ y. same_firing y x) _ _ _ c.any.ensures.ran (YieldsList-from_slice c.args.history.now cc) (λ z b q k. search (rules, tests)))
