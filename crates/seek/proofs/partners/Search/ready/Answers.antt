use Rattle.std.proofs.Common.{◌≡◌, eqb, length, ap, ◌∙◌}
use Rattle.std.proofs.lemmas.Bool.{both_ways}
use Rattle.rules.specs.Views.{rule_of}
use Rattle.machine.specs.Refined.{removes_nothing}
use Rattle.machine.specs.Tuples.{ids}
use Rattle.seek.specs.Searches.{view}
use Rattle.seek.proofs.Fitting.{none_there}
use Rattle.seek.proofs.Occurring.{heads_are}
use Rattle.seek.proofs.Searching.{ready_from}
use Rattle.seek.proofs.partners.Search.ready.Goals as goal
use Rattle.seek.proofs.partners.Search.ready.Goals.{else-is_empty-via-then-is_empty+else-was_applied, else-is_empty-via-else-is_empty}

pub returns : goal.returns
returns g c =
    let none : c.is_empty.result ≡ removes_nothing (rule_of c.args.attempt.rule.now) = c.is_empty.ensures ∙ ap (λ z. eqb (length z) 0) c.removed_heads.ensures.value ∙ none_there (rule_of c.args.attempt.rule.now).removed in
    ready_from g.T.Theory g.P.PartnerTable (view c.args.self.now) c.args.attempt.number (rule_of c.args.attempt.rule.now) (ids c.args.tuple) (elim c.else-is_empty.branch [ else-is_empty-via-then-is_empty+else-was_applied w ↦ (λ z. w.if-was_applied.ensures z.1) | else-is_empty-via-else-is_empty w ↦ (λ z. both_ways c.is_empty.result w.if-is_empty.false (none ∙ z.0)) ]) c.as_slice.result.now (c.as_slice.ensures.value ∙ heads_are c.args.attempt.rule.now) c.deref.result.now c.deref.ensures.value c.guarded.result c.guarded.ensures
