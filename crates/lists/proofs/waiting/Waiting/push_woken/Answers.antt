use Rattle.std.proofs.Common.{◌≡◌, ◌+◌, ◌++◌, ◌∷◌, [], map, length, refl, sym, ap, ◌∙◌, append-nil, deque_items, arith, length-append}
use Rattle.std.proofs.lemmas.List.{length-map}
use Rattle.machine.specs.Sheets.{wake}
use Rattle.lists.specs.Entries.{entry_means, all_storable}
use Rattle.lists.specs.Queues.{queued}
use Rattle.machine.proofs.Backwards.{one_back, all_back}
use Rattle.lists.proofs.waiting.Waiting.push_woken.Goals as goal

pub loop-identifier-init : goal.loop-identifier-init
loop-identifier-init c = ([], (let e = append-nil c.into_iter-identifier-iterator.result.iter.rest.now in cc), refl, omega arith)

pub invariant_of-self : goal.invariant_of-self
invariant_of-self c =
    let i = c.loop-identifier.invariant in
    let n : length c.args.woken.now ≡ length c.next.new.self.iter.rest.now + 1 + length i.0 = ap length (i.1 ∙ ap (λ z. z ++ i.0) c.in-Some.ensures.steps) ∙ simp length-append (omega arith) in
    record { kept = (omega arith, omega (arith, i.3, n, length-map (deque_items c.args.self.now.entries) entry_means), ap (λ z. all_storable (map entry_means z)) c.push_front_reserved.ensures.items ∙ c.loop-identifier.self.kept.2) }

pub loop-identifier-preserved : goal.loop-identifier-preserved
loop-identifier-preserved c =
    let i = c.loop-identifier.invariant in
    let x = c.in-Some.identifier.now in (
      x ∷ i.0,
      one_back c.next.new.self.iter.rest.now i.0 x i.1 c.in-Some.ensures.steps,
      ap (map entry_means) c.push_front_reserved.ensures.items ∙ ap (λ z. wake x ∷ z) i.2,
      omega (arith, i.3),
    )

pub returns : goal.returns
returns c =
    let i = c.loop-identifier.invariant in
    i.2 ∙ ap (λ z. map wake z ++ queued c.args.self.now) (sym (all_back c.loop-identifier.identifier-iterator.iter.rest.now i.1 c.in-None.ensures.steps.0))
