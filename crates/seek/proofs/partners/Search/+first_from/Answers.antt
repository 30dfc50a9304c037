use Rattle.std.proofs.Common.{◌≡◌, ℕ, ◌-◌, ◌<◌, ◌≤◌, length, refl, sym, ap, ◌∙◌, subst, arith}
use Rattle.std.specs.Option.{option_map}
use Rattle.rules.specs.Books.{heads}
use Rattle.rules.specs.Views.{rule_of}
use Rattle.machine.specs.Tuples.{ids}
use Rattle.seek.specs.Searches.{view, FirstFrom}
use Rattle.seek.proofs.Occurring.{heads_are}
use Rattle.tablelaws.proofs.Stepping.{begun, gone_on, next_step}
use Rattle.seek.proofs.Searching.{Passed, room_for, head_symbol, with_one, fewer_left, found_from, filled, active_twice, active_begun, active_found, passed_none, passed_below, passed_on, unfit, fill_begun, none_left, found_any, tried_any}
use Rattle.seek.proofs.partners.Search.+first_from.Goals as goal

pub returns-then-place-heads : goal.returns-then-place-heads
returns-then-place-heads g t c b =
    let eq = c.as_slice-heads.ensures.value ∙ heads_are c.args.attempt.rule.now in
    let le : length (heads (rule_of c.args.attempt.rule.now)) ≤ length (ids c.args.tuple) = omega (arith, ap length eq, ap length c.as_slice-place.ensures.value, c.if-place-heads.true) in
    subst (λ z. FirstFrom g.T.Theory g.P.PartnerTable (view c.args.self.now) c.args.attempt.number c.args.attempt.head c.args.attempt.active (ids c.args.tuple) (option_map ids z)) (sym c.then_some.ensures)
    (filled b le ids c.args.tuple refl c.ready.result c.ready.ensures)

pub first_from-requires : goal.first_from-requires
first_from-requires g t c κs within =
    let eq = c.as_slice-heads.ensures.value ∙ heads_are c.args.attempt.rule.now in
    let lt = room_for eq c.as_slice-place.ensures.value c.if-place-heads.false in
    (subst (λ (n : ℕ). 3 - length (ids c.with.result) < n) c.decreases (fewer_left (ids c.args.tuple) c.args.attempt.active lt c.args.attempt.few c.with.ensures), within)

pub returns-then-has : goal.returns-then-has
returns-then-has g t c b =
    let eq = c.as_slice-heads.ensures.value ∙ heads_are c.args.attempt.rule.now in
    let lt = room_for eq c.as_slice-place.ensures.value c.if-place-heads.false in
    let at : length (ids c.args.tuple) ≡ c.args.attempt.head = sym (ap length c.as_slice-place.ensures.value) ∙ c.if-place-attempt.true in
    active_twice b lt at c.if-has.ensures

pub returns-else-has : goal.returns-else-has
returns-else-has g t c b =
    let eq = c.as_slice-heads.ensures.value ∙ heads_are c.args.attempt.rule.now in
    let lt = room_for eq c.as_slice-place.ensures.value c.if-place-heads.false in
    let at : length (ids c.args.tuple) ≡ c.args.attempt.head = sym (ap length c.as_slice-place.ensures.value) ∙ c.if-place-attempt.true in
    let wi = with_one (ids c.args.tuple) c.args.attempt.active lt c.args.attempt.few c.with.ensures in
    active_found b lt at (option_map ids c.first_from.result) (found_from wi (option_map ids c.first_from.result) c.first_from.ensures (active_begun b lt at c.if-has.ensures))

pub loop-identifier-init : goal.loop-identifier-init
loop-identifier-init g t c =
    let e = c.into_iter-identifier-iterator.ensures.into_iter_gives in
    let o = c.of-identifier-items.ensures in
    record {
      visit = begun e o.table o.symbol (o.key ∙ c.key-key.ensures);
      passed = λ b. subst (Passed g.T.Theory g.P.PartnerTable (view c.args.self.now) c.args.attempt.number c.args.attempt.head c.args.attempt.active (ids c.args.tuple)) (sym (ap (λ v. v.above) e ∙ o.above)) (passed_none b (g.met.P.PartnerTable.fits c.args.self.now.table.now));
    }

pub first_from-found-requires : goal.first_from-found-requires
first_from-found-requires g t c κs within =
    let eq = c.as_slice-heads.ensures.value ∙ heads_are c.args.attempt.rule.now in
    let lt = room_for eq c.as_slice-place.ensures.value c.if-place-heads.false in
    (subst (λ (n : ℕ). 3 - length (ids c.with-then-may_fill.result) < n) c.decreases (fewer_left (ids c.args.tuple) c.in-Some.identifier lt c.args.attempt.few c.with-then-may_fill.ensures), within)

pub returns-then-is_some : goal.returns-then-is_some
returns-then-is_some g t c b =
    let eq = c.as_slice-heads.ensures.value ∙ heads_are c.args.attempt.rule.now in
    let lt = room_for eq c.as_slice-place.ensures.value c.if-place-heads.false in
    let ne : length (ids c.args.tuple) ≡ c.args.attempt.head → ⊥ = λ e. c.if-place-attempt.false (ap length c.as_slice-place.ensures.value ∙ e) in
    let sy = head_symbol eq c.as_slice-place.ensures.value in
    let wi = with_one (ids c.args.tuple) c.in-Some.identifier lt c.args.attempt.few c.with-then-may_fill.ensures in
    found_any b lt ids c.in-Some.identifier (passed_below b lt sy c.loop-identifier.identifier-iterator.above c.in-Some.identifier (c.loop-identifier.invariant.passed b) (next_step g.P.PartnerTable c.loop-identifier.invariant.visit c.in-Some.ensures.steps)) c.first_from-found.result (sym c.is_some.ensures ∙ c.if-is_some.true) (found_from wi (option_map ids c.first_from-found.result) c.first_from-found.ensures (fill_begun b lt sy c.in-Some.identifier ne c.if-may_fill.ensures))

pub loop-identifier-preserved-else-is_some : goal.loop-identifier-preserved-else-is_some
loop-identifier-preserved-else-is_some g t c =
    let i = c.loop-identifier.invariant in
    let s = c.in-Some.ensures.steps in
    record {
      visit = gone_on g.P.PartnerTable i.visit s;
      passed = λ b.
          let eq = c.as_slice-heads.ensures.value ∙ heads_are c.args.attempt.rule.now in
          let lt = room_for eq c.as_slice-place.ensures.value c.if-place-heads.false in
          let ne : length (ids c.args.tuple) ≡ c.args.attempt.head → ⊥ = λ e. c.if-place-attempt.false (ap length c.as_slice-place.ensures.value ∙ e) in
          let sy = head_symbol eq c.as_slice-place.ensures.value in
          let wi = with_one (ids c.args.tuple) c.in-Some.identifier lt c.args.attempt.few c.with-then-may_fill.ensures in
          passed_on b lt sy c.loop-identifier.identifier-iterator.above c.in-Some.identifier s.above (i.passed b) (next_step g.P.PartnerTable i.visit s) (tried_any b ids c.in-Some.identifier c.first_from-found.result (sym c.is_some.ensures ∙ c.if-is_some.false) (found_from wi (option_map ids c.first_from-found.result) c.first_from-found.ensures (fill_begun b lt sy c.in-Some.identifier ne c.if-may_fill.ensures)));
    }

pub loop-identifier-preserved : goal.loop-identifier-preserved
loop-identifier-preserved g t c =
    let i = c.loop-identifier.invariant in
    let s = c.in-Some.ensures.steps in
    record {
      visit = gone_on g.P.PartnerTable i.visit s;
      passed = λ b.
          let eq = c.as_slice-heads.ensures.value ∙ heads_are c.args.attempt.rule.now in
          let lt = room_for eq c.as_slice-place.ensures.value c.if-place-heads.false in
          let ne : length (ids c.args.tuple) ≡ c.args.attempt.head → ⊥ = λ e. c.if-place-attempt.false (ap length c.as_slice-place.ensures.value ∙ e) in
          let sy = head_symbol eq c.as_slice-place.ensures.value in
          passed_on b lt sy c.loop-identifier.identifier-iterator.above c.in-Some.identifier s.above (i.passed b) (next_step g.P.PartnerTable i.visit s) (unfit b lt sy c.in-Some.identifier ne c.if-may_fill.ensures);
    }

pub returns : goal.returns
returns g t c b =
    let eq = c.as_slice-heads.ensures.value ∙ heads_are c.args.attempt.rule.now in
    let lt = room_for eq c.as_slice-place.ensures.value c.if-place-heads.false in
    let sy = head_symbol eq c.as_slice-place.ensures.value in
    none_left b lt sy c.loop-identifier.identifier-iterator.above (c.loop-identifier.invariant.passed b) (next_step g.P.PartnerTable c.loop-identifier.invariant.visit c.in-None.ensures.steps)
