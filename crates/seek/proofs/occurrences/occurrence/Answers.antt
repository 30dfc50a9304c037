use Rattle.std.proofs.Common.{◌≡◌, ℕ, suc, ◌+◌, ◌-◌, ◌<◌, map, length, get_or, drop, Some, sym, ap, ◌∙◌, subst, add-one, arith}
use Rattle.std.proofs.lemmas.List.{drop_all, length-map}
use Rattle.table.specs.Lists.{nth}
use Rattle.rules.specs.Books.{heads}
use Rattle.rules.specs.Views.{rule_of}
use Rattle.rulefile.specs.Rulebooks.{rules_book}
use Rattle.machine.specs.Matching.{no_rule}
use Rattle.machine.specs.Occurrences.{occurrences_from}
use Rattle.seek.proofs.Occurring.{occurs_next, at_rule, valid_at, heads_are}
use Rattle.seek.proofs.occurrences.occurrence.Goals as goal

pub returns-in-Break : goal.returns-in-Break
returns-in-Break c =
    let w = c.in-Break.ensures in
    let xs = c.rules-rule-items.result.now in
    let k = c.loop-k.k in
    let x = c.rule-item.result in
    let rs = c.rules-rule-items.ensures.value in
    let hs : c.deref.result.now ≡ heads (rule_of x) = c.deref.ensures.value ∙ heads_are x in
    let v = valid_at rule_of xs k x c.loop-k-test.true c.rule-item.is (rules_book c.args.rules.now) rs c.rules-rule-items.ensures.valid in
    let at : c.deref.result.now ≡ heads (get_or (rules_book c.args.rules.now).rules (k + 1 - 1) no_rule) = hs ∙ ap heads (sym (at_rule rule_of xs k x c.loop-k-test.true c.rule-item.is) ∙ ap (λ z. get_or z (k + 1 - 1) no_rule) rs) in
    record {
      value = sym (ap (λ z. nth (occurrences_from c.args.symbol 1 z) c.args.index) (sym rs) ∙ c.loop-k.invariant.0 ∙ ap (λ z. nth z c.loop-k.left) (occurs_next rule_of xs k x c.loop-k-test.true c.rule-item.is c.args.symbol c.deref.result.now hs) ∙ w.occurs (suc k) (occurrences_from c.args.symbol (suc (k + 1)) (map rule_of (drop (k + 1) xs))) ∙ ap (λ (n : ℕ). Some (n, c.in-Break.place)) (sym (add-one k)));
      has = record { range = record { low = omega arith; high = omega (arith, length-map xs rule_of, ap length rs, c.loop-k-test.true) }; within = subst (λ z. c.in-Break.place < length z) at w.within; is = ap (λ z. get_or z c.in-Break.place 0) (sym at) ∙ w.is };
      small = omega (arith, w.small, ap length hs, v.few_heads, c.loop-k.invariant.1, c.loop-k-test.true, c.rules-rule-items.ensures.valid.few_rules, length-map xs rule_of, ap length rs);
    }

pub loop-k-preserved : goal.loop-k-preserved
loop-k-preserved c =
    let w = c.in-Continue.ensures in
    let xs = c.rules-rule-items.result.now in
    let k = c.loop-k.k in
    let x = c.rule-item.result in
    let hs : c.deref.result.now ≡ heads (rule_of x) = c.deref.ensures.value ∙ heads_are x in
    let v = valid_at rule_of xs k x c.loop-k-test.true c.rule-item.is (rules_book c.args.rules.now) c.rules-rule-items.ensures.value c.rules-rule-items.ensures.valid in
    (c.loop-k.invariant.0 ∙ ap (λ z. nth z c.loop-k.left) (occurs_next rule_of xs k x c.loop-k-test.true c.rule-item.is c.args.symbol c.deref.result.now hs) ∙ w.occurs (suc k) (occurrences_from c.args.symbol (suc (k + 1)) (map rule_of (drop (k + 1) xs))), omega (arith, w.small, ap length hs, v.few_heads, c.loop-k.invariant.1))

pub returns : goal.returns
returns c =
    let xs = c.rules-rule-items.result.now in
    record { value = sym (ap (λ z. nth (occurrences_from c.args.symbol 1 z) c.args.index) (sym c.rules-rule-items.ensures.value) ∙ c.loop-k.invariant.0 ∙ ap (λ z. nth (occurrences_from c.args.symbol (suc c.loop-k.k) (map rule_of z)) c.loop-k.left) (drop_all c.loop-k.k xs c.loop-k-test.false)); has = tt; small = tt }
