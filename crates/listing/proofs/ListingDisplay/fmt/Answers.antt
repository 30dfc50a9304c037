use Rattle.std.proofs.Common.{map, sym, refl, ap, ◌∙◌, subst}
use Rattle.std.proofs.lemmas.List.{take_all}
use Rattle.terms.specs.Lists.{All}
use Rattle.rules.specs.Valids.{RuleValid}
use Rattle.rules.specs.Views.{rule_of}
use Rattle.rulefile.specs.Rulebooks.{rules_book}
use Rattle.listing.proofs.ListingTexts.{few_heads, rules_more, book_text_is}
use Rattle.listing.proofs.Steps.{nothing, more, spelled}
use Rattle.listing.proofs.ListingDisplay.fmt.Goals as goal

pub loop-k-init : goal.loop-k-init
loop-k-init g c plain = nothing plain

pub invariant_of-text : goal.invariant_of-text
invariant_of-text g c =
    let arities = (rules_book c.args.self.now.rules.now).arities in
    let rules = c.rules-rule-items in
    record { few = few_heads arities rules.result.now c.loop-k.k c.rule-item.result c.loop-k-test.true c.rule-item.is (subst (All (RuleValid arities)) (sym rules.ensures.value) rules.ensures.valid.rules) }

pub loop-k-preserved : goal.loop-k-preserved
loop-k-preserved g c plain =
    spelled (rules_more c.signature-signature.result.arities.now c.rules-rule-items.result.now c.loop-k.k c.rule-item.result c.loop-k-test.true c.rule-item.is)
    (more (c.loop-k.invariant plain) c.in_ok-write-2.ensures.writes)

pub returns-clause-writes : goal.returns-clause-writes
returns-clause-writes g c plain ok =
    let all = ap (map rule_of) (take_all c.loop-k.k c.rules-rule-items.result.now c.loop-k-test.false) ∙ c.rules-rule-items.ensures.value in
    spelled (book_text_is (rules_book c.args.self.now.rules.now) c.signature-signature.result.arities.now _ c.signature-signature.ensures.value all)
    (more (c.in_ok-write.ensures.writes plain refl) (λ p _. c.loop-k.invariant p))
