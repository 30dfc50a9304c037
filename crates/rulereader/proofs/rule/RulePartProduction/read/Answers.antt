use Rattle.std.proofs.Common.{vec_items, refl, ◌∙◌, inl, inr, ⊎_elim}
use Rattle.std.proofs.lemmas.Result.{err_from_is_err_and}
use Rattle.rules.specs.Parse.{rule, rule_rest}
use Rattle.rules.specs.Views.{rule_of}
use Rattle.rules.proofs.Outcomes.{step, fails}
use Rattle.rulereader.specs.Reads.{ahead}
use Rattle.rulereader.proofs.RuleParts.{rule_by_heads}
use Rattle.rulereader.proofs.Tails.{loads_on}
use Rattle.rulereader.proofs.rule.RulePartProduction.read.Goals as goal

pub returns-in_err-kept : goal.returns-in_err-kept
returns-in_err-kept c =
    let p = err_from_is_err_and c.from_residual.result c.from_residual.ensures.1 in
    let whole = rule_by_heads c.args.self.now.signature.arities.now c.args.reader.now.pos (ahead c.args.reader.now) in
    rw (p.1, p.2) (⊎_elim (λ h. inl (whole ∙ fails _ h)) inr c.in_err-kept.ensures.reads)

pub returns : goal.returns
returns c =
    let heads = c.in_ok-kept.ensures.reads in
    let whole = rule_by_heads c.args.self.now.signature.arities.now c.args.reader.now.pos (ahead c.args.reader.now) in
    loads_on rule_of (rule c.args.self.now.signature.arities.now) (rule_rest c.args.self.now.signature.arities.now c.in_ok-kept.kept (vec_items c.in_ok-kept.heads)) c.args.reader.now c.read_heads.new.reader c.read_rest.new.reader c.read_rest.result heads.0 (whole ∙ step _ heads.1 refl) c.read_rest.ensures
