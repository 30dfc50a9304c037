use Rattle.std.proofs.Common.{◌++◌, vec_items, sym, ap, ◌∙◌, subst}
use Rattle.terms.specs.Lists.{All}
use Rattle.rules.specs.Format.{number_bytes, counted, rule_bytes, mark}
use Rattle.rules.specs.Views.{rule_of}
use Rattle.rules.proofs.ValidOnce.{validity}
use Rattle.rulefile.specs.Fits.{RuleFits}
use Rattle.rulefile.specs.Rulebooks.{rules_book}
use Rattle.rulefile.specs.Written.{Writes}
use Rattle.rulefile.proofs.Buffers.{wrote_then, writes_then}
use Rattle.rulefile.proofs.Encodings.{counted_map}
use Rattle.rulefile.proofs.Fitting.{rules_fit}
use Rattle.rulefile.proofs.loaded.Rules.encode_file.Goals as goal

pub counted-requires-2-clause-fits : goal.counted-requires-2-clause-fits
counted-requires-2-clause-fits c =
    let fit = rules_fit (vec_items c.args.self.now.arities) (vec_items c.args.self.now.rules) (validity (rules_book c.args.self.now) c.args.self.now.valid) in
    subst (All RuleFits) (sym c.deref-2.ensures.value) fit.1

pub returns : goal.returns
returns c =
    let r = c.args.self.now in
    let arities = rw c.deref.ensures.value at c.in_ok-counted.ensures in
    let rules = ap (counted (λ x. rule_bytes (rule_of x))) c.deref-2.ensures.value ∙ counted_map rule_bytes rule_of (vec_items r.rules) in
    subst (λ x. Writes (mark ++ counted number_bytes (vec_items r.arities) ++ x) c.args.writer.now c.counted-2.result c.counted-2.new.self) rules
    (writes_then _ _ _ (wrote_then c.in_ok-each.ensures arities) c.counted-2.ensures)
