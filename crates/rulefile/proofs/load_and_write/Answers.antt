use Rattle.std.proofs.Common.{length, sym, ap, ◌∙◌}
use Rattle.std.proofs.lemmas.List.{with_items_is}
use Rattle.rules.specs.Format.{file_bytes}
use Rattle.rulefile.specs.Rulebooks.{rules_book}
use Rattle.rulefile.proofs.Copies.{written_whole}
use Rattle.rulefile.proofs.load_and_write.Goals as goal

pub returns-clause-again : goal.returns-clause-again
returns-clause-again c =
    let rules = c.in_ok-rules.rules in
    let loaded = c.in_ok-rules.ensures in
    let bytes = ((loaded.law.exactly (rules_book rules)).0 loaded.answer).2 in
    let long = c.deref_mut.ensures.len ∙ c.in_ok-copy.ensures.len ∙ c.file_len.ensures in
    let copy = written_whole (file_bytes (rules_book rules)) c.deref_mut.result.now c.write.new.out c.write.result long c.write.ensures in
    let whole = with_items_is c.in_ok-copy.copy c.write.new.out (ap length copy ∙ sym c.file_len.ensures ∙ sym c.in_ok-copy.ensures.len) in
    whole ∙ copy ∙ sym bytes
