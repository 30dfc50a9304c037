use Rattle.std.proofs.Common.{vec_items, arith}
use Rattle.rules.specs.Parse.{index}
use Rattle.rulereader.specs.Reads.{ahead}
use Rattle.rulereader.proofs.RuleParts.{got_same, many_length}
use Rattle.rulereader.proofs.rule.RulePart.read_heads.Goals as goal

pub returns-clause-few : goal.returns-clause-few
returns-clause-few c =
    let read = got_same (vec_items c.in_ok-heads.heads) c.in_ok-heads.ensures.1 in
    omega (arith, many_length (index c.symbols-symbols.result) _ c.head_counts.new.self.pos (ahead c.head_counts.new.self) (vec_items c.in_ok-heads.heads) _ _ read, c.in_ok-kept.ensures.few, c.in_ok-heads.heads.ok.0)
