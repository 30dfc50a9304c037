use Rattle.std.proofs.Common.{refl, arith, rules}
use Rattle.rules.specs.Format.{file_bytes}
use Rattle.rulefile.specs.Rulebooks.{rules_book}
use Rattle.rulefile.proofs.Buffers.{wrote_first}
use Rattle.rulefile.proofs.loaded.Rules.write.Goals as goal

pub returns : goal.returns
returns c =
    let w = wrote_first (file_bytes (rules_book c.args.self.now)) _ _ refl c.in_ok-encode_file.ensures in
    (w.0, omega (arith, c.if-out-file_len.false, c.file_len.ensures), search rules)
