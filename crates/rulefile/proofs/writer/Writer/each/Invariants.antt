use Rattle.std.proofs.Common.{take}
use Rattle.rules.specs.Format.{each}
use Rattle.rulefile.specs.Written.{Wrote}
use Rattle.rulefile.proofs.writer.Writer.each.Given as goal

abbrev pub invariant-loop-part : goal.invariant-loop-part
invariant-loop-part g l = Wrote (each g.E.Encode.encoding (take l.part-index l.parts)) l.initial.self l.self
