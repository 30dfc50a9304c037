use Rattle.std.proofs.Common.{subst}
use Rattle.std.proofs.lemmas.Result.{err_from_is_err_and}
use Rattle.rulefile.specs.Written.{Wrote, RanOut}
use Rattle.rulefile.proofs.Buffers.{wrote_more, short_more}
use Rattle.rulefile.proofs.writer.Writer.each.Goals as goal

pub returns-in_err-encode : goal.returns-in_err-encode
returns-in_err-encode g c =
    let p = err_from_is_err_and c.from_residual.result c.from_residual.ensures.1 in
    let short = subst (λ x. RanOut (g.E.Encode.encoding x) c.loop-part.self c.encode.new.writer) c.part-item.is c.in_err-encode.ensures in
    rw p.1 (short_more g.E.Encode.encoding c.args.parts.now c.loop-part.part-index c.part-item.result c.args.self.now c.loop-part.self c.encode.new.writer c.loop-part-test.true c.loop-part.invariant short)

pub loop-part-preserved : goal.loop-part-preserved
loop-part-preserved g c =
    let wrote = subst (λ x. Wrote (g.E.Encode.encoding x) c.loop-part.self c.encode.new.writer) c.part-item.is c.in_ok-encode.ensures in
    wrote_more g.E.Encode.encoding c.args.parts.now c.loop-part.part-index c.part-item.result c.args.self.now c.loop-part.self c.encode.new.writer c.loop-part-test.true c.loop-part.invariant wrote
