use Rattle.std.proofs.Common.{ap, ◌++◌, ◌∙◌, vec_items, subst}
use Rattle.std.proofs.lemmas.Result.{err_from_is_err_and}
use Rattle.rules.specs.Format.{number_bytes, primitive_bytes, counted, goal_bytes, heads_bytes}
use Rattle.rules.specs.Views.{goal_of, rule_of}
use Rattle.rulefile.specs.Written.{Writes}
use Rattle.rulefile.proofs.Buffers.{wrote_then, writes_then, short_first, short_then}
use Rattle.rulefile.proofs.Encodings.{counted_map}
use Rattle.rulefile.proofs.parts.RuleEncode.encode.Goals as goal

pub returns-in_err-counted : goal.returns-in_err-counted
returns-in_err-counted c =
    let p = err_from_is_err_and c.from_residual-in_err-counted.result c.from_residual-in_err-counted.ensures.1 in
    let guards = rw c.deref.ensures.value at c.in_err-counted.ensures in
    rw p.1 (short_first _ (short_first _ (short_then c.in_ok-encode_heads.ensures guards)))

pub returns-in_err-encode : goal.returns-in_err-encode
returns-in_err-encode c =
    let p = err_from_is_err_and c.from_residual-in_err-encode.result c.from_residual-in_err-encode.ensures.1 in
    let guards = rw c.deref.ensures.value at c.in_ok-counted.ensures in
    rw p.1 (short_first _ (short_then (wrote_then c.in_ok-encode_heads.ensures guards) c.in_err-encode.ensures))

pub returns : goal.returns
returns c =
    let r = c.args.self.now in
    let guards = rw c.deref.ensures.value at c.in_ok-counted.ensures in
    let body = ap (counted (λ i. goal_bytes (goal_of i))) c.deref-2.ensures.value ∙ counted_map goal_bytes goal_of (vec_items r.body) in
    subst (λ x. Writes (heads_bytes (rule_of r) ++ counted primitive_bytes (vec_items r.guards) ++ number_bytes r.fresh ++ x) c.args.writer.now c.counted-2.result c.counted-2.new.self) body
    (writes_then _ _ _ (wrote_then (wrote_then c.in_ok-encode_heads.ensures guards) c.in_ok-encode.ensures) c.counted-2.ensures)
