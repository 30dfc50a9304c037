use Rattle.std.proofs.Common.{◌≡◌, ℕ, ◌≤◌, length, get_or, take, ap, ◌∙◌, arith}
use Rattle.std.proofs.lemmas.List.{length-take-le}
use Rattle.rules.specs.Books.{slot_count}
use Rattle.rulefile.specs.Rulebooks.{rules_book}
use Rattle.machine.specs.Keys.{key_from}
use Rattle.machine.specs.Tuples.{ids}
use Rattle.seek.specs.Fillings.{known_in}
use Rattle.seek.proofs.Keying.{when_some, when_none}
use Rattle.seek.proofs.keys.Partial.key.Goals as goal

pub returns-then-arity-eq0 : goal.returns-then-arity-eq0
returns-then-arity-eq0 g c =
    let hs = c.args.self.now.slots.heads.now in
    let arities = (rules_book c.args.self.now.slots.rules.now).arities in
    let n = length (ids c.args.self.now.slots.tuple) in
    when_none c.arity.result (get_or arities (get_or hs n 0) 0) (key_from (known_in g.P.PartnerTable c.args.self.now) (slot_count arities (take n hs)) c.args.guards.now) (c.arity.ensures.value ∙ ap (λ z. get_or z (get_or hs (length c.as_slice-place.result.now) 0) 0) c.signature-signature.ensures.value ∙ ap (λ z. get_or arities (get_or hs (length z) 0) 0) c.as_slice-place.ensures.value) c.if-arity-eq0.true

pub returns : goal.returns
returns g c =
    let hs = c.args.self.now.slots.heads.now in
    let arities = (rules_book c.args.self.now.slots.rules.now).arities in
    let n = length (ids c.args.self.now.slots.tuple) in
    let m = length c.as_slice-place.result.now in
    let few : length (take m hs) ≤ 3 = omega (arith, length-take-le m hs (omega (arith, ap length c.as_slice-place.ensures.value, c.requires.left)), c.requires.few, c.requires.left, ap length c.as_slice-place.ensures.value) in
    let sl : c.slots.result ≡ slot_count arities (take n hs) = (c.slots.ensures.few few).0 ∙ ap (λ z. slot_count z (take m hs)) c.signature-signature.ensures.value ∙ ap (λ z. slot_count arities (take (length z) hs)) c.as_slice-place.ensures.value in
    c.key_from.ensures ∙ ap (λ (k : ℕ). key_from (known_in g.P.PartnerTable c.args.self.now) k c.args.guards.now) sl ∙ when_some c.arity.result (get_or arities (get_or hs n 0) 0) (key_from (known_in g.P.PartnerTable c.args.self.now) (slot_count arities (take n hs)) c.args.guards.now) (c.arity.ensures.value ∙ ap (λ z. get_or z (get_or hs m 0) 0) c.signature-signature.ensures.value ∙ ap (λ z. get_or arities (get_or hs (length z) 0) 0) c.as_slice-place.ensures.value) c.if-arity-eq0.false
