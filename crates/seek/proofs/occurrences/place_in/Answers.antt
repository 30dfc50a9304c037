use Rattle.std.proofs.Common.{◌≡◌, ℕ, ◌++◌, ◌∷◌, [], length, get_or, Some, sym, ap, ◌∙◌, arith, length-append}
use Rattle.std.proofs.Math.Seq.{get_or-append_seam}
use Rattle.table.specs.Lists.{nth}
use Rattle.machine.specs.Occurrences.{places_from}
use Rattle.machine.proofs.Backwards.{one_back}
use Rattle.seek.proofs.Occurring.{place_here, place_passed, place_other}
use Rattle.seek.proofs.occurrences.place_in.Goals as goal

pub returns-then-left-eq0 : goal.returns-then-left-eq0
returns-then-left-eq0 c =
    let i = c.loop-place.invariant in
    let s = c.in-Some.ensures.steps in
    let before = c.next.new.self.iter.iter.rest.now in
    let x = c.in-Some.head.now in
    let r : c.loop-place.place-iterator.iter.iter.rest.now ≡ before ++ (x ∷ []) = s.1.0 in
    let e : c.args.heads.now ≡ before ++ (x ∷ i.0) = one_back before i.0 x i.1 r in
    let p : c.in-Some.place ≡ length before = omega (arith, s.1.1, i.2) in
    record {
      within = omega (arith, p, ap length e, length-append before (x ∷ i.0));
      is = ap (λ z. get_or z c.in-Some.place 0) e ∙ ap (λ (n : ℕ). get_or (before ++ (x ∷ i.0)) n 0) p ∙ get_or-append_seam before x i.0 0 ∙ c.if-head-symbol.true;
      occurs = λ k rest.
          i.3 k rest
          ∙ ap (λ (n : ℕ). nth (places_from k c.args.symbol c.loop-place.place-iterator.iter.iter.rest.now 0 ++ rest) n) c.if-left-eq0.true
          ∙ ap (λ z. nth (places_from k c.args.symbol z 0 ++ rest) 0) r
          ∙ place_here k c.args.symbol before x rest c.if-head-symbol.true
          ∙ ap (λ (n : ℕ). Some (k, n)) (sym p);
      small = omega (arith, i.4, c.if-left-eq0.true, ap length i.1, length-append c.loop-place.place-iterator.iter.iter.rest.now i.0);
    }

pub loop-place-preserved-then-head-symbol : goal.loop-place-preserved-then-head-symbol
loop-place-preserved-then-head-symbol c =
    let i = c.loop-place.invariant in
    let s = c.in-Some.ensures.steps in
    let before = c.next.new.self.iter.iter.rest.now in
    let x = c.in-Some.head.now in
    let r : c.loop-place.place-iterator.iter.iter.rest.now ≡ before ++ (x ∷ []) = s.1.0 in (
      x ∷ i.0,
      one_back before i.0 x i.1 r,
      s.0 ∙ i.2,
      (λ k rest. i.3 k rest ∙ ap (λ z. nth (places_from k c.args.symbol z 0 ++ rest) c.loop-place.left) r ∙ place_passed k c.args.symbol before x rest c.loop-place.left c.if-head-symbol.true (omega (arith, c.if-left-eq0.false))),
      omega (arith, i.4, c.if-left-eq0.false),
    )

pub loop-place-preserved : goal.loop-place-preserved
loop-place-preserved c =
    let i = c.loop-place.invariant in
    let s = c.in-Some.ensures.steps in
    let before = c.next.new.self.iter.iter.rest.now in
    let x = c.in-Some.head.now in
    let r : c.loop-place.place-iterator.iter.iter.rest.now ≡ before ++ (x ∷ []) = s.1.0 in (
      x ∷ i.0,
      one_back before i.0 x i.1 r,
      s.0 ∙ i.2,
      (λ k rest. i.3 k rest ∙ ap (λ z. nth (places_from k c.args.symbol z 0 ++ rest) c.loop-place.left) r ∙ place_other k c.args.symbol before x rest c.loop-place.left c.if-head-symbol.false),
      omega (arith, i.4),
    )
