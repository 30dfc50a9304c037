use Rattle.std.proofs.Common.{◌<◌, List, vec_items, sym, refl, ap, subst}
use Rattle.classes.specs.declared.row.ClassRow.{ClassRow}
use Rattle.classes.specs.Rows.{Linkable, standing_at}
use Rattle.classes.proofs.Links.{meets, root_held, linkable, apart}
use Rattle.classes.proofs.Stores.{has_row, at_found, refuted, written_rooted, written_narrowed, narrowed_not, narrowed_iff}
use Rattle.classes.proofs.forest.Forest.join.Goals as goal

pub returns-then-one-other-clause-narrows : goal.returns-then-one-other-clause-narrows
returns-then-one-other-clause-narrows g c =
    let a = c.in_ok-one.ensures in
    let b = c.in_ok-other.ensures in (
      (a.0, b.0),
      narrowed_not g.C.Content.holds c.args.self.now _
          (λ v k. (at_found g.C.Content.holds c.args.self.now c.args.a c.args.b _ _ a b v k).0 (ap v c.if-one-other.true)),
    )

pub returns-in-None-clause-narrows : goal.returns-in-None-clause-narrows
returns-in-None-clause-narrows g c =
    let H = g.C.Content.holds in
    let f = c.args.self.now in
    let rows = vec_items f.rows in
    let a = c.in_ok-one.ensures in
    let b = c.in_ok-other.ensures in (
      (a.0, b.0),
      refuted H f _ _ refl
          (λ v k e. (c.in-None.ensures (v c.args.a) (k.0 c.args.a)).1 (
            root_held rows f.ok H c.args.a c.in_ok-one.one c.index.result.now (has_row f c.args.a a.0) a.1 c.index.ensures v k,
            subst (H c.index-2.result.now.content) (sym e)
                (root_held rows f.ok H c.args.b c.in_ok-other.other c.index-2.result.now (has_row f c.args.b b.0) b.1 c.index-2.ensures v k),
          )) refl,
    )

pub link-requires : goal.link-requires
link-requires g c =
    let H = g.C.Content.holds in
    let f = c.args.self.now in
    let s = c.in_ok-one.ensures.1 in
    let t = c.in_ok-other.ensures.1 in
    let m = meets H g.met.C.Content.proper (H c.index-2.result.now.content) _ c.in-Some.content c.in-Some.ensures in
    subst (λ (l : List (ClassRow g.row.C.Denot)). Linkable H l c.in_ok-one.one c.in_ok-other.other c.in-Some.content) (sym c.deref_mut.ensures.value)
    (linkable H (vec_items f.rows) c.in_ok-one.one c.in_ok-other.other c.index.result.now c.index-2.result.now c.in-Some.content f.ok
    (s.within, s.top) (t.within, t.top) c.index.ensures c.index-2.ensures
    (subst (λ (l : List (ClassRow g.row.C.Denot)). standing_at l c.in_ok-one.one < standing_at l c.in_ok-other.other) c.deref.ensures.value c.if-is_below.ensures) m)

pub invariant_of-self-then-is_below : goal.invariant_of-self-then-is_below
invariant_of-self-then-is_below g c =
    record { ok = written_rooted g.C.Content.holds c.args.self.now _ _ c.link.new.rows c.deref_mut.ensures.value c.link.ensures; roomy = c.args.self.now.roomy }

pub link-requires-in-Some-2 : goal.link-requires-in-Some-2
link-requires-in-Some-2 g c =
    let H = g.C.Content.holds in
    let f = c.args.self.now in
    let s = c.in_ok-one.ensures.1 in
    let t = c.in_ok-other.ensures.1 in
    let m = meets H g.met.C.Content.proper (H c.index-2.result.now.content) _ c.in-Some.content c.in-Some.ensures in
    subst (λ (l : List (ClassRow g.row.C.Denot)). Linkable H l c.in_ok-other.other c.in_ok-one.one c.in-Some.content) (sym c.deref_mut-in-Some-2.ensures.value)
    (linkable H (vec_items f.rows) c.in_ok-other.other c.in_ok-one.one c.index-2.result.now c.index.result.now c.in-Some.content f.ok
    (t.within, t.top) (s.within, s.top) c.index-2.ensures c.index.ensures
    (apart (vec_items f.rows) c.in_ok-one.one c.in_ok-other.other f.ok s.within t.within c.if-one-other.false
    (subst (λ (l : List (ClassRow g.row.C.Denot)). standing_at l c.in_ok-one.one < standing_at l c.in_ok-other.other → ⊥) c.deref.ensures.value c.if-is_below.ensures))
    (λ z. (λ h. let p = (m z).0 h in (p.1, p.0), λ p. (m z).1 (p.1, p.0))))

pub invariant_of-self-in-Some-2 : goal.invariant_of-self-in-Some-2
invariant_of-self-in-Some-2 g c =
    record { ok = written_rooted g.C.Content.holds c.args.self.now _ _ c.link-in-Some-2.new.rows c.deref_mut-in-Some-2.ensures.value c.link-in-Some-2.ensures; roomy = c.args.self.now.roomy }

pub returns-in-Some-clause-narrows : goal.returns-in-Some-clause-narrows
returns-in-Some-clause-narrows g c =
    let a = c.in_ok-one.ensures in
    let b = c.in_ok-other.ensures in (
      (a.0, b.0),
      narrowed_iff g.C.Content.holds c.args.self.now _ _ _ (at_found g.C.Content.holds c.args.self.now c.args.a c.args.b _ _ a b)
          (written_narrowed g.C.Content.holds c.args.self.now _ _ c.link.new.rows c.deref_mut.ensures.value c.link.ensures _ refl refl),
    )

pub returns-in-Some-2-clause-narrows : goal.returns-in-Some-2-clause-narrows
returns-in-Some-2-clause-narrows g c =
    let a = c.in_ok-one.ensures in
    let b = c.in_ok-other.ensures in (
      (a.0, b.0),
      narrowed_iff g.C.Content.holds c.args.self.now _ _ _
          (λ v k. let e = at_found g.C.Content.holds c.args.self.now c.args.a c.args.b _ _ a b v k in (λ s. e.0 (sym s), λ s. sym (e.1 s)))
          (written_narrowed g.C.Content.holds c.args.self.now _ _ c.link-in-Some-2.new.rows c.deref_mut-in-Some-2.ensures.value c.link-in-Some-2.ensures _ refl refl),
    )
