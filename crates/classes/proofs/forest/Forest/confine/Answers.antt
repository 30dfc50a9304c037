use Rattle.std.proofs.Common.{vec_items, sym, refl, subst}
use Rattle.contents.specs.Contents.{HeldIn}
use Rattle.classes.proofs.Links.{root_value, root_held, confined}
use Rattle.classes.proofs.Stores.{has_row, restricted, refuted, narrowed_iff}
use Rattle.classes.proofs.forest.Forest.confine.Goals as goal

pub invariant_of-self : goal.invariant_of-self
invariant_of-self g c =
    let s = c.in_ok-top.ensures.1 in
    record {
      ok = (confined g.C.Content.holds (vec_items c.args.self.now.rows) g.met.C.Content.proper c.args.self.now.ok c.in_ok-top.top
          c.index.result.now c.index_mut.result.now c.in-Some.content (HeldIn g.C.Content.holds c.args.by) (s.within, s.top)
          c.index.ensures c.index_mut.ensures.value c.in-Some.ensures).rooted;
      roomy = c.args.self.now.roomy;
    }

pub returns-in-Some-clause-narrows : goal.returns-in-Some-clause-narrows
returns-in-Some-clause-narrows g c =
    let H = g.C.Content.holds in
    let f = c.args.self.now in
    let made = c.in_ok-top.ensures.0 in
    let in_rows = has_row f c.args.x made in
    let s = c.in_ok-top.ensures.1 in
    let P = HeldIn H c.args.by in (
      made,
      narrowed_iff H f _ _ _
          (λ v k. let e = root_value (vec_items f.rows) f.ok H c.args.x c.in_ok-top.top in_rows s v k.1 in (λ h. subst P (sym e) h, λ h. subst P e h))
          (restricted H f _ _ refl _ _ refl refl refl
          (confined H (vec_items f.rows) g.met.C.Content.proper f.ok c.in_ok-top.top c.index.result.now c.index_mut.result.now c.in-Some.content P (s.within, s.top)
          c.index.ensures c.index_mut.ensures.value c.in-Some.ensures)),
    )

pub returns-in-None-clause-narrows : goal.returns-in-None-clause-narrows
returns-in-None-clause-narrows g c =
    let H = g.C.Content.holds in
    let f = c.args.self.now in
    let made = c.in_ok-top.ensures.0 in
    let in_rows = has_row f c.args.x made in (
      made,
      refuted H f _ _ refl
          (λ v a p. (c.in-None.ensures (v c.args.x) (a.0 c.args.x)).1
          (root_held (vec_items f.rows) f.ok H c.args.x c.in_ok-top.top c.index.result.now in_rows c.in_ok-top.ensures.1 c.index.ensures v a, p)) refl,
    )
