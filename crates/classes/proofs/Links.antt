-- Roots of rows, and rows whose roots are linked or narrowed.
use Rattle.std.proofs.Common.{◌≡◌, ℕ, ◌<◌, ◌≤◌, ◌↔◌, List, map, length, get_or, set, ℤ, Some, sym, refl, ap, ◌∙◌, subst, arith, length-set}
use Rattle.terms.specs.Values.{IsValue}
use Rattle.classes.specs.declared.row.ClassRow.{ClassRow}
use Rattle.contents.specs.Contents.{Holding}
use Rattle.classes.specs.Rows.{parent_at, rank_at, held_at, standing_at, Rooted, RootSays, IsRoot, root_of, steps, Fits, Admits, Restricted, Linkable}
use Rattle.classes.proofs.Climbs.{climb_root, root_step, climb_same, root_holds, extends, joins_to, joins_from, narrows_to, narrows_from}
use Rattle.classes.proofs.Places.{by_place, along}
use Rattle.classes.proofs.Fields.{field_read, field_at, field_set_same, field_set_other}

-- what a row says, by place
pub parent_read : {C : Type 0} (rows : List (ClassRow C)) (i : ℕ) (d : ClassRow C) → i < length rows → d ≡ get_or rows i d →
    parent_at rows i ≡ d.parent
parent_read rows i d l e = field_read (λ r. r.parent) rows i d i l e

pub rank_read : {C : Type 0} (rows : List (ClassRow C)) (i : ℕ) (d : ClassRow C) → i < length rows →
    rank_at rows i ≡ (get_or rows i d).rank
rank_read rows i d l = field_at (λ r. r.rank) rows i d 0 l

pub held_read : {C : Type 0} (H : C → ℤ → Type 0) (rows : List (ClassRow C)) (i : ℕ) (d : ClassRow C) (z : ℤ) →
    i < length rows → d ≡ get_or rows i d → held_at H rows i z ≡ H d.content z
held_read H rows i d z l e = field_read (λ r. H r.content z) rows i d ⊥ l e

-- what a meeting holds
pub meets : {C : Type 0} (H : C → ℤ → Type 0) → ((c : C) (z : ℤ) → H c z → IsValue z) → (P : ℤ → Type 0) (a c : C) →
    Holding H (λ z. H a z × P z) (Some c) → (z : ℤ) → H c z ↔ (H a z × P z)
meets H proper P a c m z = (λ h. (m z (proper c z h)).0 h, λ p. (m z (proper a z p.0)).1 p)

-- two roots, one above the other, and the meeting of what they hold
pub linkable : {C : Type 0} (H : C → ℤ → Type 0) (rows : List (ClassRow C)) (r t : ℕ) (d e : ClassRow C) (c : C) → Rooted rows →
    IsRoot rows r → IsRoot rows t → d ≡ get_or rows r d → e ≡ get_or rows t e → standing_at rows r < standing_at rows t →
    ((z : ℤ) → H c z ↔ (H d.content z × H e.content z)) → Linkable H rows r t c
linkable H rows r t d e c down kr kt ed ee under m =
    record {
      rooted = down;
      under = under;
      lower_in = kr.0;
      upper_in = kt.0;
      lower_top = kr.1;
      upper_top = kt.1;
      meets = λ z. (
        λ h. (along (sym (held_read H rows r d z kr.0 ed)) ((m z).0 h).0, along (sym (held_read H rows t e z kt.0 ee)) ((m z).0 h).1),
        λ p. (m z).1 (along (held_read H rows r d z kr.0 ed) p.0, along (held_read H rows t e z kt.0 ee) p.1),
      );
    }

-- two roots that are not one do not stand in one place
pub apart : {C : Type 0} (rows : List (ClassRow C)) (r t : ℕ) → Rooted rows → r < length rows → t < length rows → (r ≡ t → ⊥) →
    (standing_at rows r < standing_at rows t → ⊥) → standing_at rows t < standing_at rows r
apart rows r t down lr lt ne no_less = let n = down.0 in omega arith

module _ {C : Type 0} (rows : List (ClassRow C)) (down : Rooted rows) where
  low_standing : (i : ℕ) → i < length rows → standing_at rows i < steps
  unfolding steps
  low_standing i l = let r = (down.1 i l).2 in let n = down.0 in omega arith

  into : (i : ℕ) → i < length rows → parent_at rows i < length rows
  into i l = (down.1 i l).0

  -- only a root stands where its parent does
  pub rises : (i : ℕ) → i < length rows → (parent_at rows i ≡ i → ⊥) → standing_at rows i < standing_at rows (parent_at rows i)
  rises i l ne = let d = down.1 i l in let n = down.0 in omega arith

  pub up_root : (i p : ℕ) → i < length rows → parent_at rows i ≡ p → root_of rows p ≡ root_of rows i
  up_root i p l e =
      ap (root_of rows) (sym e) ∙ root_step (length rows) (parent_at rows) (standing_at rows) steps into rises low_standing i l

  pub at_root : (r x : ℕ) → r < length rows → parent_at rows r ≡ r → root_of rows r ≡ root_of rows x → RootSays rows x r
  at_root r x l e s = record { is = sym (climb_root (parent_at rows) steps r e) ∙ s; within = l; top = e }

  -- a variable has its root's value, which the root holds
  pub root_value : (H : C → ℤ → Type 0) (x r : ℕ) → x < length rows → RootSays rows x r → (v : ℕ → ℤ) → Admits H rows v → v x ≡ v r
  root_value H x r l s v f =
      climb_same (length rows) (parent_at rows) (standing_at rows) steps into rises low_standing (held_at H rows) v f.1 steps x l ∙ ap v (sym s.is)

  pub root_held : (H : C → ℤ → Type 0) (x r : ℕ) (d : ClassRow C) → x < length rows → RootSays rows x r → d ≡ get_or rows r d →
      (v : ℕ → ℤ) → Admits H rows v → H d.content (v x)
  root_held H x r d l s e v f =
      along (held_read H rows r d (v x) s.within e)
      (subst (λ (j : ℕ). held_at H rows j (v x)) (sym s.is)
      (root_holds (length rows) (parent_at rows) (standing_at rows) steps into rises low_standing (held_at H rows) v f.1 x l))

  -- any choice of a held value for each root is a valuation of the rows
  pub chosen : (H : C → ℤ → Type 0) (w : ℕ → ℤ) → ((i : ℕ) → i < length rows → held_at H rows i (w i)) →
      Fits (length rows) (parent_at rows) (held_at H rows) (λ i. w (root_of rows i))
  chosen H w c =
      extends (length rows) (parent_at rows) (standing_at rows) steps into rises low_standing (held_at H rows) w (λ i l _. c i l)

  -- equal at the roots, equal at the variables
  pub at_roots : (H : C → ℤ → Type 0) (a b r t : ℕ) → a < length rows → b < length rows → RootSays rows a r → RootSays rows b t →
      (v : ℕ → ℤ) → Admits H rows v → (v r ≡ v t) ↔ (v a ≡ v b)
  at_roots H a b r t la lb sa sb v f =
      let x = root_value H a r la sa v f in
      let y = root_value H b t lb sb v f in
      (λ e. x ∙ (e ∙ sym y), λ e. sym x ∙ (e ∙ y))

-- rows whose root `lower` is put below the root `upper`, field by field
module _ {C : Type 0} (H : C → ℤ → Type 0) (rows out : List (ClassRow C)) (lower upper : ℕ) (c : C) (k : Linkable H rows lower upper c)
    (len : length out ≡ length rows)
    (q_lower : parent_at out lower ≡ upper) (q_rest : (i : ℕ) → (i ≡ lower → ⊥) → parent_at out i ≡ parent_at rows i)
    (s_upper : rank_at rows upper ≤ rank_at out upper) (small : rank_at out upper < 256)
    (s_rest : (i : ℕ) → (i ≡ upper → ⊥) → rank_at out i ≡ rank_at rows i)
    (g_upper : (z : ℤ) → held_at H out upper z ≡ H c z)
    (g_rest : (i : ℕ) (z : ℤ) → (i ≡ upper → ⊥) → (i ≡ lower → ⊥) → held_at H out i z ≡ held_at H rows i z) where
  apart_at : upper ≡ lower → ⊥
  apart_at e = let u = k.under in let s = ap (standing_at rows) e in omega arith

  -- no row stands lower than before
  s_more : (i : ℕ) → rank_at rows i ≤ rank_at out i
  s_more = by_place (λ i. rank_at rows i ≤ rank_at out i) upper s_upper (λ i ne. omega (arith, s_rest i ne))

  new_in : (i : ℕ) → i < length rows → parent_at out i < length rows
  new_in =
      by_place (λ i. i < length rows → parent_at out i < length rows) lower
      (λ l. let u = k.upper_in in omega (arith, q_lower))
      (λ i ne l. let o = (k.rooted.1 i l).0 in omega (arith, q_rest i ne))

  new_rises : (i : ℕ) → i < length rows → standing_at out i ≤ standing_at out (parent_at out i)
  new_rises =
      by_place (λ i. i < length rows → standing_at out i ≤ standing_at out (parent_at out i)) lower
      (λ l.
      let q = ap (standing_at out) q_lower in let u = k.under in
      let x = s_rest lower (λ f. apart_at (sym f)) in let y = s_more upper in omega arith)
      (λ i ne l. by_place (λ j. (j ≡ lower → ⊥) → j < length rows → standing_at out j ≤ standing_at out (parent_at out j)) upper
      (λ no_lower m. let q = ap (standing_at out) (q_rest upper no_lower ∙ k.upper_top) in omega arith)
      (λ j no_upper no_lower m.
      let o = (k.rooted.1 j m).1 in
      let q = ap (standing_at out) (q_rest j no_lower) in
      let x = s_rest j no_upper in let y = s_more (parent_at rows j) in omega arith)
      i ne l)

  new_rank : (i : ℕ) → i < length rows → rank_at out i < 256
  new_rank =
      by_place (λ i. i < length rows → rank_at out i < 256) upper (λ _. small)
      (λ i ne l. let o = (k.rooted.1 i l).2 in omega (arith, s_rest i ne))

  both_held : (z : ℤ) → held_at H out upper z ↔ (held_at H rows upper z × held_at H rows lower z)
  both_held z = (
    λ a. let m = (k.meets z).0 (along (g_upper z) a) in (m.1, m.0),
    λ b. along (sym (g_upper z)) ((k.meets z).1 (b.1, b.0)),
  )

  linked_rows : Restricted H rows (λ v. v lower ≡ v upper) out
  linked_rows =
      record {
        rooted = (
          let n = k.rooted.0 in omega (arith, len),
          λ i l. let below : i < length rows = omega (arith, len) in (let d = new_in i below in omega (arith, len), new_rises i below, new_rank i below),
        );
        size = len;
        admits = λ v. (
          λ f. let y = joins_to (length rows) (parent_at rows) (parent_at out) (held_at H rows) (held_at H out) upper lower apart_at k.upper_in k.lower_in
              k.upper_top k.lower_top q_lower q_rest both_held g_rest v (λ i l. f.1 i (omega (arith, len))) in
              ((f.0, y.0), sym y.1),
          λ fs. (
            fs.0.0,
            λ i l. joins_from (length rows) (parent_at rows) (parent_at out) (held_at H rows) (held_at H out) upper lower apart_at k.upper_in k.lower_in
                k.upper_top k.lower_top q_lower q_rest both_held g_rest v fs.0.1 (sym fs.1) i (omega (arith, len)),
          ),
        );
      }

-- rows whose root `r` holds less, field by field
module _ {C : Type 0} (H : C → ℤ → Type 0) (rows out : List (ClassRow C)) (r : ℕ) (c : C) (P : ℤ → Type 0) (old : Rooted rows) (k : IsRoot rows r)
    (meets : (z : ℤ) → H c z ↔ (held_at H rows r z × P z))
    (len : length out ≡ length rows)
    (q_is : (i : ℕ) → parent_at out i ≡ parent_at rows i) (s_is : (i : ℕ) → rank_at out i ≡ rank_at rows i)
    (g_r : (z : ℤ) → held_at H out r z ≡ H c z)
    (g_rest : (i : ℕ) (z : ℤ) → (i ≡ r → ⊥) → held_at H out i z ≡ held_at H rows i z) where
  less_held : (z : ℤ) → held_at H out r z ↔ (held_at H rows r z × P z)
  less_held z = (λ a. (meets z).0 (along (g_r z) a), λ b. along (sym (g_r z)) ((meets z).1 b))

  narrowed_rows : Restricted H rows (λ v. P (v r)) out
  narrowed_rows =
      record {
        rooted = (
          let n = old.0 in omega (arith, len),
          λ i l.
              let b = old.1 i (omega (arith, len)) in
              let q = ap (standing_at out) (q_is i) in
              let x = s_is i in let y = s_is (parent_at rows i) in
              (omega (arith, len, q_is i), omega arith, omega arith),
        );
        size = len;
        admits = λ v. (
          λ f. let y = narrows_to (length rows) (parent_at rows) (parent_at out) (held_at H rows) (held_at H out)
              r P k.0 k.1 q_is less_held g_rest v (λ i l. f.1 i (omega (arith, len))) in ((f.0, y.0), y.1),
          λ fs. (
            fs.0.0,
            λ i l. narrows_from (length rows) (parent_at rows) (parent_at out) (held_at H rows) (held_at H out)
                r P k.0 k.1 q_is less_held g_rest v fs.0.1 fs.1 i (omega (arith, len)),
          ),
        );
      }

-- a field of rows of which two were set, at the last one set and elsewhere
module _ {ℓ} {C : Type 0} {Y : Type ℓ} (f : ClassRow C → Y) (rows : List (ClassRow C)) (lower upper : ℕ) (one two : ClassRow C) (d : Y) where
  same_upper : upper < length rows → get_or (map f (set (set rows lower one) upper two)) upper d ≡ f two
  same_upper l = field_set_same f (set rows lower one) upper two d (simp length-set l)

  other_upper : (i : ℕ) → (i ≡ upper → ⊥) → get_or (map f (set (set rows lower one) upper two)) i d ≡ get_or (map f (set rows lower one)) i d
  other_upper i ne = field_set_other f (set rows lower one) upper i two d ne

module _ {C : Type 0} (H : C → ℤ → Type 0) (rows : List (ClassRow C)) where
  pub linked : (lower upper : ℕ) (c : C) → Linkable H rows lower upper c → (one two : ClassRow C) → one.parent ≡ upper → one.rank ≡ rank_at rows lower →
      two.parent ≡ upper → rank_at rows upper ≤ two.rank → two.rank < 256 → two.content ≡ c →
      Restricted H rows (λ v. v lower ≡ v upper) (set (set rows lower one) upper two)
  linked lower upper c k one two e1 r1 e2 r2 small ec =
      let low : lower ≡ upper → ⊥ = λ e. let u = k.under in let s = ap (standing_at rows) e in omega arith in
      let rank = same_upper (λ r. r.rank) rows lower upper one two 0 k.upper_in in
      linked_rows H rows (set (set rows lower one) upper two) lower upper c k
      (length-set (set rows lower one) upper two ∙ length-set rows lower one)
      (other_upper (λ r. r.parent) rows lower upper one two lower lower low ∙ (field_set_same (λ r. r.parent) rows lower one lower k.lower_in ∙ e1))
      (by_place (λ i. (i ≡ lower → ⊥) → parent_at (set (set rows lower one) upper two) i ≡ parent_at rows i) upper
      (λ _. same_upper (λ r. r.parent) rows lower upper one two upper k.upper_in ∙ (e2 ∙ sym k.upper_top))
      (λ i ne no_lower. other_upper (λ r. r.parent) rows lower upper one two i i ne ∙ field_set_other (λ r. r.parent) rows lower i one i no_lower))
      (omega arith)
      (omega arith)
      (λ i ne. other_upper (λ r. r.rank) rows lower upper one two 0 i ne ∙
      by_place (λ j. rank_at (set rows lower one) j ≡ rank_at rows j) lower (field_set_same (λ r. r.rank) rows lower one 0 k.lower_in ∙ r1)
      (λ j no_lower. field_set_other (λ r. r.rank) rows lower j one 0 no_lower) i)
      (λ z. same_upper (λ r. H r.content z) rows lower upper one two ⊥ k.upper_in ∙ ap (λ y. H y z) ec)
      (λ i z ne no_lower. other_upper (λ r. H r.content z) rows lower upper one two ⊥ i ne ∙ field_set_other (λ r. H r.content z) rows lower i one ⊥ no_lower)

  narrowed : Rooted rows → (r : ℕ) (c : C) (P : ℤ → Type 0) → IsRoot rows r → ((z : ℤ) → H c z ↔ (held_at H rows r z × P z)) →
      (one : ClassRow C) → one.parent ≡ r → one.rank ≡ rank_at rows r → one.content ≡ c → Restricted H rows (λ v. P (v r)) (set rows r one)
  narrowed old r c P k meets one e1 r1 ec =
      narrowed_rows H rows (set rows r one) r c P old k meets (length-set rows r one)
      (by_place (λ i. parent_at (set rows r one) i ≡ parent_at rows i) r
      (field_set_same (λ x. x.parent) rows r one r k.0 ∙ (e1 ∙ sym k.1)) (λ i ne. field_set_other (λ x. x.parent) rows r i one i ne))
      (by_place (λ i. rank_at (set rows r one) i ≡ rank_at rows i) r
      (field_set_same (λ x. x.rank) rows r one 0 k.0 ∙ r1) (λ i ne. field_set_other (λ x. x.rank) rows r i one 0 ne))
      (λ z. field_set_same (λ x. H x.content z) rows r one ⊥ k.0 ∙ ap (λ y. H y z) ec)
      (λ i z ne. field_set_other (λ x. H x.content z) rows r i one ⊥ ne)

  -- a root that holds what it did and has P holds the values of its class that have P
  pub confined : ((c : C) (z : ℤ) → H c z → IsValue z) → Rooted rows → (r : ℕ) (d m : ClassRow C) (c : C) (P : ℤ → Type 0) → IsRoot rows r →
      d ≡ get_or rows r d → m ≡ get_or rows r m → Holding H (λ z. H d.content z × P z) (Some c) →
      Restricted H rows (λ v. P (v r)) (set rows r (record { parent = m.parent; rank = m.rank; content = c }))
  confined proper down r d m c P k ed em meet =
      narrowed down r c P k
      (λ z. let both = meets H proper P d.content c meet z in (
        λ h. let p = both.0 h in (along (sym (held_read H rows r d z k.0 ed)) p.0, p.1),
        λ p. both.1 (along (held_read H rows r d z k.0 ed) p.0, p.1),
      ))
      _ (sym (parent_read rows r m k.0 em) ∙ k.1) (sym (field_read (λ x. x.rank) rows r m 0 k.0 em)) refl
