-- A forest that is narrowed, grown or asked, from what its rows admit.
use Rattle.std.proofs.Common.{◌≡◌, ℕ, ◌+◌, ◌<◌, ◌≤◌, Bool, true, false, eqb, ◌↔◌, List, [], ◌∷◌, ◌++◌, length, ℤ, ◌≤ℤ◌, Some, None, vec_items, vec_len, Option, sym, refl, ap, ◌∙◌, subst, arith, w32, SFits, of_z}
use Rattle.std.proofs.lemmas.Bool.{true≢false}
use Rattle.std.proofs.lemmas.Int.{ints}
use Rattle.std.specs.Vec.{with_items}
use Rattle.std.proofs.lemmas.List.{length_push, with_items_is}
use Rattle.terms.specs.Answers.{Answers}
use Rattle.terms.specs.Values.{IsValue}
use Rattle.classes.specs.declared.row.ClassRow.{ClassRow}
use Rattle.classes.specs.declared.forest.Forest.{Forest}
use Rattle.contents.specs.Contents.{HeldIn}
use Rattle.classes.specs.Rows.{parent_at, rank_at, held_at, standing_at, Rooted, RootSays, Admits, Restricted, Contained}
use Rattle.classes.specs.Forests.{made_in, Allows, Barren, Grown, Narrowed, Throughout, RangeIs, LeastIs, GreatestIs, OneValue}
use Rattle.classes.proofs.Fields.{field_low, field_last}
use Rattle.classes.proofs.Places.{along, by_place}
use Rattle.classes.proofs.Links.{at_roots}
use Rattle.classes.proofs.Reaches.{some_admitted}
use Rattle.contents.proofs.Signs.{answers_bits, answers_iff}

-- a forest whose valuations were restricted
module _ {C : Type 0} (H : C → ℤ → Type 0) (f : Forest C) (P : (ℕ → ℤ) → Type 0) (g : Forest C) (size : made_in g ≡ made_in f) where
  pub restricted : (a b : List (ClassRow C)) → a ≡ vec_items f.rows → vec_items g.rows ≡ b → g.failed ≡ f.failed → Restricted H a P b → Narrowed H f P g
  restricted a b ea eb e r =
      record {
        size = size;
        allows = λ v. (
          λ x. let y = (r.admits v).0 (subst (λ (l : List (ClassRow C)). Admits H l v) eb x.1) in
              ((sym e ∙ x.0, subst (λ (l : List (ClassRow C)). Admits H l v) ea y.0), y.1),
          λ y. (e ∙ y.0.0, subst (λ (l : List (ClassRow C)). Admits H l v) (sym eb) ((r.admits v).1 (subst (λ (l : List (ClassRow C)). Admits H l v) (sym ea) y.0.1, y.1))),
        );
      }

  pub refuted : ((v : ℕ → ℤ) → Admits H (vec_items f.rows) v → P v → ⊥) → g.failed ≡ true → Narrowed H f P g
  refuted never e =
      record { size = size; allows = λ v. (λ x. absurd (true≢false (sym e ∙ x.0)), λ y. absurd (never v y.0.1 y.1)) }

-- a forest over whose rows restricted rows were written
module _ {C : Type 0} (H : C → ℤ → Type 0) (f : Forest C) (P : (ℕ → ℤ) → Type 0) (a b : List (ClassRow C)) (ea : a ≡ vec_items f.rows) (r : Restricted H a P b) where
  written : vec_items (with_items f.rows b) ≡ b
  written = with_items_is f.rows b (r.size ∙ (ap length ea ∙ sym f.rows.ok.0))

  pub written_rooted : Rooted (vec_items (with_items f.rows b))
  written_rooted = subst (λ (l : List (ClassRow C)). Rooted l) (sym written) r.rooted

  pub written_narrowed : (g : Forest C) → g.rows ≡ with_items f.rows b → g.failed ≡ f.failed → Narrowed H f P g
  written_narrowed g eg ef = restricted H f P g (ap vec_len eg) a b ea (ap vec_items eg ∙ written) ef r

-- what holds anyway leaves a forest as it was
pub narrowed_not : {C : Type 0} (H : C → ℤ → Type 0) (f : Forest C) (P : (ℕ → ℤ) → Type 0) → Throughout H f P → Narrowed H f P f
narrowed_not H f P all = record { size = refl; allows = λ v. (λ a. (a, all v a), λ b. b.0) }

-- what says the same of the valuations narrows to the same
pub narrowed_iff : {C : Type 0} (H : C → ℤ → Type 0) (f : Forest C) (P Q : (ℕ → ℤ) → Type 0) (g : Forest C) →
    ((v : ℕ → ℤ) → Allows H f v → P v ↔ Q v) → Narrowed H f P g → Narrowed H f Q g
narrowed_iff H f P Q g e n =
    record {
      size = n.size;
      allows = λ v. (λ a. let b = (n.allows v).0 a in (b.0, (e v b.0).0 b.1), λ b. (n.allows v).1 (b.0, (e v b.0).1 b.1));
    }

-- a forest that has failed allows nothing
module _ {C : Type 0} (H : C → ℤ → Type 0) (f : Forest C) where
  pub barren : f.failed ≡ true → Barren H f
  barren e v a = true≢false (sym e ∙ a.0)

-- one more row, a root that can be anything
module _ {C : Type 0} (H : C → ℤ → Type 0) (rows : List (ClassRow C)) (r : ClassRow C) (own : r.parent ≡ length rows) (flat : r.rank ≡ 0) where
  pushed_low : (i : ℕ) → i < length rows → parent_at (rows ++ r ∷ []) i ≡ parent_at rows i
  pushed_low i l = field_low (λ x. x.parent) rows r i i l

  pushed_last : parent_at (rows ++ r ∷ []) (length rows) ≡ length rows
  pushed_last = field_last (λ x. x.parent) rows r (length rows) ∙ own

  rank_low : (i : ℕ) → i < length rows → rank_at (rows ++ r ∷ []) i ≡ rank_at rows i
  rank_low i l = field_low (λ x. x.rank) rows r i 0 l

  rank_last : rank_at (rows ++ r ∷ []) (length rows) ≡ 0
  rank_last = field_last (λ x. x.rank) rows r 0 ∙ flat

  Fine : ℕ → Type 0
  Fine i = (parent_at (rows ++ r ∷ []) i < length (rows ++ r ∷ [])) × (standing_at (rows ++ r ∷ []) i ≤ standing_at (rows ++ r ∷ []) (parent_at (rows ++ r ∷ []) i)) × (rank_at (rows ++ r ∷ []) i < 256)

  pub pushed_rooted : length rows < 256 → Rooted rows → Rooted (rows ++ r ∷ [])
  unfolding Fine
  pushed_rooted few down =
      let n : length (rows ++ r ∷ []) ≡ length rows + 1 = length_push rows r in (
        omega arith,
        by_place (λ i. i < length (rows ++ r ∷ []) → Fine i) (length rows)
            (λ _. let q = ap (standing_at (rows ++ r ∷ [])) pushed_last in (omega (arith, pushed_last), omega arith, omega (arith, rank_last)))
            (λ i ne l.
            let k : i < length rows = omega arith in
            let d = down.1 i k in
            let q = ap (standing_at (rows ++ r ∷ [])) (pushed_low i k) in
            let m = rank_low i k in
            let p = rank_low (parent_at rows i) d.0 in
            (omega (arith, pushed_low i k), omega arith, omega arith)),
      )

  pub pushed_to : (v : ℕ → ℤ) → Admits H (rows ++ r ∷ []) v → Admits H rows v
  pushed_to v f =
      let n : length (rows ++ r ∷ []) ≡ length rows + 1 = length_push rows r in (
        f.0,
        λ i l. (
          (f.1 i (omega arith)).0 ∙ ap v (pushed_low i l),
          λ e. along (field_low (λ x. H x.content (v i)) rows r i ⊥ l) ((f.1 i (omega arith)).1 (pushed_low i l ∙ e)),
        ),
      )

  pub pushed_from : ((z : ℤ) → IsValue z → H r.content z) → (v : ℕ → ℤ) → Admits H rows v → Admits H (rows ++ r ∷ []) v
  pushed_from all v f =
      let n : length (rows ++ r ∷ []) ≡ length rows + 1 = length_push rows r in (
        f.0,
        by_place (λ i. i < length (rows ++ r ∷ []) → (v i ≡ v (parent_at (rows ++ r ∷ []) i)) × (parent_at (rows ++ r ∷ []) i ≡ i → held_at H (rows ++ r ∷ []) i (v i))) (length rows)
            (λ _. (ap v (sym pushed_last), λ _. along (sym (field_last (λ x. H x.content (v (length rows))) rows r ⊥)) (all (v (length rows)) (f.0 (length rows)))))
            (λ i ne l.
            let k : i < length rows = omega arith in (
              (f.1 i k).0 ∙ ap v (sym (pushed_low i k)),
              λ e. along (sym (field_low (λ x. H x.content (v i)) rows r i ⊥ k)) ((f.1 i k).1 (sym (pushed_low i k) ∙ e)),
            )),
      )

pub grown : {C : Type 0} (H : C → ℤ → Type 0) (f : Forest C) (r : ClassRow C) (x : ℕ) (g : Forest C) → x ≡ vec_len f.rows →
    vec_len f.rows < 256 → length (vec_items f.rows) ≡ vec_len f.rows → r.parent ≡ vec_len f.rows → r.rank ≡ 0 → ((z : ℤ) → IsValue z → H r.content z) →
    vec_items g.rows ≡ vec_items f.rows ++ r ∷ [] → vec_len g.rows ≡ vec_len f.rows + 1 → g.failed ≡ f.failed → Grown H f x g
grown {C} H f r x g ex room len own flat all gi gl gf =
    record {
      next = ex;
      room = room;
      size = gl;
      allows = λ v. (
        λ a. (sym gf ∙ a.0, pushed_to H (vec_items f.rows) r (own ∙ sym len) flat v (subst (λ (l : List (ClassRow C)). Admits H l v) gi a.1)),
        λ b. (gf ∙ b.0, subst (λ (l : List (ClassRow C)). Admits H l v) (sym gi) (pushed_from H (vec_items f.rows) r (own ∙ sym len) flat all v b.1)),
      );
    }

-- a made variable has a row
pub has_row : {C : Type 0} (f : Forest C) (x : ℕ) → x < made_in f → x < length (vec_items f.rows)
has_row f x l = let len = f.rows.ok.0 in omega arith

-- equal at the roots that were found, equal at the variables
pub at_found : {C : Type 0} (H : C → ℤ → Type 0) (f : Forest C) (a b r t : ℕ) → (a < made_in f) × RootSays (vec_items f.rows) a r →
    (b < made_in f) × RootSays (vec_items f.rows) b t → (v : ℕ → ℤ) → Allows H f v → (v r ≡ v t) ↔ (v a ≡ v b)
at_found H f a b r t x y v k =
    at_roots (vec_items f.rows) f.ok H a b r t (has_row f a x.0) (has_row f b y.0) x.1 y.1 v k.1

-- questions to a forest that has not failed
module _ {C : Type 0} (H : C → ℤ → Type 0) (f : Forest C) (ff : f.failed ≡ false) where
  pub range_is : (x : ℕ) (c : C) → x < made_in f → Contained H (vec_items f.rows) x c → RangeIs H f x c
  range_is x c l s =
      record { within = l; held = λ v k. s.held v k.1; reached = λ z h. let y = s.reached z h in (y.0, (ff, y.1), y.2) }

  pub same_says : (x y : ℕ) (r : Bool) → x < made_in f → y < made_in f → Answers r ((v : ℕ → ℤ) → Admits H (vec_items f.rows) v → v x ≡ v y) →
      Answers r ((x < made_in f) × (y < made_in f) × Throughout H f (λ v. v x ≡ v y))
  same_says x y r lx ly s = answers_iff r _ _ (λ all. (lx, ly, λ v k. all v k.1)) (λ all v k. all.2 v (ff, k)) s

-- questions to what a variable can be
module _ {C : Type 0} (H : C → ℤ → Type 0) (f : Forest C) (x : ℕ) (c : C) (s : RangeIs H f x c) where
  pub least_is : (low : C → ℤ) → ((k : C) → H k (low k)) → ((k : C) (z : ℤ) → H k z → low k ≤ℤ z) → (z : ℤ) → low c ≡ z → LeastIs H f x z
  least_is low held under z ez =
      record { within = s.within; reached = s.reached z (subst (H c) ez (held c)); bound = λ v k. subst (λ (n : ℤ). n ≤ℤ v x) ez (under c (v x) (s.held v k)) }

  pub greatest_is : (high : C → ℤ) → ((k : C) → H k (high k)) → ((k : C) (z : ℤ) → H k z → z ≤ℤ high k) → (z : ℤ) → high c ≡ z → GreatestIs H f x z
  greatest_is high held over z ez =
      record { within = s.within; reached = s.reached z (subst (H c) ez (held c)); bound = λ v k. subst (λ (n : ℤ). v x ≤ℤ n) ez (over c (v x) (s.held v k)) }

  pub lies_says : (by : C) (o : Option C) (r : Bool) → o ≡ Some by → Answers r ((z : ℤ) → H c z → H by z) → Answers r ((x < made_in f) × Throughout H f (λ v. HeldIn H o (v x)))
  lies_says by o true eo w = (s.within, λ v k. subst (λ (p : Option C). HeldIn H p (v x)) (sym eo) (w (v x) (s.held v k)))
  lies_says by o false eo w = λ all. w (λ z h.
      let y = s.reached z h in
      subst (λ (n : ℤ). H by n) y.2 (subst (λ (p : Option C). HeldIn H p (y.0 x)) eo (all.1 y.0 y.1)))

-- one value, where the least and the greatest are the same
pub one_value : {C : Type 0} (H : C → ℤ → Type 0) (f : Forest C) (x : ℕ) (y z : ℤ) → SFits w32 y → SFits w32 z →
    LeastIs H f x y → GreatestIs H f x z → Answers (eqb (of_z w32 y) (of_z w32 z)) (OneValue H f x)
one_value H f x y z fy fz s t =
    answers_bits y z _ fy fz
    (λ e. (
      s.within,
      λ v w a b.
          let s1 = s.bound v a in let t1 = t.bound v a in let s2 = s.bound w b in let t2 = t.bound w b in omega (arith, ints),
    ))
    (λ ne all. ne (sym s.reached.2 ∙ (all.1 s.reached.0 t.reached.0 s.reached.1 t.reached.1 ∙ t.reached.2)))

module _ {C : Type 0} (H : C → ℤ → Type 0) (low : C → ℤ) (held : (c : C) → H c (low c)) (proper : (c : C) (z : ℤ) → H c z → IsValue z) (f : Forest C) where
  -- a forest that has not failed allows something
  some_allowed : f.failed ≡ false → (v : ℕ → ℤ) × Allows H f v
  some_allowed e = let w = some_admitted H low held proper (vec_items f.rows) f.ok in (w.0, (e, w.1))

  pub failed_says : (b : Bool) → f.failed ≡ b → Answers b (Barren H f)
  failed_says true e = barren H f e
  failed_says false e = λ none. let w = some_allowed e in none w.0 w.1

  -- nothing lies in no content, unless nothing is left
  pub lies_nowhere : (x : ℕ) (o : Option C) → x < made_in f → o ≡ None → (b : Bool) → f.failed ≡ b → Answers b ((x < made_in f) × Throughout H f (λ v. HeldIn H o (v x)))
  lies_nowhere x o l eo true e = (l, λ v a. absurd (barren H f e v a))
  lies_nowhere x o l eo false e = λ all. let w = some_allowed e in subst (λ (p : Option C). HeldIn H p (w.0 x)) eo (all.1 w.0 w.1)
