-- Valuations of rows: any held value for each root makes one.
use Rattle.std.proofs.Common.{◌≡◌, ℕ, zero, suc, ◌<◌, List, [], ◌∷◌, map, length, get_or, Bool, true, false, ℤ, pos, sym, refl, ◌∙◌, subst, arith}
use Rattle.std.proofs.lemmas.Int.{ints}
use Rattle.terms.specs.Answers.{Answers}
use Rattle.terms.specs.Values.{IsValue}
use Rattle.classes.specs.declared.row.ClassRow.{ClassRow}
use Rattle.classes.specs.Rows.{held_at, Rooted, RootSays, root_of, Valued, Admits, Contained}
use Rattle.classes.proofs.Climbs.{put, put_same, put_other}
use Rattle.classes.proofs.Places.{along, by_place}
use Rattle.classes.proofs.Links.{held_read, root_held, chosen}

module _ {C : Type 0} (H : C → ℤ → Type 0) (low : C → ℤ) (held : (c : C) → H c (low c)) (proper : (c : C) (z : ℤ) → H c z → IsValue z) where
  -- the least value that each row holds
  abbrev pub lows : List (ClassRow C) → ℕ → ℤ
  lows rows i = get_or (map (λ r. low r.content) rows) i (pos 0)

  lows_held : (rows : List (ClassRow C)) (i : ℕ) → i < length rows → held_at H rows i (lows rows i)
  lows_held [] i l = absurd (omega arith)
  lows_held (y ∷ ys) zero l = held y.content
  lows_held (y ∷ ys) (suc i) l = lows_held ys i (omega arith)

  lows_valued : (rows : List (ClassRow C)) → Valued (lows rows)
  lows_valued [] i = (omega (arith, ints), omega (arith, ints))
  lows_valued (y ∷ ys) zero = proper y.content _ (held y.content)
  lows_valued (y ∷ ys) (suc i) = lows_valued ys i

  put_held : (rows : List (ClassRow C)) (w : ℕ → ℤ) (r : ℕ) (z : ℤ) → held_at H rows r z →
      ((i : ℕ) → i < length rows → held_at H rows i (w i)) → (i : ℕ) → i < length rows → held_at H rows i (put w r z i)
  put_held rows w r z hz c =
      by_place (λ i. i < length rows → held_at H rows i (put w r z i)) r
      (λ _. subst (held_at H rows r) (sym (put_same w r z r refl)) hz)
      (λ i ne l. subst (held_at H rows i) (sym (put_other w r z i ne)) (c i l))

  put_valued : (w : ℕ → ℤ) (r : ℕ) (z : ℤ) → IsValue z → Valued w → Valued (put w r z)
  put_valued w r z p c =
      by_place (λ i. IsValue (put w r z i)) r (subst IsValue (sym (put_same w r z r refl)) p)
      (λ i ne. subst IsValue (sym (put_other w r z i ne)) (c i))

  module _ (rows : List (ClassRow C)) (down : Rooted rows) where
    choose : (w : ℕ → ℤ) → Valued w → ((i : ℕ) → i < length rows → held_at H rows i (w i)) → Admits H rows (λ i. w (root_of rows i))
    choose w p c = (λ x. p (root_of rows x), chosen rows down H w c)

    -- some valuation is admitted
    pub some_admitted : (v : ℕ → ℤ) × Admits H rows v
    some_admitted = (λ i. lows rows (root_of rows i), choose (lows rows) (lows_valued rows) (lows_held rows))

    -- each value that its root holds is a variable's in some valuation
    reaches : (x r : ℕ) (z : ℤ) → RootSays rows x r → IsValue z → held_at H rows r z → (v : ℕ → ℤ) × Admits H rows v × (v x ≡ z)
    reaches x r z s p hz = (
      λ i. put (lows rows) r z (root_of rows i),
      choose (put (lows rows) r z) (put_valued (lows rows) r z p (lows_valued rows)) (put_held rows (lows rows) r z hz (lows_held rows)),
      put_same (lows rows) r z (root_of rows x) (sym s.is),
    )

    -- and so for two variables of two classes at once
    reaches_two : (a b r t : ℕ) (y z : ℤ) → RootSays rows a r → RootSays rows b t → (r ≡ t → ⊥) → IsValue y → IsValue z →
        held_at H rows r y → held_at H rows t z → (v : ℕ → ℤ) × Admits H rows v × (v a ≡ y) × (v b ≡ z)
    reaches_two a b r t y z sa sb ne py pz hy hz = (
      λ i. put (put (lows rows) r y) t z (root_of rows i),
      choose (put (put (lows rows) r y) t z) (put_valued (put (lows rows) r y) t z pz (put_valued (lows rows) r y py (lows_valued rows)))
          (put_held rows (put (lows rows) r y) t z hz (put_held rows (lows rows) r y hy (lows_held rows))),
      put_other (put (lows rows) r y) t z (root_of rows a) (λ q. ne (sa.is ∙ q)) ∙ put_same (lows rows) r y (root_of rows a) (sym sa.is),
      put_same (put (lows rows) r y) t z (root_of rows b) (sym sb.is),
    )

    -- what a variable's root holds is what it can be
    pub contained : (x r : ℕ) (d : ClassRow C) → x < length rows → RootSays rows x r → d ≡ get_or rows r d → Contained H rows x d.content
    contained x r d l s e =
        record {
          held = root_held rows down H x r d l s e;
          reached = λ z h. reaches x r z s (proper d.content z h) (along (sym (held_read H rows r d z s.within e)) h);
        }

    -- variables of two classes are always the same exactly where the classes hold one value, and the same
    pub alike : (a b r t : ℕ) (d e : ClassRow C) (k : Bool) → a < length rows → b < length rows → RootSays rows a r → RootSays rows b t → (r ≡ t → ⊥) →
        d ≡ get_or rows r d → e ≡ get_or rows t e → Answers k ((y z : ℤ) → H d.content y → H e.content z → y ≡ z) →
        Answers k ((v : ℕ → ℤ) → Admits H rows v → v a ≡ v b)
    alike a b r t d e true la lb sa sb ne ed ee one = λ v f.
        one (v a) (v b) (root_held rows down H a r d la sa ed v f) (root_held rows down H b t e lb sb ee v f)
    alike a b r t d e false la lb sa sb ne ed ee no_one = λ all.
        no_one (λ y z hy hz.
        let w = reaches_two a b r t y z sa sb ne (proper d.content y hy) (proper e.content z hz)
        (along (sym (held_read H rows r d y sa.within ed)) hy) (along (sym (held_read H rows t e z sb.within ee)) hz) in
        sym w.2 ∙ (all w.0 w.1 ∙ w.3))
