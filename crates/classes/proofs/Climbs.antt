-- Climbing from parent to parent, where each parent is a row itself or one with a greater key.
use Rattle.std.proofs.Common.{◌≡◌, ℕ, zero, suc, ◌+◌, ◌<◌, ◌≤◌, cond, eqb, ◌↔◌, ℤ, sym, refl, ap, ◌∙◌, subst, ⊎_elim, arith}
use Rattle.std.proofs.lemmas.Bool.{cases_eq, eq-eqb, ne_eqb}
use Rattle.classes.specs.Rows.{climb, Fits}
use Rattle.classes.proofs.Places.{by_place, along}

-- a root stays where it is
pub climb_root : (p : ℕ → ℕ) (k r : ℕ) → p r ≡ r → climb p k r ≡ r
climb_root p zero r e = refl
climb_root p (suc k) r e = ap (climb p k) e ∙ climb_root p k r e

pub climb_more : (p : ℕ → ℕ) (k i : ℕ) → climb p (suc k) i ≡ p (climb p k i)
climb_more p zero i = refl
climb_more p (suc k) i = climb_more p k (p i)

module _ (n : ℕ) (p : ℕ → ℕ) (key : ℕ → ℕ) (most : ℕ) (into : (i : ℕ) → i < n → p i < n)
    (rises : (i : ℕ) → i < n → (p i ≡ i → ⊥) → key i < key (p i)) (below : (i : ℕ) → i < n → key i < most) where
  pub climb_within : (k i : ℕ) → i < n → climb p k i < n
  climb_within zero i l = l
  climb_within (suc k) i l = climb_within k (p i) (into i l)

  pub climb_ends : (k i : ℕ) → most ≤ k + key i → i < n → p (climb p k i) ≡ climb p k i
  climb_ends zero i b l = let d = below i l in absurd (omega arith)
  climb_ends (suc k) i b l =
      ⊎_elim
      (λ (e : p i ≡ i). subst (λ (j : ℕ). p j ≡ j) (sym (climb_root p (suc k) i e)) e)
      (λ (ne : p i ≡ i → ⊥).
      let d = rises i l ne in
      let m : most ≤ k + key (p i) = omega arith in climb_ends k (p i) m (into i l))
      (cases_eq (p i) i)

  pub root_is : (i : ℕ) → i < n → p (climb p most i) ≡ climb p most i
  root_is i l = climb_ends most i (omega arith) l

  -- the root of a variable is the root of its parent
  pub root_step : (i : ℕ) → i < n → climb p most (p i) ≡ climb p most i
  root_step i l = climb_more p most i ∙ root_is i l

  pub root_within : (i : ℕ) → i < n → climb p most i < n
  root_within i l = climb_within most i l

  -- a variable has the value of each variable on its way up
  pub climb_same : (h : ℕ → ℤ → Type 0) (v : ℕ → ℤ) → Fits n p h v → (k i : ℕ) → i < n → v i ≡ v (climb p k i)
  climb_same h v f zero i l = refl
  climb_same h v f (suc k) i l = (f i l).0 ∙ climb_same h v f k (p i) (into i l)

  pub root_holds : (h : ℕ → ℤ → Type 0) (v : ℕ → ℤ) → Fits n p h v → (i : ℕ) → i < n → h (climb p most i) (v i)
  root_holds h v f i l =
      subst (λ (z : ℤ). h (climb p most i) z) (sym (climb_same h v f most i l))
      ((f (climb p most i) (root_within i l)).1 (root_is i l))

  -- any choice of a held value for each root is admitted
  pub extends : (h : ℕ → ℤ → Type 0) (w : ℕ → ℤ) → ((i : ℕ) → i < n → p i ≡ i → h i (w i)) →
      Fits n p h (λ i. w (climb p most i))
  extends h w c i l = (
    ap w (sym (root_step i l)),
    λ e. subst (λ (j : ℕ). h i (w j)) (sym (climb_root p most i e)) (c i l e),
  )

-- a choice, but z at r
abbrev pub put : (ℕ → ℤ) → ℕ → ℤ → ℕ → ℤ
put w r z i = cond (eqb i r) z (w i)

pub put_same : (w : ℕ → ℤ) (r : ℕ) (z : ℤ) (i : ℕ) → i ≡ r → put w r z i ≡ z
put_same w r z i e = ap (λ b. cond b z (w i)) (eq-eqb i r e)

pub put_other : (w : ℕ → ℤ) (r : ℕ) (z : ℤ) (i : ℕ) → (i ≡ r → ⊥) → put w r z i ≡ w i
put_other w r z i ne = ap (λ b. cond b z (w i)) (ne_eqb i r ne)

-- two roots become one: hi has lo for its parent, and lo holds what both held
module _ (n : ℕ) (p q : ℕ → ℕ) (h g : ℕ → ℤ → Type 0) (lo hi : ℕ) (apart : lo ≡ hi → ⊥) (in_lo : lo < n) (top : hi < n)
    (lo_root : p lo ≡ lo) (hi_root : p hi ≡ hi) (q_hi : q hi ≡ lo)
    (q_rest : (i : ℕ) → (i ≡ hi → ⊥) → q i ≡ p i)
    (g_lo : (z : ℤ) → g lo z ↔ (h lo z × h hi z))
    (g_rest : (i : ℕ) (z : ℤ) → (i ≡ lo → ⊥) → (i ≡ hi → ⊥) → g i z ≡ h i z) where
  pub joins_to : (v : ℕ → ℤ) → Fits n q g v → Fits n p h v × (v lo ≡ v hi)
  joins_to v f = (fits, same)
    where
      same : v lo ≡ v hi
      same = sym ((f hi top).0 ∙ ap v q_hi)

      lo_q : q lo ≡ lo
      lo_q = q_rest lo apart ∙ lo_root

      both : h lo (v lo) × h hi (v lo)
      both = (g_lo (v lo)).0 ((f lo in_lo).1 lo_q)

      fits : Fits n p h v
      fits =
          by_place (λ i. i < n → (v i ≡ v (p i)) × (p i ≡ i → h i (v i))) hi
          (λ _. (ap v (sym hi_root), λ _. subst (h hi) same both.1))
          (λ i ne. by_place (λ j. (j ≡ hi → ⊥) → j < n → (v j ≡ v (p j)) × (p j ≡ j → h j (v j))) lo
          (λ _ _. (ap v (sym lo_root), λ _. both.0))
          (λ j no_lo no_hi l. (
            (f j l).0 ∙ ap v (q_rest j no_hi),
            λ e. along (g_rest j (v j) no_lo no_hi) ((f j l).1 (q_rest j no_hi ∙ e)),
          ))
          i ne)

  pub joins_from : (v : ℕ → ℤ) → Fits n p h v → v lo ≡ v hi → Fits n q g v
  joins_from v f same =
      by_place (λ i. i < n → (v i ≡ v (q i)) × (q i ≡ i → g i (v i))) hi
      (λ _. (sym same ∙ ap v (sym q_hi), λ (c : q hi ≡ hi). absurd (apart (sym q_hi ∙ c))))
      (λ i ne. by_place (λ j. (j ≡ hi → ⊥) → j < n → (v j ≡ v (q j)) × (q j ≡ j → g j (v j))) lo
      (λ _ _. (
        ap v (sym (q_rest lo apart ∙ lo_root)),
        λ _. (g_lo (v lo)).1 ((f lo in_lo).1 lo_root, subst (h hi) (sym same) ((f hi top).1 hi_root)),
      ))
      (λ j no_lo no_hi l. (
        (f j l).0 ∙ ap v (sym (q_rest j no_hi)),
        λ e. along (sym (g_rest j (v j) no_lo no_hi)) ((f j l).1 (sym (q_rest j no_hi) ∙ e)),
      ))
      i ne)

-- one root holds less
module _ (n : ℕ) (p q : ℕ → ℕ) (h g : ℕ → ℤ → Type 0) (r : ℕ) (P : ℤ → Type 0) (within : r < n) (is_root : p r ≡ r)
    (q_is : (i : ℕ) → q i ≡ p i)
    (g_r : (z : ℤ) → g r z ↔ (h r z × P z))
    (g_rest : (i : ℕ) (z : ℤ) → (i ≡ r → ⊥) → g i z ≡ h i z) where
  pub narrows_to : (v : ℕ → ℤ) → Fits n q g v → Fits n p h v × P (v r)
  narrows_to v f = (fits, here.1)
    where
      here : h r (v r) × P (v r)
      here = (g_r (v r)).0 ((f r within).1 (q_is r ∙ is_root))

      fits : Fits n p h v
      fits =
          by_place (λ i. i < n → (v i ≡ v (p i)) × (p i ≡ i → h i (v i))) r
          (λ l. (ap v (sym is_root), λ _. here.0))
          (λ i ne l. ((f i l).0 ∙ ap v (q_is i), λ e. along (g_rest i (v i) ne) ((f i l).1 (q_is i ∙ e))))

  pub narrows_from : (v : ℕ → ℤ) → Fits n p h v → P (v r) → Fits n q g v
  narrows_from v f c =
      by_place (λ i. i < n → (v i ≡ v (q i)) × (q i ≡ i → g i (v i))) r
      (λ l. (ap v (sym (q_is r ∙ is_root)), λ _. (g_r (v r)).1 ((f r within).1 is_root, c)))
      (λ i ne l. ((f i l).0 ∙ ap v (sym (q_is i)), λ e. along (sym (g_rest i (v i) ne)) ((f i l).1 (sym (q_is i) ∙ e))))
