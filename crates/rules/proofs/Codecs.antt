-- A parser that reads exactly what is written: nothing else, and all of it.
use Rattle.std.proofs.Common.{◌≡◌, ℕ, zero, suc, Bool, true, false, cond, List, [], ◌∷◌, ◌++◌, length, sym, refl, ap, ◌∙◌, subst, append_assoc}
use Rattle.terms.specs.Lists.{All}
use Rattle.rules.specs.Format.{Bytes, each}
use Rattle.rules.specs.Parse.{Parser, got, after, many}
use Rattle.rules.proofs.Outcomes.{inverted, got_is}

-- p reads exactly what e writes of what is V
pub record Codec {A : Type 0} (p : Parser A) (e : A → List ℕ) (V : A → Type 0) : Type 0 where
  pub reads : (k : ℕ) (s : List ℕ) (a : A) (k' : ℕ) (s' : List ℕ) → Bytes s → p k s ≡ got a k' s' → (s ≡ e a ++ s') × V a × Bytes s'
  pub writes : (a : A) → V a → (k : ℕ) (s : List ℕ) → (k' : ℕ) × (p k (e a ++ s) ≡ got a k' s)

pub joined : (s : List ℕ) (a b s₁ s₂ : List ℕ) → s ≡ a ++ s₁ → s₁ ≡ b ++ s₂ → s ≡ (a ++ b) ++ s₂
joined s a b s₁ s₂ e₁ e₂ = e₁ ∙ ap (λ t. a ++ t) e₂ ∙ sym (append_assoc a b s₂)

-- the same bytes and the same validity under other names
pub renamed : {A : Type 0} {p : Parser A} {e f : A → List ℕ} {V W : A → Type 0} → Codec p e V →
    ((a : A) → V a → f a ≡ e a) → ((a : A) → V a → W a) → ((a : A) → W a → V a) → Codec p f W
renamed {A} {p} {e} {f} {V} {W} c same to from = record { reads = sound; writes = whole }
  where
    sound : (k : ℕ) (s : List ℕ) (a : A) (k' : ℕ) (s' : List ℕ) → Bytes s → p k s ≡ got a k' s' → (s ≡ f a ++ s') × W a × Bytes s'
    sound k s a k' s' bs q = let r = c.reads k s a k' s' bs q in (r.0 ∙ ap (λ x. x ++ s') (sym (same a r.1)), to a r.1, r.2)

    whole : (a : A) → W a → (k : ℕ) (s : List ℕ) → (k' : ℕ) × (p k (f a ++ s) ≡ got a k' s)
    whole a w k s = let r = c.writes a (from a w) k s in (r.0, ap (λ x. p k (x ++ s)) (same a (from a w)) ∙ r.1)

-- the parser that a test chooses
pub chosen : {A : Type 0} (b : Bool) {p q : Parser A} {e : A → List ℕ} {V : A → Type 0} → (b ≡ true → Codec p e V) → (b ≡ false → Codec q e V) → Codec (λ k s. cond b (p k s) (q k s)) e V
chosen true f g = f refl
chosen false f g = g refl

-- one part after another: the first part of c is read by p, and then the whole of c by q, which keeps that part
pub sequence : {A C : Type 0} {p : Parser A} {e : A → List ℕ} {V : A → Type 0} (q : A → Parser C) (f : A → C → List ℕ) (W : A → C → Type 0) (first : C → A) →
    Codec p e V → ((a : A) → V a → Codec (q a) (f a) (W a)) → ((a : A) (c : C) → W a c → first c ≡ a) →
    Codec (λ k s. after (p k s) q) (λ c. e (first c) ++ f (first c) c) (λ c. V (first c) × W (first c) c)
sequence {A} {C} {p} {e} {V} q f W first cp cq keeps = record { reads = sound; writes = whole }
  where
    sound : (k : ℕ) (s : List ℕ) (c : C) (k' : ℕ) (s' : List ℕ) → Bytes s → after (p k s) q ≡ got c k' s' → (s ≡ (e (first c) ++ f (first c) c) ++ s') × (V (first c) × W (first c) c) × Bytes s'
    sound k s c k' s' bs x =
        inverted (p k s) q c k' s' x (λ a k₁ s₁ x₁ x₂.
        let m = cp.reads k s a k₁ s₁ bs x₁ in
        let n = (cq a m.1).reads k₁ s₁ c k' s' m.2 x₂ in
        subst (λ b. (s ≡ (e b ++ f b c) ++ s') × (V b × W b c) × Bytes s') (sym (keeps a c n.1)) (joined s (e a) (f a c) s₁ s' m.0 n.0, (m.1, n.1), n.2))

    whole : (c : C) → V (first c) × W (first c) c → (k : ℕ) (s : List ℕ) → (k' : ℕ) × (after (p k ((e (first c) ++ f (first c) c) ++ s)) q ≡ got c k' s)
    whole c v k s =
        let m = cp.writes (first c) v.0 k (f (first c) c ++ s) in
        let n = (cq (first c) v.0).writes c v.1 m.0 s in
        (n.0, ap (λ t. after (p k t) q) (append_assoc (e (first c)) (f (first c) c) s) ∙ ap (λ o. after o q) m.1 ∙ n.1)

-- what is read, made into something else by g, which h undoes
pub made_of : {A C : Type 0} {p : Parser A} {e : A → List ℕ} {V : A → Type 0} (g : A → C) (h : C → A) (W : C → Type 0) → Codec p e V →
    ((a : A) → V a → W (g a) × (h (g a) ≡ a)) → ((c : C) → W c → V (h c) × (g (h c) ≡ c)) → Codec (λ k s. after (p k s) (λ a. got (g a))) (λ c. e (h c)) W
made_of {A} {C} {p} {e} {V} g h W cp to from = record { reads = sound; writes = whole }
  where
    sound : (k : ℕ) (s : List ℕ) (c : C) (k' : ℕ) (s' : List ℕ) → Bytes s → after (p k s) (λ a. got (g a)) ≡ got c k' s' → (s ≡ e (h c) ++ s') × W c × Bytes s'
    sound k s c k' s' bs x =
        inverted (p k s) _ c k' s' x (λ a k₁ s₁ x₁ x₂.
        let m = cp.reads k s a k₁ s₁ bs x₁ in
        let i = got_is (g a) c _ _ _ _ x₂ in
        let w = to a m.1 in
        rw (i.0, i.1) (m.0 ∙ ap (λ b. e b ++ s₁) (sym w.1), w.0, m.2))

    whole : (c : C) → W c → (k : ℕ) (s : List ℕ) → (k' : ℕ) × (after (p k (e (h c) ++ s)) (λ a. got (g a)) ≡ got c k' s)
    whole c w k s =
        let v = from c w in
        let m = cp.writes (h c) v.0 k s in
        (m.0, ap (λ o. after o (λ a. got (g a))) m.1 ∙ ap (λ b. got b m.0 s) v.1)

-- n parts in a row
module _ {A : Type 0} {p : Parser A} {e : A → List ℕ} {V : A → Type 0} (c : Codec p e V) where
  many_sound : (n : ℕ) (k : ℕ) (s : List ℕ) (xs : List A) (k' : ℕ) (s' : List ℕ) → Bytes s → many n p k s ≡ got xs k' s' →
      (s ≡ each e xs ++ s') × ((length xs ≡ n) × All V xs) × Bytes s'
  many_sound zero k s xs k' s' bs q = let i = got_is [] xs _ _ _ _ q in rw (i.0, i.1) (refl, (refl, tt), bs)
  many_sound (suc n) k s xs k' s' bs q =
      inverted (p k s) _ xs k' s' q (λ a k₁ s₁ q₁ q₂.
      let m = c.reads k s a k₁ s₁ bs q₁ in
      inverted (many n p k₁ s₁) _ xs k' s' q₂ (λ ys k₂ s₂ q₃ q₄.
      let r = many_sound n k₁ s₁ ys k₂ s₂ m.2 q₃ in
      let i = got_is (a ∷ ys) xs _ _ _ _ q₄ in
      rw (i.0, i.1) (joined s (e a) (each e ys) s₁ s₂ m.0 r.0, (ap suc r.1.0, (m.1, r.1.1)), r.2)))

  many_whole : (xs : List A) → All V xs → (k : ℕ) (s : List ℕ) → (k' : ℕ) × (many (length xs) p k (each e xs ++ s) ≡ got xs k' s)
  many_whole [] v k s = (k, refl)
  many_whole (x ∷ xs) v k s =
      let h = c.writes x v.0 k (each e xs ++ s) in
      let t = many_whole xs v.1 h.0 s in
      (t.0, simp (append_assoc, h.1, t.1))

  pub many_codec : (n : ℕ) → Codec (many n p) (each e) (λ xs. (length xs ≡ n) × All V xs)
  many_codec n = record {
    reads = many_sound n;
    writes = λ xs v k s. subst (λ m. (k' : ℕ) × (many m p k (each e xs ++ s) ≡ got xs k' s)) v.0 (many_whole xs v.1 k s);
  }
