-- Bytes that are written one after another into a buffer.
use Rattle.std.proofs.Common.{◌≡◌, ℕ, suc, ◌+◌, ◌<◌, ◌≤◌, List, [], ◌∷◌, ◌++◌, length, get_or, take, drop, set, Ok, Err, Result, sym, refl, ap, ◌∙◌, subst, append_assoc, append-nil, add-zero, add-one, arith, length-append, length-set, take-append-drop, take-suc, take-suc-set, drop-set-lt}
use Rattle.rules.specs.Format.{each}
use Rattle.rulefile.specs.Written.{written, Wrote, RanOut, Writes}
use Rattle.rulefile.specs.declared.writer.Writer.{Writer}

length_written : (d : List ℕ) (k : ℕ) (x : List ℕ) → length (written d k x) ≡ length d
length_written d k [] = refl
length_written d k (b ∷ x) = length_written (set d k b) (k + 1) x ∙ length-set d k b

written_append : (d : List ℕ) (k : ℕ) (x y : List ℕ) → written d k (x ++ y) ≡ written (written d k x) (k + length x) y
written_append d k [] y = ap (λ n. written d n y) (sym (add-zero k))
written_append d k (b ∷ x) y =
    let e : k + 1 + length x ≡ k + suc (length x) = omega arith in
    written_append (set d k b) (k + 1) x y ∙ ap (λ n. written (written (set d k b) (k + 1) x) n y) e

pub wrote_then : {x y : List ℕ} {w w₁ w₂ : Writer} → Wrote x w w₁ → Wrote y w₁ w₂ → Wrote (x ++ y) w w₂
wrote_then {x} {y} {w} {w₁} p q = record {
  same = q.same ∙ p.same;
  after = q.after ∙ ap (λ b. written b w₁.pos y) p.after ∙ ap (λ n. written (written w.dst.now w.pos x) n y) p.place ∙ sym (written_append w.dst.now w.pos x y);
  place = omega (arith, length-append x y, p.place, q.place);
}

-- too little room for the first bytes, and for the bytes after the first
pub short_first : {x : List ℕ} {w v : Writer} (y : List ℕ) → RanOut x w v → RanOut (x ++ y) w v
short_first {x} y h = record { same = h.same; short = omega (arith, length-append x y, h.short) }

pub short_then : {x y : List ℕ} {w w₁ v : Writer} → Wrote x w w₁ → RanOut y w₁ v → RanOut (x ++ y) w v
short_then {x} {y} {w} p h = record { same = h.same ∙ p.same; short = omega (arith, length-append x y, p.place, h.short, ap length p.after, length_written w.dst.now w.pos x) }

-- bytes that were written, and then what a call answers of more
pub writes_then : {A E : Type 0} {x : List ℕ} {w w₁ : Writer} (y : List ℕ) (r : Result A E) (v : Writer) → Wrote x w w₁ → Writes y w₁ r v → Writes (x ++ y) w r v
writes_then y (Ok _) v p q = wrote_then p q
writes_then y (Err _) v p q = short_then p q

module _ {A : Type 0} (f : A → List ℕ) where
  each_append : (xs ys : List A) → each f (xs ++ ys) ≡ each f xs ++ each f ys
  each_append [] ys = refl
  each_append (x ∷ xs) ys = ap (λ t. f x ++ t) (each_append xs ys) ∙ sym (append_assoc (f x) (each f xs) (each f ys))

  each_more : (xs : List A) (i : ℕ) (a : A) → i < length xs → each f (take (i + 1) xs) ≡ each f (take i xs) ++ f (get_or xs i a)
  each_more xs i a h = ap (each f) (ap (λ n. take n xs) (add-one i) ∙ take-suc xs i a h) ∙ each_append (take i xs) (get_or xs i a ∷ []) ∙ ap (λ t. each f (take i xs) ++ t) (append-nil (f (get_or xs i a)))

  pub wrote_more : (xs : List A) (i : ℕ) (a : A) (w w₁ w₂ : Writer) → i < length xs → Wrote (each f (take i xs)) w w₁ → Wrote (f (get_or xs i a)) w₁ w₂ → Wrote (each f (take (i + 1) xs)) w w₂
  wrote_more xs i a w w₁ w₂ h p q = subst (λ x. Wrote x w w₂) (sym (each_more xs i a h)) (wrote_then p q)

  pub short_more : (xs : List A) (i : ℕ) (a : A) (w w₁ v : Writer) → i < length xs → Wrote (each f (take i xs)) w w₁ → RanOut (f (get_or xs i a)) w₁ v → RanOut (each f xs) w v
  short_more xs i a w w₁ v h p q =
      let whole : each f xs ≡ each f (take (i + 1) xs) ++ each f (drop (i + 1) xs) = ap (each f) (sym (take-append-drop (i + 1) xs)) ∙ each_append (take (i + 1) xs) (drop (i + 1) xs) in
      rw whole (short_first (each f (drop (i + 1) xs)) (subst (λ x. RanOut x w v) (sym (each_more xs i a h)) (short_then p q)))

placed : (d : List ℕ) (k : ℕ) (x : List ℕ) → k + length x ≤ length d → written d k x ≡ take k d ++ (x ++ drop (k + length x) d)
placed d k [] h = sym (ap (λ n. take k d ++ drop n d) (add-zero k) ∙ take-append-drop k d)
placed d k (b ∷ x) h =
    let lt : k < length d = omega arith in
    let fits : k + 1 + length x ≤ length (set d k b) = rw (length-set d k b) (omega arith) in
    let front : take (k + 1) (set d k b) ≡ take k d ++ b ∷ [] = ap (λ n. take n (set d k b)) (add-one k) ∙ take-suc-set d k b lt in
    let back : drop (k + 1 + length x) (set d k b) ≡ drop (k + suc (length x)) d = drop-set-lt (k + 1 + length x) d k b (omega arith) ∙ ap (λ n. drop n d) (omega arith) in
    placed (set d k b) (k + 1) x fits ∙ ap (λ t. t ++ (x ++ drop (k + 1 + length x) (set d k b))) front ∙ ap (λ t. (take k d ++ b ∷ []) ++ (x ++ t)) back ∙ append_assoc (take k d) (b ∷ []) (x ++ drop (k + suc (length x)) d)

-- bytes that were written from the start
pub wrote_first : (x : List ℕ) (w v : Writer) → w.pos ≡ 0 → Wrote x w v → (v.pos ≡ length x) × (v.dst.now ≡ x ++ drop (length x) w.dst.now)
wrote_first x w v z p =
    let e : v.pos ≡ length x = omega (arith, p.place, z) in
    let l : 0 + length x ≤ length w.dst.now = omega (arith, e, v.within, ap length p.after, length_written w.dst.now w.pos x) in
    let s : 0 + length x ≡ length x = omega arith in
    (e, p.after ∙ ap (λ k. written w.dst.now k x) z ∙ placed w.dst.now 0 x l ∙ ap (λ n. x ++ drop n w.dst.now) s)
