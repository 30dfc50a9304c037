-- A symbol's occurrences are the heads that have it. Assumes nothing.
use Rattle.std.proofs.Common.{◌≡◌, ℕ, zero, suc, ◌+◌, ◌-◌, ◌<◌, ◌≤◌, Bool, true, false, cond, eqb, ◌⊎◌, List, [], ◌∷◌, length, get_or, sym, refl, ap, ◌∙◌, subst, inl, inr, not-suc-le-zero, arith}
use Rattle.std.proofs.lemmas.Bool.{eq-eqb}
use Rattle.machine.specs.Lists.{◌∈◌}
use Rattle.rules.specs.Books.{Rule, Book, heads}
use Rattle.machine.specs.Matching.{no_rule, rule_at}
use Rattle.machine.specs.Occurrences.{places_from, occurrences_from, occurrences}
use Rattle.machine.proofs.Members.{mem_cases, mem_none, here_at, mem_left, mem_right, mem_append, mem_place, get_or_mem}

abbrev pub place : ℕ → ℕ → ℕ × ℕ
place k h = (k, h)

pub places_have : (k s : ℕ) (xs : List ℕ) (h n : ℕ) → n < length xs → get_or xs n 0 ≡ s → (k, h + n) ∈ places_from k s xs h
places_have k s [] h n l e = absurd (not-suc-le-zero l)
places_have k s (x ∷ xs) h zero l e = mem_right (places_from k s xs (suc h)) (subst (λ b. place k (h + 0) ∈ cond b ((k, h) ∷ []) []) (sym (eq-eqb x s e)) (here_at {A = ℕ × ℕ} [] (ap (λ (z : ℕ). place k z) (omega arith))))
places_have k s (x ∷ xs) h (suc n) l e = mem_left (cond (eqb x s) ((k, h) ∷ []) []) (subst (λ (z : ℕ). place k z ∈ places_from k s xs (suc h)) (omega arith) (places_have k s xs (suc h) n (omega arith) e))

pub places_only : (k s : ℕ) (xs : List ℕ) (h : ℕ) (q : ℕ × ℕ) → q ∈ places_from k s xs h → (q.0 ≡ k) × (h ≤ q.1) × (q.1 < h + length xs)
places_only k s [] h q m = absurd (mem_none m)
places_only k s (x ∷ xs) h q m = go (λ n. places_only k s xs (suc h) q n) (mem_append (places_from k s xs (suc h)) m)
  where
    last : (b : Bool) → q ∈ cond b ((k, h) ∷ []) [] → (q.0 ≡ k) × (h ≤ q.1) × (q.1 < h + suc (length xs))
    last true n = one (mem_cases n)
      where
        one : (q ≡ (k, h)) ⊎ (q ∈ []) → (q.0 ≡ k) × (h ≤ q.1) × (q.1 < h + suc (length xs))
        one (inl e) = let z : q.1 ≡ h = ap (λ (p : ℕ × ℕ). p.1) e in (ap (λ (p : ℕ × ℕ). p.0) e, omega arith, omega arith)
        one (inr n) = absurd (mem_none n)
    last false n = absurd (mem_none n)

    go : (q ∈ places_from k s xs (suc h) → (q.0 ≡ k) × (suc h ≤ q.1) × (q.1 < suc h + length xs)) → (q ∈ places_from k s xs (suc h)) ⊎ (q ∈ cond (eqb x s) ((k, h) ∷ []) []) → (q.0 ≡ k) × (h ≤ q.1) × (q.1 < h + suc (length xs))
    go ih (inl n) = let r = ih n in (r.0, omega arith, omega arith)
    go ih (inr n) = last (eqb x s) n

pub occurrences_have : (s k0 : ℕ) (rs : List Rule) (n h : ℕ) → n < length rs → h < length (heads (get_or rs n no_rule)) → get_or (heads (get_or rs n no_rule)) h 0 ≡ s → (k0 + n, h) ∈ occurrences_from s k0 rs
occurrences_have s k0 [] n h l a e = absurd (not-suc-le-zero l)
occurrences_have s k0 (r ∷ rs) zero h l a e = mem_left (occurrences_from s (suc k0) rs) (subst (λ (z : ℕ × ℕ). z ∈ places_from k0 s (heads r) 0) (let p : k0 ≡ k0 + 0 = omega arith in let q : 0 + h ≡ h = omega arith in λ i. place (p i) (q i)) (places_have k0 s (heads r) 0 h a e))
occurrences_have s k0 (r ∷ rs) (suc n) h l a e = mem_right (places_from k0 s (heads r) 0) (subst (λ (z : ℕ). place z h ∈ occurrences_from s (suc k0) rs) (omega arith) (occurrences_have s (suc k0) rs n h (omega arith) a e))

pub occurrences_only : (s k0 : ℕ) (rs : List Rule) (q : ℕ × ℕ) → q ∈ occurrences_from s k0 rs → (n : ℕ) × (q.0 ≡ k0 + n) × (n < length rs) × (q.1 < length (heads (get_or rs n no_rule)))
occurrences_only s k0 [] q m = absurd (mem_none m)
occurrences_only s k0 (r ∷ rs) q m = go (λ n. occurrences_only s (suc k0) rs q n) (mem_append (places_from k0 s (heads r) 0) m)
  where
    go : (q ∈ occurrences_from s (suc k0) rs → (n : ℕ) × (q.0 ≡ suc k0 + n) × (n < length rs) × (q.1 < length (heads (get_or rs n no_rule)))) → (q ∈ places_from k0 s (heads r) 0) ⊎ (q ∈ occurrences_from s (suc k0) rs) → (n : ℕ) × (q.0 ≡ k0 + n) × (n < length (r ∷ rs)) × (q.1 < length (heads (get_or (r ∷ rs) n no_rule)))
    go ih (inl a) = let p = places_only k0 s (heads r) 0 q a in (0, omega (arith, p.0), omega arith, omega (arith, p.2))
    go ih (inr b) = let p = ih b in (suc p.0, omega (arith, p.1), omega (arith, p.2), p.3)

module _ (book : Book) where
  -- each head of each rule is an occurrence of its symbol
  pub occurs_somewhere : (k h : ℕ) → 1 ≤ k → k ≤ length book.rules → h < length (heads (rule_at book k)) → (j : ℕ) × (1 ≤ j) × (j ≤ length (occurrences book (get_or (heads (rule_at book k)) h 0))) × (get_or (occurrences book (get_or (heads (rule_at book k)) h 0)) (j - 1) (0, 0) ≡ (k, h))
  occurs_somewhere k h a b c = let m : (1 + (k - 1), h) ∈ occurrences book (get_or (heads (rule_at book k)) h 0) = occurrences_have (get_or (heads (rule_at book k)) h 0) 1 book.rules (k - 1) h (omega arith) c refl in let p = mem_place (0, 0) m in let e : 1 + (k - 1) ≡ k = omega arith in (suc p.0, omega arith, omega (arith, p.1), subst (λ (z : ℕ). get_or (occurrences book (get_or (heads (rule_at book k)) h 0)) z (0, 0) ≡ (k, h)) (omega arith) (p.2 ∙ ap (λ (z : ℕ). place z h) e))

  pub occurs_bounds : (s j k h : ℕ) → 1 ≤ j → j ≤ length (occurrences book s) → get_or (occurrences book s) (j - 1) (0, 0) ≡ (k, h) → (1 ≤ k) × (k ≤ length book.rules) × (h < length (heads (rule_at book k)))
  occurs_bounds s j k h a b e = let p = occurrences_only s 1 book.rules (get_or (occurrences book s) (j - 1) (0, 0)) (get_or_mem (occurrences book s) (j - 1) (0, 0) (omega arith)) in let k_is : k ≡ 1 + p.0 = sym (ap (λ (q : ℕ × ℕ). q.0) e) ∙ p.1 in let h_is : (get_or (occurrences book s) (j - 1) (0, 0)).1 ≡ h = ap (λ (q : ℕ × ℕ). q.1) e in let n_is : p.0 ≡ k - 1 = omega arith in (omega arith, omega (arith, p.2), subst (λ (n : ℕ). h < length (heads (get_or book.rules n no_rule))) n_is (omega (arith, p.3)))
