-- Numbers and values are read exactly as they are written.
use Rattle.std.proofs.Common.{◌≡◌, ℕ, ◌+◌, ◌-◌, ◌*◌, ◌/◌, ◌%◌, ◌<◌, ◌≤◌, true, false, eqb, ltb, List, [], ◌∷◌, ◌++◌, length, refl, ◌∙◌, ⊎_elim, arith}
use Rattle.std.proofs.lemmas.Bool.{cond-true, cond-false, ne_eqb, lt-ltb, le-ltb, ltb-true, ltb-false, eqb-false, cases_lt}
use Rattle.terms.specs.Lists.{All}
use Rattle.terms.specs.Values.{IsValue}
use Rattle.rules.specs.Codes.{value_of, code_of}
use Rattle.rules.specs.Format.{Bytes, number_bytes, value_bytes, each, counted}
use Rattle.rules.specs.Parse.{Parser, got, third_byte, second_byte, number, ranged, index, value, many, list}
use Rattle.rules.proofs.Signs.{code_value, value_code, code_in_range, value_in_range}
use Rattle.rules.proofs.Outcomes.{got_is, branch, inverted}
use Rattle.rules.proofs.Codecs.{Codec, renamed, sequence, made_of, many_codec}

one_byte : (n : ℕ) → n < 128 → number_bytes n ≡ n ∷ []
one_byte n h = cond-true _ _ _ (lt-ltb n 128 h)

two_bytes : (n : ℕ) → 128 ≤ n → n < 16_384 → number_bytes n ≡ (n % 128 + 128) ∷ (n / 128) ∷ []
two_bytes n g h = cond-false _ _ _ (le-ltb n 128 g) ∙ cond-true _ _ _ (lt-ltb n 16_384 h)

three_bytes : (n : ℕ) → 16_384 ≤ n → number_bytes n ≡ (n % 128 + 128) ∷ (n / 128 % 128 + 128) ∷ (n / 16_384) ∷ []
three_bytes n g = let l : 128 ≤ n = omega arith in cond-false _ _ _ (le-ltb n 128 l) ∙ cond-false _ _ _ (le-ltb n 16_384 g)

abbrev Sound : ℕ → List ℕ → List ℕ → Type 0
Sound n s s' = (s ≡ number_bytes n ++ s') × (n < 2_097_152) × Bytes s'

low_part : (x c : ℕ) → x < 128 → (x + 128 * c) % 128 ≡ x
low_part x c h = omega arith

third_sound : (k a b k₂ : ℕ) (s : List ℕ) (n k' : ℕ) (s' : List ℕ) → Bytes (a ∷ b ∷ s) → 128 ≤ a → 128 ≤ b → third_byte k a b k₂ s ≡ got n k' s' → Sound n (a ∷ b ∷ s) s'
third_sound k a b k₂ [] n k' s' bs la lb e = cc
third_sound k a b k₂ (c ∷ s) n k' s' bs la lb e = branch (eqb c 0) e (λ _ x. cc) (λ z x. branch (ltb c 128) x (good z) (λ _ y. cc))
  where
    v : ℕ
    v = a - 128 + 128 * (b - 128) + 16_384 * c

    good : eqb c 0 ≡ false → ltb c 128 ≡ true → got v (k₂ + 1) s ≡ got n k' s' → Sound n (a ∷ b ∷ c ∷ s) s'
    good z t q =
        let l = ltb-true c 128 t in
        let nz = eqb-false c 0 z in
        let p = got_is v n _ _ _ _ q in
        let fa = bs.0 in
        let fb = bs.1.0 in
        let big : 16_384 ≤ v = omega arith in
        let small : v < 2_097_152 = omega arith in
        let e₁ : v % 128 + 128 ≡ a = omega arith in
        let d : v / 128 ≡ (b - 128) + 128 * c = omega arith in
        let lt : b - 128 < 128 = omega arith in
        let e₂ : v / 128 % 128 + 128 ≡ b = rw (d, low_part (b - 128) c lt) (omega arith) in
        let e₃ : v / 16_384 ≡ c = omega arith in
        rw (p.0, p.1) (rw (three_bytes v big, e₁, e₂, e₃) refl, small, bs.1.1.1)

second_sound : (k a k₁ : ℕ) (s : List ℕ) (n k' : ℕ) (s' : List ℕ) → Bytes (a ∷ s) → 128 ≤ a → second_byte k a k₁ s ≡ got n k' s' → Sound n (a ∷ s) s'
second_sound k a k₁ [] n k' s' bs la e = cc
second_sound k a k₁ (b ∷ s) n k' s' bs la e = branch (eqb b 0) e (λ _ x. cc) (λ z x. branch (ltb b 128) x (good z) (λ u y. third_sound k a b (k₁ + 1) s n k' s' bs la (ltb-false b 128 u) y))
  where
    v : ℕ
    v = a - 128 + 128 * b

    good : eqb b 0 ≡ false → ltb b 128 ≡ true → got v (k₁ + 1) s ≡ got n k' s' → Sound n (a ∷ b ∷ s) s'
    good z t q =
        let l = ltb-true b 128 t in
        let nz = eqb-false b 0 z in
        let p = got_is v n _ _ _ _ q in
        let fa = bs.0 in
        let big : 128 ≤ v = omega arith in
        let small : v < 16_384 = omega arith in
        let e₁ : v % 128 + 128 ≡ a = omega arith in
        let e₂ : v / 128 ≡ b = omega arith in
        rw (p.0, p.1) (rw (two_bytes v big small, e₁, e₂) refl, omega arith, bs.1.1)

number_sound : (k : ℕ) (s : List ℕ) (n k' : ℕ) (s' : List ℕ) → Bytes s → number k s ≡ got n k' s' → Sound n s s'
number_sound k [] n k' s' bs e = cc
number_sound k (a ∷ s) n k' s' bs e = branch (ltb a 128) e short (λ t x. second_sound k a (k + 1) s n k' s' bs (ltb-false a 128 t) x)
  where
    short : ltb a 128 ≡ true → got a (k + 1) s ≡ got n k' s' → Sound n (a ∷ s) s'
    short t q =
        let l = ltb-true a 128 t in
        let p = got_is a n _ _ _ _ q in
        rw (p.0, p.1) (rw (one_byte a l) refl, omega arith, bs.1)

number_whole : (n : ℕ) → n < 2_097_152 → (k : ℕ) (s : List ℕ) → (k' : ℕ) × (number k (number_bytes n ++ s) ≡ got n k' s)
number_whole n h k s = ⊎_elim one (λ g. ⊎_elim (two g) three (cases_lt n 16_384)) (cases_lt n 128)
  where
    one : n < 128 → (k' : ℕ) × (number k (number_bytes n ++ s) ≡ got n k' s)
    one l = (k + 1, rw (one_byte n l) (simp (lt-ltb n 128 l)))

    two : 128 ≤ n → n < 16_384 → (k' : ℕ) × (number k (number_bytes n ++ s) ≡ got n k' s)
    two g l =
        let f : 128 ≤ n % 128 + 128 = omega arith in
        let z : n / 128 ≡ 0 → ⊥ = omega arith in
        let m : n / 128 < 128 = omega arith in
        let v : n % 128 + 128 - 128 + 128 * (n / 128) ≡ n = omega arith in
        (k + 1 + 1, rw (two_bytes n g l) (simp (le-ltb _ 128 f, ne_eqb _ 0 z, lt-ltb _ 128 m, v)))

    three : 16_384 ≤ n → (k' : ℕ) × (number k (number_bytes n ++ s) ≡ got n k' s)
    three g =
        let f : 128 ≤ n % 128 + 128 = omega arith in
        let f₂ : 128 ≤ n / 128 % 128 + 128 = omega arith in
        let y : n / 128 % 128 + 128 ≡ 0 → ⊥ = omega arith in
        let z : n / 16_384 ≡ 0 → ⊥ = omega arith in
        let m : n / 16_384 < 128 = omega arith in
        let v : n % 128 + 128 - 128 + 128 * (n / 128 % 128 + 128 - 128) + 16_384 * (n / 16_384) ≡ n = omega arith in
        (k + 1 + 1 + 1, rw (three_bytes n g) (simp (le-ltb _ 128 f, ne_eqb _ 0 y, le-ltb _ 128 f₂, ne_eqb _ 0 z, lt-ltb _ 128 m, v)))

pub number_codec : Codec number number_bytes (λ n. n < 2_097_152)
number_codec = record { reads = number_sound; writes = number_whole }

-- a number that passes a test
pub ranged_codec : (low high : ℕ) → high < 2_097_152 → Codec (ranged low high) number_bytes (λ n. (low ≤ n) × (n ≤ high))
ranged_codec low high h = record { reads = sound; writes = whole }
  where
    sound : (k : ℕ) (s : List ℕ) (a k' : ℕ) (s' : List ℕ) → Bytes s → ranged low high k s ≡ got a k' s' → (s ≡ number_bytes a ++ s') × ((low ≤ a) × (a ≤ high)) × Bytes s'
    sound k s a k' s' bs e =
        inverted (number k s) _ a k' s' e (λ n k₁ s₁ e₁ e₂.
        let m = number_codec.reads k s n k₁ s₁ bs e₁ in
        branch (ltb n low) e₂ (λ _ x. cc) (λ t x.
        branch (ltb high n) x (λ _ y. cc) (λ u y.
        let p = got_is n a _ _ _ _ y in
        rw (p.0, p.1) (m.0, (ltb-false n low t, ltb-false high n u), m.2))))

    whole : (a : ℕ) → (low ≤ a) × (a ≤ high) → (k : ℕ) (s : List ℕ) → (k' : ℕ) × (ranged low high k (number_bytes a ++ s) ≡ got a k' s)
    whole a v k s =
        let w = number_whole a (omega arith) k s in
        (w.0, simp (w.1, le-ltb a low v.0, le-ltb high a v.1))

pub index_codec : (count : ℕ) → count ≤ 2_097_152 → Codec (index count) number_bytes (λ n. n < count)
index_codec count h = record { reads = sound; writes = whole }
  where
    sound : (k : ℕ) (s : List ℕ) (a k' : ℕ) (s' : List ℕ) → Bytes s → index count k s ≡ got a k' s' → (s ≡ number_bytes a ++ s') × (a < count) × Bytes s'
    sound k s a k' s' bs e =
        inverted (number k s) _ a k' s' e (λ n k₁ s₁ e₁ e₂.
        let m = number_codec.reads k s n k₁ s₁ bs e₁ in
        branch (ltb n count) e₂ (λ t x.
        let p = got_is n a _ _ _ _ x in
        rw (p.0, p.1) (m.0, ltb-true n count t, m.2))
        (λ _ x. cc))

    whole : (a : ℕ) → a < count → (k : ℕ) (s : List ℕ) → (k' : ℕ) × (index count k (number_bytes a ++ s) ≡ got a k' s)
    whole a v k s =
        let w = number_whole a (omega arith) k s in
        (w.0, simp (w.1, lt-ltb a count v))

pub value_codec : Codec value value_bytes IsValue
value_codec =
    made_of value_of code_of IsValue (ranged_codec 0 2_000_000 (omega arith))
    (λ n v. (code_in_range n v.1, code_value n))
    (λ v r. ((omega arith, value_in_range v r), value_code v))

-- a count from low to high, and so many parts
pub list_codec : {A : Type 0} {p : Parser A} {e : A → List ℕ} {V : A → Type 0} (low high : ℕ) → high < 2_097_152 → Codec p e V →
    Codec (list low high p) (counted e) (λ xs. ((low ≤ length xs) × (length xs ≤ high)) × All V xs)
list_codec {A} {p} {e} {V} low high h c =
    renamed (sequence (λ n. many n p) (λ n. each e) (λ n xs. (length xs ≡ n) × All V xs) length (ranged_codec low high h) (λ n _. many_codec c n) (λ n xs v. v.0))
    (λ xs v. refl) (λ xs v. (v.0, v.1.1)) (λ xs v. (v.0, (refl, v.1)))
