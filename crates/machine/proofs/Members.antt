-- Membership in lists, and what filters and tests keep. Assumes nothing.
use Rattle.std.proofs.Common.{◌≡◌, ℕ, zero, suc, ◌<◌, ◌≤◌, Bool, true, false, ◌||◌, cond, eqb, ◌⊎◌, List, [], ◌∷◌, ◌++◌, map, length, get_or, drop, filter, sym, refl, ap, ap₂, ◌∙◌, subst, inl, inr, not-suc-le-zero, arith}
use mathlib.Core.HLevel.{Discrete}
use Rattle.std.specs.List.{list_any}
use Rattle.std.proofs.lemmas.Cmp.{nat_eq_equiv}
use Rattle.terms.specs.Answers.{Answers}
use Rattle.std.proofs.lemmas.Bool.{eqb-true, eq-eqb, both_ways}
use Rattle.machine.specs.Lists.{◌∈◌, here, there}
use Rattle.terms.specs.Lists.{All}
use Rattle.table.specs.Lists.{memberb}
use Rattle.machine.specs.Refined.{names_any}

module _ {A : Type 0} where
  pub mem_cases : {x y : A} {ys : List A} → x ∈ (y ∷ ys) → (x ≡ y) ⊎ (x ∈ ys)
  mem_cases here = inl refl
  mem_cases (there m) = inr m

  pub mem_none : {x : A} → x ∈ [] → ⊥
  mem_none m = elim m [ ]

  pub here_at : {x y : A} (ys : List A) → x ≡ y → x ∈ (y ∷ ys)
  here_at {x} ys e = subst (λ z. x ∈ (z ∷ ys)) e here

  pub mem_left : {x : A} {xs : List A} (ys : List A) → x ∈ xs → x ∈ (xs ++ ys)
  mem_left ys here = here
  mem_left ys (there m) = there (mem_left ys m)

  pub mem_right : {x : A} (xs : List A) {ys : List A} → x ∈ ys → x ∈ (xs ++ ys)
  mem_right [] m = m
  mem_right (x ∷ xs) m = there (mem_right xs m)

  pub mem_append : {x : A} (xs : List A) {ys : List A} → x ∈ (xs ++ ys) → (x ∈ xs) ⊎ (x ∈ ys)
  mem_append [] m = inr m
  mem_append {x} (y ∷ xs) {ys} m = first (λ n. mem_append xs n) (mem_cases m)
    where
      second : (x ∈ xs) ⊎ (x ∈ ys) → (x ∈ (y ∷ xs)) ⊎ (x ∈ ys)
      second (inl a) = inl (there a)
      second (inr b) = inr b

      first : (x ∈ (xs ++ ys) → (x ∈ xs) ⊎ (x ∈ ys)) → (x ≡ y) ⊎ (x ∈ (xs ++ ys)) → (x ∈ (y ∷ xs)) ⊎ (x ∈ ys)
      first ih (inl e) = inl (here_at xs e)
      first ih (inr n) = second (ih n)

  pub all_mem : (P : A → Type 0) {x : A} {xs : List A} → All P xs → x ∈ xs → P x
  all_mem P a here = a.0
  all_mem P a (there m) = all_mem P a.1 m

  pub all_from : (P : A → Type 0) (xs : List A) → ((x : A) → x ∈ xs → P x) → All P xs
  all_from P [] f = tt
  all_from P (x ∷ xs) f = (f x here, all_from P xs (λ y m. f y (there m)))

  pub all_map : (P Q : A → Type 0) → ((x : A) → P x → Q x) → (xs : List A) → All P xs → All Q xs
  all_map P Q f [] a = tt
  all_map P Q f (x ∷ xs) a = (f x a.0, all_map P Q f xs a.1)

  pub all_append : (P : A → Type 0) (xs ys : List A) → All P xs → All P ys → All P (xs ++ ys)
  all_append P [] ys a b = b
  all_append P (x ∷ xs) ys a b = (a.0, all_append P xs ys a.1 b)

  pub all_parts : (P : A → Type 0) (xs ys : List A) → All P (xs ++ ys) → All P xs × All P ys
  all_parts P [] ys a = (tt, a)
  all_parts P (x ∷ xs) ys a = let r = all_parts P xs ys a.1 in ((a.0, r.0), r.1)

  pub mem_dec : Discrete A → (x : A) (xs : List A) → (x ∈ xs) ⊎ (x ∈ xs → ⊥)
  mem_dec d x [] = inr mem_none
  mem_dec d x (y ∷ ys) = go (d x y) (mem_dec d x ys)
    where
      neither : (x ≡ y → ⊥) → (x ∈ ys → ⊥) → (x ≡ y) ⊎ (x ∈ ys) → ⊥
      neither a b (inl e) = a e
      neither a b (inr m) = b m

      go : Dec (x ≡ y) → (x ∈ ys) ⊎ (x ∈ ys → ⊥) → (x ∈ (y ∷ ys)) ⊎ (x ∈ (y ∷ ys) → ⊥)
      go (yes e) r = inl (here_at ys e)
      go (no n) (inl m) = inl (there m)
      go (no n) (inr k) = inr (λ m. neither n k (mem_cases m))

  pub mem_place : {x : A} {xs : List A} (d : A) → x ∈ xs → (n : ℕ) × (n < length xs) × (get_or xs n d ≡ x)
  mem_place d here = (0, omega arith, refl)
  mem_place d (there m) = let r = mem_place d m in (suc r.0, omega (arith, r.1), r.2)

  pub get_or_mem : (xs : List A) (n : ℕ) (d : A) → n < length xs → get_or xs n d ∈ xs
  get_or_mem [] n d h = absurd (not-suc-le-zero h)
  get_or_mem (x ∷ xs) zero d h = here
  get_or_mem (x ∷ xs) (suc n) d h = there (get_or_mem xs n d (omega arith))

  pub all_get_d : (P : A → Type 0) (xs : List A) (n : ℕ) (d : A) → All P xs → P d → P (get_or xs n d)
  all_get_d P [] n d a p = p
  all_get_d P (x ∷ xs) zero d a p = a.0
  all_get_d P (x ∷ xs) (suc n) d a p = all_get_d P xs n d a.1 p

  pub mem_drop : {x : A} (n : ℕ) (xs : List A) → x ∈ drop n xs → x ∈ xs
  mem_drop zero xs m = m
  mem_drop (suc n) [] m = m
  mem_drop (suc n) (y ∷ xs) m = there (mem_drop n xs m)

  pub get_or_in_drop : (n h : ℕ) (xs : List A) (d : A) → n ≤ h → h < length xs → get_or xs h d ∈ drop n xs
  get_or_in_drop zero h xs d a b = get_or_mem xs h d b
  get_or_in_drop (suc n) h [] d a b = absurd (not-suc-le-zero b)
  get_or_in_drop (suc n) zero (x ∷ xs) d a b = absurd (not-suc-le-zero a)
  get_or_in_drop (suc n) (suc h) (x ∷ xs) d a b = get_or_in_drop n h xs d (omega arith) (omega arith)

  pub mem_kept : (p : A → Bool) {x : A} {xs : List A} → x ∈ xs → p x ≡ true → x ∈ filter p xs
  mem_kept p {x} (here {xs = ys}) e = subst (λ b. x ∈ cond b (x ∷ filter p ys) (filter p ys)) (sym e) here
  mem_kept p {x} (there {y = y} {xs = ys} m) e = go (p y) (mem_kept p m e)
    where
      go : (b : Bool) → x ∈ filter p ys → x ∈ cond b (y ∷ filter p ys) (filter p ys)
      go true k = there k
      go false k = k

  pub mem_kept_back : (p : A → Bool) {x : A} (xs : List A) → x ∈ filter p xs → (x ∈ xs) × (p x ≡ true)
  mem_kept_back p [] m = absurd (mem_none m)
  mem_kept_back p {x} (y ∷ ys) m = go (λ n. mem_kept_back p ys n) (p y) refl m
    where
      first : (x ∈ filter p ys → (x ∈ ys) × (p x ≡ true)) → p y ≡ true → (x ≡ y) ⊎ (x ∈ filter p ys) → (x ∈ (y ∷ ys)) × (p x ≡ true)
      first ih q (inl e) = (here_at ys e, ap p e ∙ q)
      first ih q (inr k) = (there (ih k).0, (ih k).1)

      go : (x ∈ filter p ys → (x ∈ ys) × (p x ≡ true)) → (b : Bool) → p y ≡ b → x ∈ cond b (y ∷ filter p ys) (filter p ys) → (x ∈ (y ∷ ys)) × (p x ≡ true)
      go ih true q k = first ih q (mem_cases k)
      go ih false q k = (there (ih k).0, (ih k).1)

pub mem_map : {A B : Type 0} (f : A → B) {x : A} {xs : List A} → x ∈ xs → f x ∈ map f xs
mem_map f here = here
mem_map f (there m) = there (mem_map f m)

pub mem_map_back : {A B : Type 0} (f : A → B) {y : B} (xs : List A) → y ∈ map f xs → (x : A) × (x ∈ xs) × (y ≡ f x)
mem_map_back f [] m = absurd (mem_none m)
mem_map_back {A} f {y} (x ∷ xs) m = go (λ n. mem_map_back f xs n) (mem_cases m)
  where
    go : (y ∈ map f xs → (z : A) × (z ∈ xs) × (y ≡ f z)) → (y ≡ f x) ⊎ (y ∈ map f xs) → (z : A) × (z ∈ (x ∷ xs)) × (y ≡ f z)
    go ih (inl e) = (x, here, e)
    go ih (inr n) = ((ih n).0, there (ih n).1, (ih n).2)

pub memberb_in : (x : ℕ) (ys : List ℕ) → memberb x ys ≡ true → x ∈ ys
memberb_in x [] e = absurd (both_ways false refl e)
memberb_in x (y ∷ ys) e = go (λ n. memberb_in x ys n) (eqb x y) refl e
  where
    go : (memberb x ys ≡ true → x ∈ ys) → (b : Bool) → eqb x y ≡ b → cond b true (memberb x ys) ≡ true → x ∈ (y ∷ ys)
    go ih true q k = here_at ys (eqb-true x y q)
    go ih false q k = there (ih k)

pub memberb_of : {x : ℕ} {ys : List ℕ} → x ∈ ys → memberb x ys ≡ true
memberb_of {x} (here {xs = ys}) = ap (λ b. cond b true (memberb x ys)) (eq-eqb x x refl)
memberb_of {x} (there {y = y} {xs = ys} m) = go (eqb x y) (memberb_of m)
  where
    go : (b : Bool) → memberb x ys ≡ true → cond b true (memberb x ys) ≡ true
    go true k = refl
    go false k = k

pub memberb_not : (x : ℕ) (ys : List ℕ) → (x ∈ ys → ⊥) → memberb x ys ≡ false
memberb_not x ys n = go (memberb x ys) refl
  where
    go : (b : Bool) → memberb x ys ≡ b → b ≡ false
    go true q = absurd (n (memberb_in x ys q))
    go false q = refl

pub names_none : (gone is : List ℕ) → names_any gone is ≡ false → {i : ℕ} → i ∈ is → i ∈ gone → ⊥
names_none gone [] e m g = mem_none m
names_none gone (j ∷ js) e {i} m g = step (λ q n. names_none gone js q n g) (memberb j gone) refl e (mem_cases m)
  where
    step : (names_any gone js ≡ false → i ∈ js → ⊥) → (b : Bool) → memberb j gone ≡ b → cond b true (names_any gone js) ≡ false → (i ≡ j) ⊎ (i ∈ js) → ⊥
    step ih true z w c = both_ways true w refl
    step ih false z w (inl r) = both_ways (memberb j gone) z (memberb_of (subst (λ k. k ∈ gone) r g))
    step ih false z w (inr k) = ih w k

pub names_none_of : (gone is : List ℕ) → ((i : ℕ) → i ∈ is → i ∈ gone → ⊥) → names_any gone is ≡ false
names_none_of gone [] f = refl
names_none_of gone (i ∷ is) f = subst (λ c. cond c true (names_any gone is) ≡ false) (sym (memberb_not i gone (f i here))) (names_none_of gone is (λ j m. f j (there m)))

or_cond : (b c : Bool) → (b || c) ≡ cond b true c
or_cond true c = refl
or_cond false c = refl

-- the number is one of those, as a slice tests it
pub contains_memberb : (x : ℕ) (ys : List ℕ) → list_any (λ y. eqb y x) ys ≡ memberb x ys
contains_memberb x [] = refl
contains_memberb x (y ∷ ys) = ap₂ ◌||◌ (nat_eq_equiv.symm y x) (contains_memberb x ys) ∙ or_cond (eqb x y) (memberb x ys)

pub answers_member : (b : Bool) (x : ℕ) (ys : List ℕ) → b ≡ list_any (λ y. eqb y x) ys → Answers b (x ∈ ys)
answers_member true x ys e = memberb_in x ys (sym (e ∙ contains_memberb x ys))
answers_member false x ys e = λ m. both_ways false refl (e ∙ contains_memberb x ys ∙ memberb_of m)

-- one of the numbers is one of those gone
pub any_names : (gone is : List ℕ) → list_any (λ i. memberb i gone) is ≡ names_any gone is
any_names gone [] = refl
any_names gone (i ∷ is) = ap (λ b. memberb i gone || b) (any_names gone is) ∙ or_cond (memberb i gone) (names_any gone is)
