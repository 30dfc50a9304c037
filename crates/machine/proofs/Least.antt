-- The first of the lists that pass a test, by place, and the first fitting tuple. Assumes nothing.
use Rattle.std.proofs.Common.{◌≡◌, ℕ, zero, suc, ◌+◌, ◌-◌, ◌<◌, ◌≤◌, true, cond, not, eqb, ◌⊎◌, List, [], ◌∷◌, map, length, get_or, Some, None, filter, Option, sym, refl, ap, ◌∙◌, subst, ap₂, inl, inr, not-suc-le-zero, arith}
use mathlib.Core.Bool.{Bool-discrete}
use mathlib.Core.HLevel.{Discrete, ×_discrete}
use mathlib.Core.List.{List-discrete}
use native.Mathlib.Decide.{ℕ_discrete}
use Rattle.std.proofs.lemmas.Bool.{cases_lt, eq-eqb, ne_eqb}
use Rattle.std.proofs.lemmas.Option.{none-some, same_Some}
use Rattle.terms.specs.declared.Operand.{Operand}
use Rattle.terms.specs.declared.Primitive.{Primitive}
use Rattle.terms.specs.declared.Term.{Term}
use Rattle.terms.specs.Lists.{All}
use Rattle.rules.specs.Books.{heads}
use Rattle.theory.specs.declared.interface.Theory as Theory
use Rattle.theory.specs.Meanings.{Follows}
use Rattle.table.specs.declared.partner.PartnerTable as PartnerTable
use Rattle.table.specs.Records.{Record, symbol_of}
use Rattle.machine.specs.Lists.{◌∈◌, there, Distinct, NoLater}
use Rattle.machine.specs.Matching.{Store, Firing, Matches, fill_primitive, head_slot}
use Rattle.machine.specs.Occurrences.{positions, search_order, sought}
use Rattle.machine.specs.Sheets.{Config}
use Rattle.machine.specs.Refined.{meaning, living, rule_of, Fits, FirstFit, NoneFits, removes_nothing}
use Rattle.machine.proofs.Stores.{matched_record}
use Rattle.machine.proofs.Members.{mem_cases, mem_none, mem_dec, all_from, here_at}
use Rattle.machine.proofs.Meanings.{dec_both}
use Rattle.machine.proofs.Unique.{matches_length}

pub dec_not : {A : Type 0} → Dec A → Dec (A → ⊥)
dec_not (yes a) = no (λ n. n a)
dec_not (no n) = yes n

pub dec_all : {A : Type 0} (P : A → Type 0) → ((x : A) → Dec (P x)) → (xs : List A) → Dec (All P xs)
dec_all P f [] = yes tt
dec_all P f (x ∷ xs) = dec_both (f x) (dec_all P f xs)

pub dec_mem : {A : Type 0} → ((x y : A) → Dec (x ≡ y)) → (x : A) (xs : List A) → Dec (x ∈ xs)
dec_mem d x xs = go (mem_dec d x xs)
  where
    go : (x ∈ xs) ⊎ (x ∈ xs → ⊥) → Dec (x ∈ xs)
    go (inl m) = yes m
    go (inr n) = no n

-- a first list that passes, or none does
abbrev pub Least : (List ℕ → Type 0) → Type 0
Least P = ((xs : List ℕ) × P xs × ((ys : List ℕ) → P ys → NoLater xs ys)) ⊎ ((xs : List ℕ) → P xs → ⊥)

-- the same with a head among some
abbrev Led : (List ℕ → Type 0) → List ℕ → Type 0
Led P hs = ((x : ℕ) × (xs : List ℕ) × P (x ∷ xs) × ((y : ℕ) (ys : List ℕ) → y ∈ hs → P (y ∷ ys) → NoLater (x ∷ xs) (y ∷ ys))) ⊎ ((y : ℕ) (ys : List ℕ) → y ∈ hs → P (y ∷ ys) → ⊥)

led : (P : List ℕ → Type 0) (hs : List ℕ) → ((x : ℕ) → Least (λ xs. P (x ∷ xs))) → Led P hs
led P [] f = inr (λ y ys m p. mem_none m)
led P (h ∷ hs) f = go (f h) (led P hs f)
  where
    go : Least (λ xs. P (h ∷ xs)) → Led P hs → Led P (h ∷ hs)
    go (inr n) (inr k) = inr (λ y ys m p. pass y ys (mem_cases m) p)
      where
        pass : (y : ℕ) (ys : List ℕ) → (y ≡ h) ⊎ (y ∈ hs) → P (y ∷ ys) → ⊥
        pass y ys (inl e) p = n ys (subst (λ z. P (z ∷ ys)) e p)
        pass y ys (inr m) p = k y ys m p
    go (inr n) (inl k) = inl (k.0, k.1, k.2, λ y ys m p. pass y ys (mem_cases m) p)
      where
        pass : (y : ℕ) (ys : List ℕ) → (y ≡ h) ⊎ (y ∈ hs) → P (y ∷ ys) → NoLater (k.0 ∷ k.1) (y ∷ ys)
        pass y ys (inl e) p = absurd (n ys (subst (λ z. P (z ∷ ys)) e p))
        pass y ys (inr m) p = k.3 y ys m p
    go (inl a) (inr k) = inl (h, a.0, a.1, λ y ys m p. pass y ys (mem_cases m) p)
      where
        pass : (y : ℕ) (ys : List ℕ) → (y ≡ h) ⊎ (y ∈ hs) → P (y ∷ ys) → NoLater (h ∷ a.0) (y ∷ ys)
        pass y ys (inl e) p = (omega arith, λ q. a.2 ys (subst (λ z. P (z ∷ ys)) e p))
        pass y ys (inr m) p = absurd (k y ys m p)
    go (inl a) (inl k) = pick (cases_lt k.0 h)
      where
        mine : (h ≤ k.0) → (y : ℕ) (ys : List ℕ) → (y ≡ h) ⊎ (y ∈ hs) → P (y ∷ ys) → NoLater (h ∷ a.0) (y ∷ ys)
        mine l y ys (inl e) p = (omega arith, λ q. a.2 ys (subst (λ z. P (z ∷ ys)) e p))
        mine l y ys (inr m) p = (omega (arith, (k.3 y ys m p).0), λ q. a.2 ys (subst (λ z. P (z ∷ ys)) (sym q) p))

        theirs : (k.0 < h) → (y : ℕ) (ys : List ℕ) → (y ≡ h) ⊎ (y ∈ hs) → P (y ∷ ys) → NoLater (k.0 ∷ k.1) (y ∷ ys)
        theirs l y ys (inl e) p = (omega arith, λ q. absurd (omega arith))
        theirs l y ys (inr m) p = k.3 y ys m p

        pick : (k.0 < h) ⊎ (h ≤ k.0) → Led P (h ∷ hs)
        pick (inl l) = inl (k.0, k.1, k.2, λ y ys m p. theirs l y ys (mem_cases m) p)
        pick (inr l) = inl (h, a.0, a.1, λ y ys m p. mine l y ys (mem_cases m) p)

-- what passes has n elements, all among some
pub least : (n : ℕ) (hs : List ℕ) (P : List ℕ → Type 0) → ((xs : List ℕ) → Dec (P xs)) → ((xs : List ℕ) → P xs → (length xs ≡ n) × All (λ x. x ∈ hs) xs) → Least P
least zero hs P dec f = go (dec [])
  where
    none : (P [] → ⊥) → (xs : List ℕ) → P xs → ⊥
    none n [] p = n p
    none n (x ∷ xs) p = omega (arith, (f (x ∷ xs) p).0)

    go : Dec (P []) → Least P
    go (yes p) = inl ([], p, λ ys q. tt)
    go (no n) = inr (none n)
least (suc n) hs P dec f = go (led P hs (λ x. least n hs (λ xs. P (x ∷ xs)) (λ xs. dec (x ∷ xs)) (λ xs p. (omega (arith, (f (x ∷ xs) p).0), (f (x ∷ xs) p).1.1))))
  where
    all : (x : ℕ) (xs : List ℕ) → ((y : ℕ) (ys : List ℕ) → y ∈ hs → P (y ∷ ys) → NoLater (x ∷ xs) (y ∷ ys)) → (ys : List ℕ) → P ys → NoLater (x ∷ xs) ys
    all x xs k [] p = absurd (omega (arith, (f [] p).0))
    all x xs k (y ∷ ys) p = k y ys (f (y ∷ ys) p).1.0 p

    none : ((y : ℕ) (ys : List ℕ) → y ∈ hs → P (y ∷ ys) → ⊥) → (ys : List ℕ) → P ys → ⊥
    none k [] p = omega (arith, (f [] p).0)
    none k (y ∷ ys) p = k y ys (f (y ∷ ys) p).1.0 p

    go : Led P hs → Least P
    go (inl k) = inl (k.0 ∷ k.1, k.2, all k.0 k.1 k.3)
    go (inr k) = inr (none k)

-- all but the element at h
others : ℕ → List ℕ → List ℕ
others h [] = []
others zero (x ∷ xs) = xs
others (suc h) (x ∷ xs) = x ∷ others h xs

keep_all : (h k n : ℕ) → h < k → filter (λ p. not (eqb p h)) (positions k n) ≡ positions k n
keep_all h k zero l = refl
keep_all h k (suc n) l = ap (λ b. cond (not b) (k ∷ filter (λ p. not (eqb p h)) (positions (suc k) n)) (filter (λ p. not (eqb p h)) (positions (suc k) n))) (ne_eqb k h (λ e. omega arith)) ∙ ap (λ z. k ∷ z) (keep_all h (suc k) n (omega arith))

all_places : (xs : List ℕ) (k : ℕ) (f : ℕ → ℕ) → ((p : ℕ) → p < length xs → f (k + p) ≡ get_or xs p 0) → map f (positions k (length xs)) ≡ xs
all_places [] k f e = refl
all_places (x ∷ xs) k f e = ap₂ (λ y ys. y ∷ ys) (ap f (omega arith) ∙ e 0 (omega arith)) (all_places xs (suc k) f (λ p l. ap f (omega arith) ∙ e (suc p) (omega arith)))

but_one : (xs : List ℕ) (h k : ℕ) (f : ℕ → ℕ) → ((p : ℕ) → p < length xs → f (k + p) ≡ get_or xs p 0) → map f (filter (λ p. not (eqb p (k + h))) (positions k (length xs))) ≡ others h xs
unfolding others
but_one [] zero k f e = refl
but_one [] (suc h) k f e = refl
but_one (x ∷ xs) zero k f e = ap (λ b. map f (cond (not b) (k ∷ filter (λ p. not (eqb p (k + 0))) (positions (suc k) (length xs))) (filter (λ p. not (eqb p (k + 0))) (positions (suc k) (length xs))))) (eq-eqb k (k + 0) (omega arith)) ∙ ap (map f) (keep_all (k + 0) (suc k) (length xs) (omega arith)) ∙ all_places xs (suc k) f (λ p l. ap f (omega arith) ∙ e (suc p) (omega arith))
but_one (x ∷ xs) (suc h) k f e = ap (λ b. map f (cond (not b) (k ∷ filter (λ p. not (eqb p (k + suc h))) (positions (suc k) (length xs))) (filter (λ p. not (eqb p (k + suc h))) (positions (suc k) (length xs))))) (ne_eqb k (k + suc h) (λ q. omega arith)) ∙ ap₂ (λ y ys. y ∷ ys) (ap f (omega arith) ∙ e 0 (omega arith)) (subst (λ (z : ℕ). map f (filter (λ p. not (eqb p z)) (positions (suc k) (length xs))) ≡ others h xs) (omega arith) (but_one xs h (suc k) f (λ p l. ap f (omega arith) ∙ e (suc p) (omega arith))))

-- the order of the search leaves out the active head
sought_others : (n h : ℕ) (xs : List ℕ) → length xs ≡ n → sought (search_order n h) xs ≡ others h xs
sought_others n h xs l = subst (λ (z : ℕ). sought (search_order z h) xs ≡ others h xs) l (subst (λ (z : ℕ). map (λ p. get_or xs p 0) (filter (λ p. not (eqb p z)) (positions 0 (length xs))) ≡ others h xs) (let q : 0 + h ≡ h = omega arith in q) (but_one xs h 0 (λ p. get_or xs p 0) (λ p q. ap (λ (z : ℕ). get_or xs z 0) (let e : 0 + p ≡ p = omega arith in e))))

-- i at the place h among the others
between : ℕ → ℕ → List ℕ → List ℕ
between zero i os = i ∷ os
between (suc h) i [] = i ∷ []
between (suc h) i (o ∷ os) = o ∷ between h i os

others_between : (h i : ℕ) (os : List ℕ) → h ≤ length os → others h (between h i os) ≡ os
unfolding between others
others_between zero i os l = refl
others_between (suc h) i [] l = absurd (not-suc-le-zero l)
others_between (suc h) i (o ∷ os) l = ap (λ z. o ∷ z) (others_between h i os (omega arith))

between_others : (h i : ℕ) (xs : List ℕ) → h < length xs → get_or xs h 0 ≡ i → between h i (others h xs) ≡ xs
unfolding between others
between_others h i [] l e = absurd (not-suc-le-zero l)
between_others zero i (x ∷ xs) l e = ap (λ z. z ∷ xs) (sym e)
between_others (suc h) i (x ∷ xs) l e = ap (λ z. x ∷ z) (between_others h i xs (omega arith) e)

length_between : (h i : ℕ) (os : List ℕ) → length (between h i os) ≡ suc (length os)
unfolding between
length_between zero i os = refl
length_between (suc h) i [] = refl
length_between (suc h) i (o ∷ os) = ap suc (length_between h i os)

in_between : (h i : ℕ) (os : List ℕ) {x : ℕ} → x ∈ os → x ∈ between h i os
unfolding between
in_between zero i os m = there m
in_between (suc h) i [] m = absurd (mem_none m)
in_between (suc h) i (o ∷ os) {x} m = go (λ z. in_between h i os z) (mem_cases m)
  where
    go : (x ∈ os → x ∈ between h i os) → (x ≡ o) ⊎ (x ∈ os) → x ∈ (o ∷ between h i os)
    go ih (inl e) = here_at (between h i os) e
    go ih (inr z) = there (ih z)

dec_symbol : (o : Option Record) (s : ℕ) → Dec (symbol_of o ≡ Some s)
dec_symbol None s = no (none-some _)
dec_symbol (Some r) s = go (ℕ_discrete r.symbol s)
  where
    go : Dec (r.symbol ≡ s) → Dec (Some r.symbol ≡ Some s)
    go (yes e) = yes (ap Some e)
    go (no n) = no (λ e. n (same_Some _ _ e))

dec_matches : (store : Store) (hs is : List ℕ) → Dec (Matches store hs is)
dec_matches store [] [] = yes tt
dec_matches store [] (i ∷ is) = no (λ z. z)
dec_matches store (h ∷ hs) [] = no (λ z. z)
dec_matches store (h ∷ hs) (i ∷ is) = dec_both (dec_symbol (store i) h) (dec_matches store hs is)

firing_discrete : Discrete Firing
firing_discrete = ×_discrete ℕ_discrete (List-discrete ℕ_discrete)

dec_distinct : (xs : List ℕ) → Dec (Distinct xs)
dec_distinct [] = yes tt
dec_distinct (x ∷ xs) = dec_both (dec_not (dec_mem ℕ_discrete x xs)) (dec_distinct xs)

module _ {A B : Type 0} (T : Theory.Ghosts A) (P : PartnerTable.Ghosts B) (ask : (x : A) (p : Primitive Operand) → Dec (Follows (T.means x) p)) where
  dec_fits : (s : Config A B) (k h i : ℕ) (tuple : List ℕ) → Dec (Fits T P s k h i tuple)
  dec_fits s k h i tuple = go (dec_matches (living P s) (heads (rule_of s k)) tuple) (dec_distinct tuple) (dec_all Guarded (λ g. ask s.theory (fill_primitive (head_slot s.book.arities (living P s) (heads (rule_of s k)) tuple) g)) (rule_of s k).guards) (ℕ_discrete (get_or tuple h 0) i) (dec_not (dec_both (Bool-discrete (removes_nothing (rule_of s k)) true) (dec_mem firing_discrete (k, tuple) s.history)))
    where
      Guarded : Primitive Term → Type 0
      Guarded g = Follows (meaning T s) (fill_primitive (head_slot s.book.arities (living P s) (heads (rule_of s k)) tuple) g)

      go : Dec (Matches (living P s) (heads (rule_of s k)) tuple) → Dec (Distinct tuple) → Dec (All Guarded (rule_of s k).guards) → Dec (get_or tuple h 0 ≡ i) → Dec ((removes_nothing (rule_of s k) ≡ true) × ((k, tuple) ∈ s.history) → ⊥) → Dec (Fits T P s k h i tuple)
      go (yes a) (yes b) (yes c) (yes e) (yes f) = yes (record { applies = record { matches = a; distinct = b; guarded = c }; at = e; new = f })
      go (no n) b c e f = no (λ z. n z.applies.matches)
      go (yes a) (no n) c e f = no (λ z. n z.applies.distinct)
      go (yes a) (yes b) (no n) e f = no (λ z. n z.applies.guarded)
      go (yes a) (yes b) (yes c) (no n) f = no (λ z. n z.at)
      go (yes a) (yes b) (yes c) (yes e) (no n) = no (λ z. n z.new)

  -- at a head, a first tuple fits, or none does, where what lives is among some
  pub first_or_none : (hs : List ℕ) (s : Config A B) → ((i : ℕ) (r : Record) → living P s i ≡ Some r → i ∈ hs) → (k h i : ℕ) → h < length (heads (rule_of s k)) → ((tuple : List ℕ) × FirstFit T P s k h i tuple) ⊎ NoneFits T P s k h i
  first_or_none hs s lives k h i l = go (least (length (heads (rule_of s k)) - 1) hs Passes (λ os. dec_fits s k h i (between h i os)) shape)
    where
      Passes : List ℕ → Type 0
      Passes os = Fits T P s k h i (between h i os)

      size_of : (tuple : List ℕ) → Fits T P s k h i tuple → length tuple ≡ length (heads (rule_of s k))
      size_of tuple f = matches_length (living P s) (heads (rule_of s k)) tuple f.applies.matches

      order : (tuple : List ℕ) → Fits T P s k h i tuple → sought (search_order (length (heads (rule_of s k))) h) tuple ≡ others h tuple
      order tuple f = sought_others (length (heads (rule_of s k))) h tuple (size_of tuple f)

      shape : (os : List ℕ) → Passes os → (length os ≡ length (heads (rule_of s k)) - 1) × All (λ x. x ∈ hs) os
      shape os f = (omega (arith, size_of (between h i os) f, length_between h i os), all_from (λ x. x ∈ hs) os (λ x m. let r = matched_record (living P s) (heads (rule_of s k)) (between h i os) f.applies.matches (in_between h i os m) in lives x r.0 r.1))

      again : (tuple : List ℕ) → Fits T P s k h i tuple → Passes (others h tuple)
      again tuple f = subst (Fits T P s k h i) (sym (between_others h i tuple (subst (λ (z : ℕ). h < z) (sym (size_of tuple f)) l) f.at)) f

      go : Least Passes → ((tuple : List ℕ) × FirstFit T P s k h i tuple) ⊎ NoneFits T P s k h i
      go (inr n) = inr (λ tuple f. n (others h tuple) (again tuple f))
      go (inl b) = inl (between h i b.0, record { fits = b.1; before = λ other f. subst (λ z. NoLater z (sought (search_order (length (heads (rule_of s k))) h) other)) (sym (order (between h i b.0) b.1 ∙ others_between h i b.0 (omega (arith, (shape b.0 b.1).0, l)))) (subst (NoLater b.0) (sym (order other f)) (b.2 (others h other) (again other f))) })
