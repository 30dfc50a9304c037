-- The constraints to wake, found one after the other. Assumes nothing.
use Rattle.std.proofs.Common.{◌≡◌, ℕ, zero, suc, ◌+◌, ◌<◌, ◌≤◌, Bool, true, false, ◌&&◌, ltb, leb, ◌⊎◌, List, [], ◌∷◌, ◌++◌, length, take, get_or, Some, None, Option, MatchBool, sym, refl, ap, ◌∙◌, subst, inl, inr, arith}
use Rattle.std.proofs.lemmas.List.{length_push, take_all, take-append-le, length-take-le}
use Rattle.std.specs.List.{HoldsAt, AllWithin, range_with_len}
use Rattle.std.proofs.lemmas.List.FromFn.{get_or-range_with_len}
use Rattle.std.proofs.lemmas.Bool.{cases_lt, and_parts, leb-true, both_ways}
use Rattle.std.proofs.lemmas.Option.{same_Some}
use Rattle.terms.specs.declared.Operand.TheVariants.{Variable}
use Rattle.terms.specs.Domains.{Domain}
use Rattle.terms.specs.Lists.{All}
use Rattle.theory.specs.Meanings.{Meaning, Fixed}
use Rattle.table.specs.Lists.{first, nth}
use Rattle.table.specs.Looks.{low_fit}
use Rattle.table.specs.Nexts.{any_answers, NextOf}
use Rattle.table.specs.Records.{Record, fit, all_fitting, argument_of}
use Rattle.table.specs.Tables.{Table}
use Rattle.tablelaws.proofs.Visiting.{high_answer}
use Rattle.machine.specs.Lists.{◌∈◌, here, there, Rising}
use Rattle.machine.proofs.Members.{mem_cases, mem_none, mem_append, mem_left, mem_right}
use Rattle.lists.specs.Wakings.{OpenSays, UnfixedSays, Collected}

nth_in : {A : Type 0} (xs : List A) (k : ℕ) (x : A) → nth xs k ≡ Some x → x ∈ xs
nth_in [] k x e = absurd (let z : ◌≡◌ {A = ℕ} 0 1 = cc in omega arith)
nth_in (y ∷ ys) zero x e = subst (λ z. z ∈ (y ∷ ys)) (same_Some _ _ e) here
nth_in (y ∷ ys) (suc k) x e = there (nth_in ys k x e)

in_nth : {A : Type 0} {x : A} {xs : List A} → x ∈ xs → (k : ℕ) × (k < length xs) × (nth xs k ≡ Some x)
in_nth here = (0, omega arith, refl)
in_nth (there m) = let r = in_nth m in (suc r.0, omega (arith, r.1), r.2)

-- the first of a list and one more, of which the first are taken again
take_pushed : {A : Type 0} (n : ℕ) (all items : List A) (x : A) → items ≡ take n all → take n (items ++ (x ∷ [])) ≡ take n (all ++ (x ∷ []))
take_pushed n all items x e = go (cases_lt (length all) n)
  where
    go : (length all < n) ⊎ (n ≤ length all) → take n (items ++ (x ∷ [])) ≡ take n (all ++ (x ∷ []))
    go (inl a) = ap (λ z. take n (z ++ (x ∷ []))) (e ∙ take_all n all (omega arith))
    go (inr a) = take-append-le n items (x ∷ []) (omega (arith, ap length e, length-take-le n all a)) ∙ take_all n items (omega (arith, ap length e, length-take-le n all a)) ∙ e ∙ sym (take-append-le n all (x ∷ []) a)

-- a number above all of a rising list goes at its end
rising_push : (last x : ℕ) (is : List ℕ) → ((i : ℕ) → i ∈ is → i ≤ last) → last < x → Rising is → Rising (is ++ (x ∷ []))
rising_push last x [] f l r = (tt, tt)
rising_push last x (i ∷ is) f l r = (push is r.0, rising_push last x is (λ j m. f j (there m)) l r.1)
  where
    push : (js : List ℕ) → All (λ y. i < y) js → All (λ y. i < y) (js ++ (x ∷ []))
    push [] a = (omega (arith, f i here), tt)
    push (j ∷ js) a = (a.0, push js a.1)

-- each record is one that a table takes under its identifier
abbrev pub Fitted : Table → Type 0
Fitted t = (i : ℕ) → All (λ r. fit i r ≡ true) (t i)

-- such a record has four arguments at most
few_fit : (i : ℕ) (r : Record) → fit i r ≡ true → length r.arguments ≤ 4
few_fit i r e =
    let b = and_parts (leb i 1_000_000) (ltb r.symbol 32 && (leb (length r.arguments) 4 && all_fitting r.arguments)) (and_parts (leb 1 i) (leb i 1_000_000 && (ltb r.symbol 32 && (leb (length r.arguments) 4 && all_fitting r.arguments))) e).1 in
    let c = and_parts (ltb r.symbol 32) (leb (length r.arguments) 4 && all_fitting r.arguments) b.1 in
    leb-true (length r.arguments) 4 (and_parts (leb (length r.arguments) 4) (all_fitting r.arguments) c.1).0

module _ {d : Domain} (m : Meaning d) where
  -- the arguments before a place are values or fixed
  abbrev pub FixedBefore : Option Record → ℕ → Type 0
  FixedBefore r place = (k x : ℕ) → k < place → argument_of r k ≡ Some (Variable x) → Fixed m x

  pub unfixed_here : (r : Option Record) (place : ℕ) → OpenSays m true (argument_of r place) → UnfixedSays m true r
  unfixed_here None place w = absurd (let z : ◌≡◌ {A = ℕ} 0 1 = cc (w.1) in omega arith)
  unfixed_here (Some r) place w = (w.0, nth_in r.arguments place (Variable w.0) w.1, w.2)

  pub all_fixed : (i : ℕ) (rs : List Record) → All (λ r. fit i r ≡ true) rs → FixedBefore (first rs) 4 → UnfixedSays m false (first rs)
  all_fixed i [] p f = tt
  all_fixed i (r ∷ rs) p f = λ x n. let k = in_nth n in f k.0 x (omega (arith, k.1, few_fit i r p.0)) k.2

  -- what was said of each place says it of the whole
  pub unfixed_any : (i : ℕ) (rs : List Record) → All (λ r. fit i r ≡ true) rs → (b : Bool) → MatchBool b ((k : ℕ) × (k < length (range_with_len 0 4)) × HoldsAt (λ place. OpenSays m true (argument_of (first rs) place)) (range_with_len 0 4) k) (AllWithin (λ place. OpenSays m false (argument_of (first rs) place)) (range_with_len 0 4) 0 (length (range_with_len 0 4))) → UnfixedSays m b (first rs)
  unfixed_any i rs p true w = unfixed_here (first rs) (get_or (range_with_len 0 4) w.0 0) (w.2 0)
  unfixed_any i rs p false w = all_fixed i rs p (λ k x l e. w k 0 (omega arith) l x (ap (argument_of (first rs)) (get_or-range_with_len 0 4 k 0 l ∙ omega arith) ∙ e))

  -- no record answers, so there is none
  silent : (rs : List Record) → any_answers None None rs ≡ false → UnfixedSays m false (first rs)
  silent [] e = tt
  silent (r ∷ rs) e = absurd (both_ways true e refl)

  module _ (t : Table) where
    abbrev Says : Bool → ℕ → Type 0
    Says b i = UnfixedSays m b (first (t i))

    -- the woken up to an identifier
    pub record WakesTo (last : ℕ) (is : List ℕ) : Type 0 where
      pub rising : Rising is
      pub upto : (i : ℕ) → i ∈ is → i ≤ last
      pub unfixed : (i : ℕ) → i ∈ is → Says true i
      pub others : (i : ℕ) → i ≤ last → (i ∈ is → ⊥) → Says false i

    -- all of them, how many they are, and the first 512
    pub record Collecting (last n : ℕ) (items : List ℕ) : Type 0 where
      pub all : List ℕ
      pub wakes : WakesTo last all
      pub count : n ≡ length all
      pub kept : items ≡ take 512 all
      pub few : n ≤ last
      pub bound : last ≤ 1_000_000

    -- the identifier that comes next among all
    abbrev Next : ℕ → Option ℕ → Type 0
    Next last r = NextOf t None None last r

    none_at_zero : Fitted t → Says false 0
    none_at_zero f = go (t 0) (f 0)
      where
        go : (rs : List Record) → All (λ r. fit 0 r ≡ true) rs → UnfixedSays m false (first rs)
        go [] a = tt
        go (r ∷ rs) a = absurd (omega (arith, low_fit 0 r a.0))

    pub collect_none : Fitted t → (items : List ℕ) → items ≡ [] → Collecting 0 0 items
    collect_none f items e = record {
      all = [];
      wakes = record { rising = tt; upto = λ i n. absurd (mem_none n); unfixed = λ i n. absurd (mem_none n); others = λ i l n. subst (Says false) (let q : 0 ≡ i = omega arith in q) (none_at_zero f) };
      count = refl;
      kept = e;
      few = omega arith;
      bound = omega arith;
    }

    before : (last x : ℕ) (is : List ℕ) → WakesTo last is → Next last (Some x) → (i : ℕ) → i < x → (i ∈ is → ⊥) → Says false i
    before last x is w n i l k = go (cases_lt last i)
      where
        go : (last < i) ⊎ (i ≤ last) → Says false i
        go (inl a) = silent (t i) (n.2 i a l)
        go (inr a) = w.others i a k

    wakes_rest : (last x : ℕ) (is : List ℕ) → WakesTo last is → Next last (Some x) → Says false x → WakesTo x is
    wakes_rest last x is w n s = record { rising = w.rising; upto = λ i k. omega (arith, w.upto i k, n.0); unfixed = w.unfixed; others = λ i l k. go i l k (cases_lt i x) }
      where
        go : (i : ℕ) → i ≤ x → (i ∈ is → ⊥) → (i < x) ⊎ (x ≤ i) → Says false i
        go i l k (inl a) = before last x is w n i a k
        go i l k (inr a) = subst (Says false) (let q : x ≡ i = omega arith in q) s

    wakes_more : (last x : ℕ) (is : List ℕ) → WakesTo last is → Next last (Some x) → Says true x → WakesTo x (is ++ (x ∷ []))
    wakes_more last x is w n s = record { rising = rising_push last x is w.upto n.0 w.rising; upto = λ i k. low i (mem_append is k); unfixed = λ i k. open_at i (mem_append is k); others = λ i l k. go i l k (cases_lt i x) }
      where
        one : (i : ℕ) → i ∈ (x ∷ []) → i ≡ x
        one i k = last_one (mem_cases k)
          where
            last_one : (i ≡ x) ⊎ (i ∈ []) → i ≡ x
            last_one (inl e) = e
            last_one (inr z) = absurd (mem_none z)

        low : (i : ℕ) → (i ∈ is) ⊎ (i ∈ (x ∷ [])) → i ≤ x
        low i (inl k) = omega (arith, w.upto i k, n.0)
        low i (inr k) = omega (arith, one i k)

        open_at : (i : ℕ) → (i ∈ is) ⊎ (i ∈ (x ∷ [])) → Says true i
        open_at i (inl k) = w.unfixed i k
        open_at i (inr k) = subst (Says true) (sym (one i k)) s

        go : (i : ℕ) → i ≤ x → (i ∈ (is ++ (x ∷ [])) → ⊥) → (i < x) ⊎ (x ≤ i) → Says false i
        go i l k (inl a) = before last x is w n i a (λ z. k (mem_left (x ∷ []) z))
        go i l k (inr a) = absurd (k (mem_right is (subst (λ z. z ∈ (x ∷ [])) (let q : x ≡ i = omega arith in q) here)))

    next_high : Fitted t → (last x : ℕ) → Next last (Some x) → x ≤ 1_000_000
    next_high f last x n = high_answer x None None (t x) (f x) n.1

    pub collect_rest : Fitted t → (last n x : ℕ) (items : List ℕ) → Collecting last n items → Next last (Some x) → Says false x → Collecting x n items
    collect_rest f last n x items w k s = record { all = w.all; wakes = wakes_rest last x w.all w.wakes k s; count = w.count; kept = w.kept; few = omega (arith, w.few, k.0); bound = next_high f last x k }

    pub collect_more : Fitted t → (last n x : ℕ) (items after : List ℕ) → Collecting last n items → Next last (Some x) → Says true x → after ≡ take 512 (items ++ (x ∷ [])) → Collecting x (n + 1) after
    collect_more f last n x items after w k s e = record { all = w.all ++ (x ∷ []); wakes = wakes_more last x w.all w.wakes k s; count = omega (arith, w.count, length_push w.all x); kept = e ∙ take_pushed 512 w.all items x w.kept; few = omega (arith, w.few, k.0); bound = next_high f last x k }

    pub collect_all : (last n : ℕ) (items : List ℕ) → Collecting last n items → Next last None → Collected m (λ i. first (t i)) n items
    collect_all last n items w k = record { all = w.all; wakes = record { rising = w.wakes.rising; unfixed = w.wakes.unfixed; others = λ i a. go i a (cases_lt last i) }; count = w.count; kept = w.kept; few = omega (arith, w.few, w.bound) }
      where
        go : (i : ℕ) → (i ∈ w.all → ⊥) → (last < i) ⊎ (i ≤ last) → Says false i
        go i a (inl l) = silent (t i) (k i l)
        go i a (inr l) = w.wakes.others i l a
