-- A walk by `next` through the records that answer.
use Rattle.std.proofs.Common.{◌≡◌, ℕ, ◌+◌, ◌<◌, ◌≤◌, true, false, List, [], ◌∷◌, ◌++◌, length, get_or, ℤ, Some, None, Option, sym, refl, ap, ◌∙◌, inl, inr, arith}
use Rattle.std.proofs.lemmas.List.{length_push, get_or_append_left, get_or_push}
use Rattle.std.proofs.lemmas.Bool.{cases_eq, cases_lt, both_ways}
use Rattle.terms.specs.Lists.{All}
use Rattle.table.specs.Looks.{high_fit}
use Rattle.table.specs.Records.{Record, fit}
use Rattle.table.specs.Tables.{Table}
use Rattle.table.specs.Nexts.{any_answers, NextOf}
use Rattle.table.specs.NextsLemmas.{zero_none}
use Rattle.tablelaws.specs.Visits.{Rises, Visited}

-- what has been seen up to a number
pub record Seen (t : Table) (s : Option ℕ) (q : Option ℤ) (high : ℕ) (xs : List ℕ) : Type 0 where
  pub rises : Rises xs
  pub low : (k : ℕ) → k < length xs → get_or xs k 0 ≤ high
  pub none_other : (k : ℕ) → k < length xs → any_answers s q (t (get_or xs k 0)) ≡ true
  pub all : (i : ℕ) → i ≤ high → any_answers s q (t i) ≡ true → (k : ℕ) × (k < length xs) × (get_or xs k 0 ≡ i)

pub seen_none : (t : Table) (s : Option ℕ) (q : Option ℤ) → ((i : ℕ) → All (λ r. fit i r ≡ true) (t i)) → Seen t s q 0 []
seen_none t s q fits = record {
  rises = λ j k l m. absurd (omega arith);
  low = λ k l. absurd (omega arith);
  none_other = λ k l. absurd (omega arith);
  all = λ i l a.
      let e : i ≡ 0 = omega arith in
      absurd (both_ways _ (zero_none s q (t 0) (fits 0)) (ap (λ n. any_answers s q (t n)) (sym e) ∙ a));
}

pub seen_more : (t : Table) (s : Option ℕ) (q : Option ℤ) (high n : ℕ) (xs : List ℕ) → Seen t s q high xs → NextOf t s q high (Some n) → Seen t s q n (xs ++ n ∷ [])
seen_more t s q high n xs seen next =
    let len : length (xs ++ n ∷ []) ≡ length xs + 1 = length_push xs n in
    let old : (k : ℕ) → k < length xs → get_or (xs ++ n ∷ []) k 0 ≡ get_or xs k 0 = λ k l. get_or_append_left xs (n ∷ []) 0 k l in
    let new' : (k : ℕ) → length xs ≡ k → get_or (xs ++ n ∷ []) k 0 ≡ n = λ k e. get_or_push xs n 0 k e in
    record {
      rises = λ j k l m. elim (cases_lt k (length xs)) [
        | inl a ↦ omega (arith, old k a, old j (omega arith), seen.rises j k l a)
        | inr a ↦ omega (arith, new' k (omega arith), old j (omega arith), seen.low j (omega arith), next.0)
      ];
      low = λ k m. elim (cases_lt k (length xs)) [
        | inl a ↦ omega (arith, old k a, seen.low k a, next.0)
        | inr a ↦ omega (arith, new' k (omega arith))
      ];
      none_other = λ k m. elim (cases_lt k (length xs)) [
        | inl a ↦ ap (λ i. any_answers s q (t i)) (old k a) ∙ seen.none_other k a
        | inr a ↦ ap (λ i. any_answers s q (t i)) (new' k (omega arith)) ∙ next.1
      ];
      all = λ i l a. elim (cases_lt high i) [
        | inr b ↦ let f = seen.all i b a in (f.0, omega (arith, f.1), old f.0 f.1 ∙ f.2)
        | inl b ↦ elim (cases_eq n i) [
          | inl e ↦ (length xs, omega arith, new' (length xs) refl ∙ e)
          | inr e ↦ absurd (both_ways _ (next.2 i b (omega arith)) a)
        ]
      ];
    }

pub seen_all : (t : Table) (s : Option ℕ) (q : Option ℤ) (high : ℕ) (xs : List ℕ) → Seen t s q high xs → NextOf t s q high None → Visited t s q xs
seen_all t s q high xs seen next = record {
  rises = seen.rises;
  none_other = seen.none_other;
  all = λ i a. elim (cases_lt high i) [
    | inr b ↦ seen.all i b a
    | inl b ↦ absurd (both_ways _ (next i b) a)
  ];
}

-- an identifier that answers is 1,000,000 at most
pub high_answer : (i : ℕ) (s : Option ℕ) (k : Option ℤ) (rs : List Record) → All (λ r. fit i r ≡ true) rs → any_answers s k rs ≡ true → i ≤ 1_000_000
high_answer i s k [] f e = absurd (both_ways false refl e)
high_answer i s k (r ∷ rs) f e = high_fit i r f.0
