-- The least number that passes a test, as tests are joined, and the next identifier of joined tables.
use Rattle.std.specs.Prelude.{◌≡◌, ℕ, ◌<◌, Bool, true, false, cond, ◌||◌, List, [], ◌∷◌, ◌++◌, ℤ, Some, None, Option, nat_le, refl}
use Rattle.std.proofs.Common.{sym, ap, ◌∙◌, subst, inl, inr, arith}
use Rattle.std.proofs.lemmas.Bool.{cases_eq, cases_lt, cond_both, leb-true, leb-false, eq-eqb, ne_eqb, or_from, or_left, or_right, both_ways}
use Rattle.terms.specs.Lists.{All}
use Rattle.table.specs.Records.{Record, fit}
use Rattle.table.specs.Tables.{Table, both}
use Rattle.table.specs.Nexts.{Least, NextOf, answers, any_answers, lower}
use Rattle.table.specs.TablesLemmas.{only}

-- where either test may pass, the least is the lower of both
pub least_join : (p q : ℕ → Bool) (low : ℕ) (o u : Option ℕ) → Least p low o → Least q low u → Least (λ i. p i || q i) low (lower o u)
least_join p q low None None a b = λ i l. or_from (p i) (q i) (a i l) (b i l)
least_join p q low None (Some n) a b = (b.0, or_right (p n) (q n) b.1, λ i l m. or_from (p i) (q i) (a i l) (b.2 i l m))
least_join p q low (Some m) None a b = (a.0, or_left (p m) (q m) a.1, λ i l k. or_from (p i) (q i) (a.2 i l k) (b i l))
least_join p q low (Some m) (Some n) a b =
    cond_both (nat_le m n) (Some m) (Some n) (Least (λ i. p i || q i) low)
    (λ e. (a.0, or_left (p m) (q m) a.1, λ i l k. or_from (p i) (q i) (a.2 i l k) (b.2 i l (omega (arith, leb-true m n e)))))
    (λ e. (b.0, or_right (p n) (q n) b.1, λ i l k. or_from (p i) (q i) (a.2 i l (omega (arith, leb-false m n e))) (b.2 i l k)))

-- a test that is the same above `low`
pub least_same : (p q : ℕ → Bool) (low : ℕ) (o : Option ℕ) → ((i : ℕ) → low < i → q i ≡ p i) → Least p low o → Least q low o
least_same p q low None same least = λ i a. same i a ∙ least i a
least_same p q low (Some m) same least = (least.0, same m least.0 ∙ least.1, λ i a b. same i a ∙ least.2 i a b)

-- there is one least at most
pub least_one : (p : ℕ → Bool) (low : ℕ) (o u : Option ℕ) → Least p low o → Least p low u → o ≡ u
least_one p low None None a b = refl
least_one p low None (Some n) a b = absurd (both_ways (p n) (a n b.0) b.1)
least_one p low (Some m) None a b = absurd (both_ways (p m) (b m a.0) a.1)
least_one p low (Some m) (Some n) a b = ap Some (elim (cases_lt m n) [
  | inl l ↦ absurd (both_ways (p m) (b.2 m a.0 l) a.1)
  | inr g ↦ elim (cases_lt n m) [
    | inl l ↦ absurd (both_ways (p n) (a.2 n b.0 l) b.1)
    | inr k ↦ omega arith
  ]
])

pub any_append : (s : Option ℕ) (k : Option ℤ) (xs ys : List Record) → any_answers s k (xs ++ ys) ≡ (any_answers s k xs || any_answers s k ys)
any_append s k [] ys = refl
any_append s k (x ∷ xs) ys = ap (λ b. answers s k x || b) (any_append s k xs ys) ∙ sym (go (answers s k x) (any_answers s k xs) (any_answers s k ys))
  where
    go : (a b c : Bool) → ((a || b) || c) ≡ (a || (b || c))
    go true b c = refl
    go false b c = refl

pub any_one : (s : Option ℕ) (k : Option ℤ) (r : Record) → any_answers s k (r ∷ []) ≡ answers s k r
any_one s k r = go (answers s k r)
  where
    go : (a : Bool) → (a || false) ≡ a
    go true = refl
    go false = refl

-- the next of two tables as one is the lower of theirs
pub next_both : (t u : Table) (s : Option ℕ) (k : Option ℤ) (low : ℕ) (a b : Option ℕ) → NextOf t s k low a → NextOf u s k low b → NextOf (both t u) s k low (lower a b)
next_both t u s k low a b p q =
    least_same (λ i. any_answers s k (t i) || any_answers s k (u i)) (λ i. any_answers s k (both t u i)) low (lower a b)
    (λ i l. any_append s k (t i) (u i))
    (least_join (λ i. any_answers s k (t i)) (λ i. any_answers s k (u i)) low a b p q)

-- the next of one record: it, where it is above and answers
pub next_only : (n : ℕ) (r : Record) (s : Option ℕ) (k : Option ℤ) (low : ℕ) → low < n → answers s k r ≡ true → NextOf (only n r) s k low (Some n)
next_only n r s k low l h = (
  l,
  ap (λ b. any_answers s k (cond b (r ∷ []) [])) (eq-eqb n n refl) ∙ any_one s k r ∙ h,
  λ i a b. ap (λ c. any_answers s k (cond c (r ∷ []) [])) (ne_eqb n i (λ e. omega arith)),
)

pub next_only_not : (n : ℕ) (r : Record) (s : Option ℕ) (k : Option ℤ) (low : ℕ) → (low < n → answers s k r ≡ false) → NextOf (only n r) s k low None
next_only_not n r s k low h i l = elim (cases_eq n i) [
  | inl e ↦ ap (λ c. any_answers s k (cond c (r ∷ []) [])) (eq-eqb n i e) ∙ any_one s k r ∙ h (omega arith)
  | inr e ↦ ap (λ c. any_answers s k (cond c (r ∷ []) [])) (ne_eqb n i e)
]

-- beside a record that does not answer, the next is as it was
pub next_both_not : (t : Table) (n : ℕ) (r : Record) (s : Option ℕ) (k : Option ℤ) (low : ℕ) (o : Option ℕ) → NextOf t s k low o → (low < n → answers s k r ≡ false) → NextOf (both t (only n r)) s k low o
next_both_not t n r s k low o least h =
    subst (λ u. NextOf (both t (only n r)) s k low u) (same o) (next_both t (only n r) s k low o None least (next_only_not n r s k low h))
  where
    same : (u : Option ℕ) → lower u None ≡ u
    same None = refl
    same (Some m) = refl

-- nothing stands under 0
pub zero_none : (s : Option ℕ) (k : Option ℤ) (rs : List Record) → All (λ r. fit 0 r ≡ true) rs → any_answers s k rs ≡ false
zero_none s k [] f = refl
zero_none s k (r ∷ rs) f = absurd (both_ways false refl f.0)
