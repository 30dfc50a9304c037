-- Tuples that fit a rule, head by head. Assumes nothing.
use Rattle.std.proofs.Common.{◌≡◌, ℕ, zero, suc, ◌<◌, ◌≤◌, true, eqb, ◌⊎◌, List, [], ◌∷◌, ◌++◌, length, get_or, take, ℤ, Some, Option, sym, refl, ap, subst, inl, inr, not-suc-le-zero, arith}
use Rattle.std.proofs.lemmas.List.{append_assoc}
use Rattle.std.proofs.lemmas.Bool.{eq-eqb, ne_eqb, and_from, or_left}
use Rattle.std.proofs.lemmas.Option.{none-some, same_Some}
use Rattle.terms.specs.Lists.{All}
use Rattle.table.specs.Lists.{first, is_none}
use Rattle.table.specs.Nexts.{has_key, answers, any_answers}
use Rattle.table.specs.Records.{Record, symbol_of, fit}
use Rattle.table.specs.Looks.{low_fit}
use Rattle.machine.specs.Lists.{◌∈◌, there, Distinct, NoLater}
use Rattle.machine.specs.Matching.{Store, Matches, arguments_of}
use Rattle.machine.proofs.Members.{mem_cases, mem_none, mem_right, mem_append, get_or_mem, here_at}

-- a first record with the symbol and the key answers to them
pub first_answers : (xs : List Record) (c : ℕ) (key : Option ℤ) → symbol_of (first xs) ≡ Some c → has_key key (arguments_of (first xs)) ≡ true → any_answers (Some c) key xs ≡ true
first_answers [] c key e k = absurd (none-some _ e)
first_answers (r ∷ rs) c key e k = or_left (answers (Some c) key r) (any_answers (Some c) key rs) (and_from (eqb c r.symbol) (has_key key r.arguments) (eq-eqb c r.symbol (sym (same_Some _ _ e))) k)

-- an identifier with a record is from 1 to 1,000,000
pub low_first : (i : ℕ) (xs : List Record) (c : ℕ) → All (λ r. fit i r ≡ true) xs → symbol_of (first xs) ≡ Some c → 1 ≤ i
low_first i [] c a e = absurd (none-some _ e)
low_first i (r ∷ rs) c a e = low_fit i r a.0

-- what stands at the next head
pub matches_next : (store : Store) (hs pre : List ℕ) (y : ℕ) (ys : List ℕ) → Matches store hs (pre ++ (y ∷ ys)) → symbol_of (store y) ≡ Some (get_or hs (length pre) 0)
matches_next store [] [] y ys m = absurd m
matches_next store [] (i ∷ pre) y ys m = absurd m
matches_next store (s ∷ ss) [] y ys m = m.0
matches_next store (s ∷ ss) (i ∷ pre) y ys m = matches_next store ss pre y ys m.1

pub matches_more : (store : Store) (hs pre : List ℕ) (y : ℕ) → length pre < length hs → Matches store (take (length pre) hs) pre → symbol_of (store y) ≡ Some (get_or hs (length pre) 0) → Matches store (take (length (pre ++ (y ∷ []))) hs) (pre ++ (y ∷ []))
matches_more store [] pre y l m e = absurd (not-suc-le-zero l)
matches_more store (s ∷ ss) [] y l m e = (e, tt)
matches_more store (s ∷ ss) (i ∷ pre) y l m e = (m.0, matches_more store ss pre y (omega arith) m.1 e)

pub distinct_more : (pre : List ℕ) (y : ℕ) → Distinct pre → (y ∈ pre → ⊥) → Distinct (pre ++ (y ∷ []))
distinct_more [] y d n = (mem_none, tt)
distinct_more (x ∷ pre) y d n = ((λ m. apart (mem_append pre m)), distinct_more pre y d.1 (λ m. n (there m)))
  where
    last : (x ≡ y) ⊎ (x ∈ []) → ⊥
    last (inl e) = n (here_at pre (sym e))
    last (inr m) = mem_none m

    apart : (x ∈ pre) ⊎ (x ∈ (y ∷ [])) → ⊥
    apart (inl m) = d.0 m
    apart (inr m) = last (mem_cases m)

-- an element of a list without doubles is not in what stands before it
pub distinct_next : (pre : List ℕ) (y : ℕ) (ys : List ℕ) → Distinct (pre ++ (y ∷ ys)) → y ∈ pre → ⊥
distinct_next [] y ys d m = mem_none m
distinct_next (x ∷ pre) y ys d m = go (λ n. distinct_next pre y ys d.1 n) (mem_cases m)
  where
    go : (y ∈ pre → ⊥) → (y ≡ x) ⊎ (y ∈ pre) → ⊥
    go ih (inl e) = d.0 (mem_right pre (here_at ys (sym e)))
    go ih (inr n) = ih n

-- nor is it what stands elsewhere
pub distinct_at : (pre : List ℕ) (y : ℕ) (ys : List ℕ) (h : ℕ) → Distinct (pre ++ (y ∷ ys)) → h < length (pre ++ (y ∷ ys)) → get_or (pre ++ (y ∷ ys)) h 0 ≡ y → h ≡ length pre
distinct_at [] y ys zero d l e = refl
distinct_at [] y ys (suc h) d l e = absurd (d.0 (subst (λ z. z ∈ ys) e (get_or_mem ys h 0 (omega arith))))
distinct_at (x ∷ pre) y ys zero d l e = absurd (d.0 (mem_right pre (here_at ys e)))
distinct_at (x ∷ pre) y ys (suc h) d l e = ap suc (distinct_at pre y ys h d.1 (omega arith) e)

pub no_later_front : (xs ys : List ℕ) → NoLater xs (xs ++ ys)
no_later_front [] ys = tt
no_later_front (x ∷ xs) ys = (omega arith, λ e. no_later_front xs ys)

pub no_later_less : (pre : List ℕ) (x y : ℕ) (xs ys : List ℕ) → x < y → NoLater (pre ++ (x ∷ xs)) (pre ++ (y ∷ ys))
no_later_less [] x y xs ys l = (omega arith, λ e. absurd (omega arith))
no_later_less (p ∷ pre) x y xs ys l = (omega arith, λ e. no_later_less pre x y xs ys l)

pub one_more : (pre ys : List ℕ) (y : ℕ) → (pre ++ (y ∷ [])) ++ ys ≡ pre ++ (y ∷ ys)
one_more pre ys y = append_assoc pre (y ∷ []) ys

pub none_there : {A : Type 0} (xs : List A) → eqb (length xs) 0 ≡ is_none xs
none_there [] = refl
none_there (x ∷ xs) = ne_eqb (suc (length xs)) 0 (λ e. omega arith)
