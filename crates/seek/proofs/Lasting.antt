-- What holds of every element of a list. Assumes nothing.
use Rattle.std.proofs.Common.{ℕ, zero, suc, ◌<◌, Bool, true, false, List, [], ◌∷◌, length, get_or, MatchBool, not-suc-le-zero, arith}
use Rattle.std.specs.List.{AllWithin, HoldsAt}
use Rattle.terms.specs.Answers.{Answers}
use Rattle.terms.specs.Lists.{All}

pub all_at : {A : Type 0} (P : A → Type 0) (xs : List A) (i : ℕ) (d : A) → i < length xs → All P xs → P (get_or xs i d)
all_at P [] i d l a = absurd (not-suc-le-zero l)
all_at P (x ∷ xs) zero d l a = a.0
all_at P (x ∷ xs) (suc i) d l a = all_at P xs i d (omega arith) a.1

all_from : {A : Type 0} (P : A → Type 0) (xs : List A) → ((i : ℕ) (d : A) → i < length xs → P (get_or xs i d)) → All P xs
all_from P [] f = tt
all_from P (x ∷ xs) f = (f 0 x (omega arith), all_from P xs (λ i d l. f (suc i) d (omega arith)))

-- what a test of all elements answers
pub answers_all : {A : Type 0} (P : A → Type 0) (xs : List A) (b : Bool) → MatchBool b (AllWithin P xs 0 (length xs)) ((k : ℕ) × (k < length xs) × HoldsAt (λ x. P x → ⊥) xs k) → Answers b (All P xs)
answers_all P xs true w = all_from P xs (λ i d l. w i d (omega arith) l)
answers_all {A} P xs false w = λ a. go xs w.0 w.1 a w.2
  where
    go : (ys : List A) (k : ℕ) → k < length ys → All P ys → HoldsAt (λ x. P x → ⊥) ys k → ⊥
    go [] k l a h = not-suc-le-zero l
    go (y ∷ ys) k l a h = h y (all_at P (y ∷ ys) k y l a)
