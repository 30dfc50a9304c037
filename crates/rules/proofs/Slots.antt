-- How many slots heads have.
use Rattle.std.proofs.Common.{◌≡◌, ℕ, zero, suc, ◌+◌, ◌*◌, ◌≤◌, List, [], ◌∷◌, ◌++◌, length, get_or, arith}
use Rattle.terms.specs.Lists.{All}
use Rattle.rules.specs.Books.{slot_count}

pub few_each : (arities : List ℕ) → All (λ n. n ≤ 4) arities → (c : ℕ) → get_or arities c 0 ≤ 4
few_each [] v c = omega arith
few_each (a ∷ rest) v zero = v.0
few_each (a ∷ rest) v (suc c) = few_each rest v.1 c

pub few_slots : (arities : List ℕ) → ((c : ℕ) → get_or arities c 0 ≤ 4) → (cs : List ℕ) → slot_count arities cs ≤ 4 * length cs
few_slots arities v [] = omega arith
few_slots arities v (c ∷ cs) = let a = v c in let r = few_slots arities v cs in omega arith

pub slot_count_push : (arities cs : List ℕ) (c : ℕ) → slot_count arities (cs ++ c ∷ []) ≡ slot_count arities cs + get_or arities c 0
slot_count_push arities [] c = omega arith
slot_count_push arities (x ∷ cs) c = let r = slot_count_push arities cs c in omega arith
