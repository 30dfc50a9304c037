-- Codes of values: each is undone by the other.
use Rattle.std.proofs.Common.{◌≡◌, ℕ, ◌+◌, ◌*◌, ◌/◌, ◌%◌, ◌≤◌, eqb, ℤ, pos, negsuc, ap, ◌∙◌, arith}
use Rattle.std.proofs.lemmas.Int.{ints}
use Rattle.std.proofs.lemmas.Bool.{cond-true, cond-false, cond_both, ne_eqb, eq-eqb, eqb-true, eqb-false}
use Rattle.terms.specs.Values.{IsValue}
use Rattle.rules.specs.Codes.{value_of, code_of}

pub code_value : (n : ℕ) → code_of (value_of n) ≡ n
code_value n = cond_both (eqb (n % 2) 0) (pos (n / 2)) (negsuc (n / 2)) (λ v. code_of v ≡ n)
    (λ t. let z = eqb-true (n % 2) 0 t in omega arith) (λ t. let z = eqb-false (n % 2) 0 t in omega arith)

pub value_code : (v : ℤ) → value_of (code_of v) ≡ v
value_code (pos n) =
    let z : 2 * n % 2 ≡ 0 = omega arith in
    let h : 2 * n / 2 ≡ n = omega arith in
    cond-true _ _ _ (eq-eqb _ 0 z) ∙ ap pos h
value_code (negsuc n) =
    let z : (2 * n + 1) % 2 ≡ 0 → ⊥ = omega arith in
    let h : (2 * n + 1) / 2 ≡ n = omega arith in
    cond-false _ _ _ (ne_eqb _ 0 z) ∙ ap negsuc h

-- codes up to 2,000,000 are those of the values
pub code_in_range : (n : ℕ) → n ≤ 2_000_000 → IsValue (value_of n)
code_in_range n h = cond_both (eqb (n % 2) 0) (pos (n / 2)) (negsuc (n / 2)) IsValue
    (λ t. let z = eqb-true (n % 2) 0 t in (omega (arith, ints), omega (arith, ints))) (λ t. let z = eqb-false (n % 2) 0 t in (omega (arith, ints), omega (arith, ints)))

pub value_in_range : (v : ℤ) → IsValue v → code_of v ≤ 2_000_000
value_in_range (pos n) h = omega (arith, ints, h.1)
value_in_range (negsuc n) h = omega (arith, ints, h.0)
