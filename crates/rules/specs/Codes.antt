-- How a value is written as a number. Assumes nothing.
use Rattle.std.specs.Prelude.{ℕ, ◌+◌, ◌*◌, ◌/◌, ◌%◌, cond, ℤ, pos, negsuc, ◌==◌}

-- n is written as 2 × n, or as −2 × n − 1 when negative (negsuc m is −m − 1)
abbrev pub code_of : ℤ → ℕ
code_of (pos n) = 2 * n
code_of (negsuc m) = 2 * m + 1

-- the value that a number is the code of
abbrev pub value_of : ℕ → ℤ
value_of n = cond (n % 2 == 0) (pos (n / 2)) (negsuc (n / 2))
