-- Which numbers are values. Assumes nothing.
use Rattle.std.specs.Prelude.{Bool, ◌&&◌, ℤ, pos, negsuc, ◌≤ℤ◌}
use Rattle.std.specs.Int.Signed.{le_z}

-- a value is a whole number from −1,000,000 to 1,000,000
abbrev pub IsValue : ℤ → Type 0
IsValue n = (negsuc 999_999 ≤ℤ n) × (n ≤ℤ pos 1_000_000)

-- the same as a test
abbrev pub is_value : ℤ → Bool
is_value n = le_z (negsuc 999_999) n && le_z n (pos 1_000_000)
