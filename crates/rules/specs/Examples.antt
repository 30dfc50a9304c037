-- Some values as bytes, and a number that is refused. Assumes nothing.
use Rattle.std.specs.Prelude.{◌≡◌, ℕ, List, [], ◌∷◌, pos, negsuc, Some}
use Rattle.rules.specs.Format.{value_bytes}
use Rattle.rules.specs.Parse.{refused, number}
use Rattle.rules.specs.Refusals.{refusal_number}
use Rattle.rules.specs.declared.LoadRefusal.TheVariants.{Malformed}

-- the values 0, −1, 64 and −64 are the bytes 0; 1; 128 1; 127
abbrev pub ValuesWritten : Type 0
ValuesWritten =
    (value_bytes (pos 0) ≡ 0 ∷ []) × (value_bytes (negsuc 0) ≡ 1 ∷ []) ×
    (value_bytes (pos 64) ≡ 128 ∷ 1 ∷ []) × (value_bytes (negsuc 63) ≡ 127 ∷ [])

-- wherever a number is due, the bytes 128 0 are refused with 4 at its place, whatever follows
abbrev pub LastZeroRefused : Type 0
LastZeroRefused = (k : ℕ) (s : List ℕ) → (number k (128 ∷ 0 ∷ s) ≡ refused (Malformed k)) × (refusal_number (Malformed k) ≡ Some 4)
