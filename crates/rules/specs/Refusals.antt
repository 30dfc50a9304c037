-- The number and the place of each refusal of a file. Assumes nothing.
use Rattle.std.specs.Prelude.{ℕ, List, ◌++◌, Some, None, codes, decimal, Option}
use Rattle.rules.specs.declared.LoadRefusal.{LoadRefusal}
use Rattle.rules.specs.declared.LoadRefusal.TheVariants.{TooLong, Foreign, Ended, Malformed, OutOfRange, Absent, Trailing, NoMemory}

abbrev pub refusal_number : LoadRefusal → Option ℕ
refusal_number TooLong = Some 1
refusal_number Foreign = Some 2
refusal_number (Ended k) = Some 3
refusal_number (Malformed k) = Some 4
refusal_number (OutOfRange k) = Some 5
refusal_number (Absent k) = Some 6
refusal_number (Trailing k) = Some 7
refusal_number NoMemory = None

abbrev pub refusal_place : LoadRefusal → Option ℕ
refusal_place TooLong = Some 0
refusal_place Foreign = Some 0
refusal_place (Ended k) = Some k
refusal_place (Malformed k) = Some k
refusal_place (OutOfRange k) = Some k
refusal_place (Absent k) = Some k
refusal_place (Trailing k) = Some k
refusal_place NoMemory = None

-- the number and the place as text
abbrev pub pair_text : Option ℕ → Option ℕ → List ℕ
pair_text None k = codes "no memory"
pair_text (Some n) None = codes "no memory"
pair_text (Some n) (Some k) = decimal n ++ (codes " " ++ decimal k)

abbrev pub refusal_text : LoadRefusal → List ℕ
refusal_text e = pair_text (refusal_number e) (refusal_place e)
