-- The two contents: a range, and a number or nothing. Assumes nothing.
use Rattle.std.specs.Prelude.{◌≡◌, ℤ, pos, negsuc, ◌≤ℤ◌, Some, None, Option}
use Rattle.terms.specs.Values.{IsValue}
use Rattle.contents.specs.declared.ends.Ends.{Ends}
use Rattle.contents.specs.declared.number.Number.{Number}

-- a range holds what lies between its ends
abbrev pub EndsHold : Ends → ℤ → Type 0
EndsHold e z = (e.least ≤ℤ z) × (z ≤ℤ e.greatest)

-- a number holds itself, and nothing said holds every value
abbrev pub NameHold : Option Number → ℤ → Type 0
NameHold (Some n) z = z ≡ n.value
NameHold None z = IsValue z

-- the least that it holds
abbrev pub name_low : Option Number → ℤ
name_low (Some n) = n.value
name_low None = negsuc 999_999

-- the greatest that it holds
abbrev pub name_high : Option Number → ℤ
name_high (Some n) = n.value
name_high None = pos 1_000_000
