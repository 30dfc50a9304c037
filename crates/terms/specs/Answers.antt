-- What a yes and a no say. Assumes nothing.
use Rattle.std.specs.Prelude.{Bool, true, false}

-- true exactly when P holds
abbrev pub Answers : Bool → Type 0 → Type 0
Answers true P = P
Answers false P = P → ⊥
