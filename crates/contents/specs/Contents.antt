-- What a content holds. Assumes nothing.
use Rattle.std.specs.Prelude.{◌↔◌, ℤ, Some, None, Option}
use Rattle.terms.specs.Values.{IsValue}

-- an optional content: no content holds nothing
abbrev pub HeldIn : {C : Type 0} → (C → ℤ → Type 0) → Option C → ℤ → Type 0
HeldIn H (Some c) z = H c z
HeldIn H None z = ⊥

-- it holds exactly the values that P is true of
abbrev pub Holding : {C : Type 0} → (C → ℤ → Type 0) → (ℤ → Type 0) → Option C → Type 0
Holding H P r = (z : ℤ) → IsValue z → HeldIn H r z ↔ P z
