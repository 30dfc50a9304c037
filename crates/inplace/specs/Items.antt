-- What a short list holds. Assumes nothing.
use Rattle.std.specs.Prelude.{ℕ, List, take}
use Rattle.inplace.specs.declared.InPlace.{InPlace}

-- the items, in their order
abbrev pub items : {T : Type 0} {n : ℕ} → InPlace T n → List T
items a = take a.filled a.places
