-- Two contents that hold one value, and the same.
use Rattle.std.proofs.Common.{◌≡◌, ℤ, ◌≤ℤ◌, arith}
use Rattle.std.proofs.lemmas.Int.{ints}

module _ {C : Type 0} (H : C → ℤ → Type 0) (low high : C → ℤ) (ends : (c : C) → H c (low c) × H c (high c)) (between : (c : C) (z : ℤ) → H c z → (low c ≤ℤ z) × (z ≤ℤ high c)) (a b : C) where
  pub one_value_by_ends : low a ≡ high b → high a ≡ low b → (y z : ℤ) → H a y → H b z → y ≡ z
  one_value_by_ends p q y z hy hz = let m = between a y hy in let n = between b z hz in omega (arith, ints)

  pub ends_of_one_value : ((y z : ℤ) → H a y → H b z → y ≡ z) → (low a ≡ high b) × (high a ≡ low b)
  ends_of_one_value one = (one (low a) (high b) (ends a).0 (ends b).1, one (high a) (low b) (ends a).1 (ends b).0)
