-- What a forest of classes allows: its rows, and a flag that it has failed. Assumes nothing.
use Rattle.std.specs.Prelude.{◌≡◌, ℕ, ◌+◌, ◌<◌, ◌≤◌, true, false, ◌↔◌, ℤ, ◌≤ℤ◌, Some, None, vec_items, vec_len, Option, Result, Ok, Err}
use Rattle.classes.specs.declared.forest.Forest.{Forest}
use Rattle.classes.specs.Rows.{RootSays, Admits, Valued, Contained}

-- how many variables are made
abbrev pub made_in : {C : Type 0} → Forest C → ℕ
made_in f = vec_len f.rows

-- the valuations that are left
abbrev pub Allows : {C : Type 0} → (C → ℤ → Type 0) → Forest C → (ℕ → ℤ) → Type 0
Allows H f v = (f.failed ≡ false) × Admits H (vec_items f.rows) v

-- none is left
abbrev pub Barren : {C : Type 0} → (C → ℤ → Type 0) → Forest C → Type 0
Barren H f = (v : ℕ → ℤ) → Allows H f v → ⊥

-- no variable is made, and every valuation is left
pub record Fresh {C : Type 0} (H : C → ℤ → Type 0) (f : Forest C) : Type 0 where
  pub size : made_in f ≡ 0
  pub allows : (v : ℕ → ℤ) → Allows H f v ↔ Valued v

-- one variable more, x, and the valuations as they were
pub record Grown {C : Type 0} (H : C → ℤ → Type 0) (f : Forest C) (x : ℕ) (g : Forest C) : Type 0 where
  pub next : x ≡ made_in f
  pub room : made_in f < 256
  pub size : made_in g ≡ made_in f + 1
  pub allows : (v : ℕ → ℤ) → Allows H g v ↔ Allows H f v

-- what making a variable answers: none, and no change, when 256 are made
abbrev pub Grows : {C : Type 0} → (C → ℤ → Type 0) → Forest C → Option ℕ → Forest C → Type 0
Grows H f (Some x) g = Grown H f x g
Grows H f None g = (made_in f ≡ 256) × (g ≡ f)

-- g allows exactly the valuations of f in which P holds
pub record Narrowed {C : Type 0} (H : C → ℤ → Type 0) (f : Forest C) (P : (ℕ → ℤ) → Type 0) (g : Forest C) : Type 0 where
  pub size : made_in g ≡ made_in f
  pub allows : (v : ℕ → ℤ) → Allows H g v ↔ (Allows H f v × P v)

-- what narrowing answers: whether all that is spoken of is made; otherwise nothing changes
abbrev pub Narrows : {A E C : Type 0} → (C → ℤ → Type 0) → Forest C → Type 0 → ((ℕ → ℤ) → Type 0) → Result A E → Forest C → Type 0
Narrows H f made P (Ok _) g = made × Narrowed H f P g
Narrows H f made P (Err _) g = (made → ⊥) × (g ≡ f)

-- a forest that has failed keeps the rows that were there
abbrev pub KeepsRows : {C : Type 0} → Forest C → Forest C → Type 0
KeepsRows f g = g.failed ≡ true → g.rows ≡ f.rows

-- whether a variable is made, or a refusal
abbrev pub MadeSays : {A E C : Type 0} → Forest C → ℕ → Result A E → Type 0
MadeSays f x (Ok _) = x < made_in f
MadeSays f x (Err _) = made_in f ≤ x

-- the root of a made variable's class, or a refusal
abbrev pub RootFound : {C E : Type 0} → Forest C → ℕ → Result ℕ E → Type 0
RootFound f x (Ok r) = (x < made_in f) × RootSays (vec_items f.rows) x r
RootFound f x (Err _) = made_in f ≤ x

-- what a made variable's class holds, or a refusal
abbrev pub HeldSays : {C E : Type 0} → (C → ℤ → Type 0) → Forest C → ℕ → Result C E → Type 0
HeldSays H f x (Ok c) = (x < made_in f) × Contained H (vec_items f.rows) x c
HeldSays H f x (Err _) = made_in f ≤ x

-- P holds in every valuation that is left
abbrev pub Throughout : {C : Type 0} → (C → ℤ → Type 0) → Forest C → ((ℕ → ℤ) → Type 0) → Type 0
Throughout H f P = (v : ℕ → ℤ) → Allows H f v → P v

-- z is the value of x in a valuation that is left
abbrev pub Reached : {C : Type 0} → (C → ℤ → Type 0) → Forest C → ℕ → ℤ → Type 0
Reached H f x z = (v : ℕ → ℤ) × Allows H f v × (v x ≡ z)

-- c holds exactly the values that a made variable has in the valuations that are left
pub record RangeIs {C : Type 0} (H : C → ℤ → Type 0) (f : Forest C) (x : ℕ) (c : C) : Type 0 where
  pub within : x < made_in f
  pub held : Throughout H f (λ v. H c (v x))
  pub reached : (z : ℤ) → H c z → Reached H f x z

-- what a variable can be, or none where x is not made or no valuation is left
abbrev pub RangeSays : {C : Type 0} → (C → ℤ → Type 0) → Forest C → ℕ → Option C → Type 0
RangeSays H f x (Some c) = RangeIs H f x c
RangeSays H f x None = x < made_in f → Barren H f

-- z is the least value of a made variable
pub record LeastIs {C : Type 0} (H : C → ℤ → Type 0) (f : Forest C) (x : ℕ) (z : ℤ) : Type 0 where
  pub within : x < made_in f
  pub reached : Reached H f x z
  pub bound : Throughout H f (λ v. z ≤ℤ v x)

-- the least value, or none where x is not made or no valuation is left
abbrev pub LeastSays : {C : Type 0} → (C → ℤ → Type 0) → Forest C → ℕ → Option ℤ → Type 0
LeastSays H f x (Some z) = LeastIs H f x z
LeastSays H f x None = x < made_in f → Barren H f

-- z is the greatest value of a made variable
pub record GreatestIs {C : Type 0} (H : C → ℤ → Type 0) (f : Forest C) (x : ℕ) (z : ℤ) : Type 0 where
  pub within : x < made_in f
  pub reached : Reached H f x z
  pub bound : Throughout H f (λ v. v x ≤ℤ z)

-- the greatest value, or none where x is not made or no valuation is left
abbrev pub GreatestSays : {C : Type 0} → (C → ℤ → Type 0) → Forest C → ℕ → Option ℤ → Type 0
GreatestSays H f x (Some z) = GreatestIs H f x z
GreatestSays H f x None = x < made_in f → Barren H f

-- a made variable with one value
abbrev pub OneValue : {C : Type 0} → (C → ℤ → Type 0) → Forest C → ℕ → Type 0
OneValue H f x = (x < made_in f) × ((v w : ℕ → ℤ) → Allows H f v → Allows H f w → v x ≡ w x)
