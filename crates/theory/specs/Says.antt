-- What a theory answers. Assumes nothing.
use Rattle.std.specs.Prelude.{◌≡◌, ℕ, ◌<◌, ℤ, ◌≤ℤ◌, Some, None, Option}
use Rattle.terms.specs.declared.Operand.{Operand}
use Rattle.terms.specs.declared.Primitive.{Primitive}
use Rattle.terms.specs.Domains.{Domain, Valuation}
use Rattle.theory.specs.declared.told.Told.{Told as Answer}
use Rattle.theory.specs.declared.told.Told.TheVariants as told
use Rattle.theory.specs.Meanings.{Meaning, KnownAll, Failed, SameMeaning, Told, Made}

module _ {d : Domain} where
  -- make: the next number, or a refusal exactly at capacity
  abbrev pub MakeSays : ℕ → Meaning d → Option ℕ → Meaning d → Type 0
  MakeSays capacity m (Some x) n = (x ≡ m.made) × (m.made < capacity) × Made m 1 n
  MakeSays capacity m None n = (m.made ≡ capacity) × SameMeaning m n

  -- tell: kept when something is left, failed when nothing is, unknown exactly when something told is not known
  abbrev pub TellSays : Meaning d → Primitive Operand → Answer → Meaning d → Type 0
  TellSays m p told.Kept n = KnownAll m.made p × Told m p n × (Failed n → ⊥)
  TellSays m p told.Failed n = KnownAll m.made p × Told m p n × Failed n
  TellSays m p told.Unknown n = (KnownAll m.made p → ⊥) × Told m p n

  -- the number z is what a variable stands for in an admitted valuation
  abbrev pub Reaches : Meaning d → ℕ → ℤ → Type 0
  Reaches m x z = (v : Valuation d) × m.admits v × (v x ≡ d.number z)

  -- in every admitted valuation a variable stands for a number, and that has P
  abbrev pub Ranges : Meaning d → ℕ → (ℤ → Type 0) → Type 0
  Ranges m x P = (v : Valuation d) → m.admits v → (z : ℤ) × (v x ≡ d.number z) × P z

  -- the least admitted value of a made variable; none when it is not made or nothing is admitted
  abbrev pub LeastSays : Meaning d → ℕ → Option ℤ → Type 0
  LeastSays m x (Some n) = (x < m.made) × Reaches m x n × Ranges m x (λ z. n ≤ℤ z)
  LeastSays m x None = x < m.made → Failed m

  -- the greatest admitted value of a made variable; none when it is not made or nothing is admitted
  abbrev pub GreatestSays : Meaning d → ℕ → Option ℤ → Type 0
  GreatestSays m x (Some n) = (x < m.made) × Reaches m x n × Ranges m x (λ z. z ≤ℤ n)
  GreatestSays m x None = x < m.made → Failed m
