-- What a theory means. Assumes nothing.
use Rattle.std.specs.Prelude.{◌≡◌, ℕ, ◌+◌, ◌<◌, ◌≤◌, ◌↔◌}
use Rattle.terms.specs.declared.Operand.{Operand}
use Rattle.terms.specs.declared.Operand.TheVariants.{Value, Variable}
use Rattle.terms.specs.declared.Primitive.{Primitive}
use Rattle.terms.specs.Values.{IsValue}
use Rattle.terms.specs.Primitives.{EachPart}
use Rattle.terms.specs.Domains.{Domain, Valuation, Sensible, TrueIn}

-- how many variables are made, and which valuations are admitted
pub record Meaning (d : Domain) : Type 1 where
  pub made : ℕ
  pub admits : Valuation d → Type 0

-- a value, or a variable that is made
abbrev pub Known : ℕ → Operand → Type 0
Known made (Value n) = IsValue n
Known made (Variable x) = x < made

-- every operand of the primitive is known, and its number is a value
abbrev pub KnownAll : ℕ → Primitive Operand → Type 0
KnownAll made = EachPart (Known made) IsValue

module _ {d : Domain} where
  -- true in every admitted valuation
  abbrev pub Entails : Meaning d → Primitive Operand → Type 0
  Entails m p = (v : Valuation d) → m.admits v → TrueIn d v p

  -- known, and true in every admitted valuation
  abbrev pub Follows : Meaning d → Primitive Operand → Type 0
  Follows m p = KnownAll m.made p × Entails m p

  -- no valuation is admitted
  abbrev pub Failed : Meaning d → Type 0
  Failed m = (v : Valuation d) → m.admits v → ⊥

  -- a made variable on which no two admitted valuations differ
  abbrev pub Fixed : Meaning d → ℕ → Type 0
  Fixed m x = (x < m.made) × ((v w : Valuation d) → m.admits v → m.admits w → v x ≡ w x)

  -- the same variables, and the same valuations
  abbrev pub SameMeaning : Meaning d → Meaning d → Type 0
  SameMeaning m n = (n.made ≡ m.made) × ((v : Valuation d) → n.admits v ↔ m.admits v)

  -- after p was told; a primitive that is not known alters nothing
  abbrev pub Told : Meaning d → Primitive Operand → Meaning d → Type 0
  Told m p n = (n.made ≡ m.made) × (KnownAll m.made p → (v : Valuation d) → n.admits v ↔ (m.admits v × TrueIn d v p)) × ((KnownAll m.made p → ⊥) → (v : Valuation d) → n.admits v ↔ m.admits v)

  -- after k variables were made
  abbrev pub Made : Meaning d → ℕ → Meaning d → Type 0
  Made m k n = (n.made ≡ m.made + k) × ((v : Valuation d) → n.admits v ↔ m.admits v)

  -- no variable made, and every valuation admitted that gives each variable something proper
  abbrev pub Clear : Meaning d → Type 0
  Clear m = (m.made ≡ 0) × ((v : Valuation d) → m.admits v ↔ Sensible d v)

-- what holds of every state of a theory
pub record Lawful {S : Type 0} {d : Domain} (means : S → Meaning d) (capacity : ℕ) : Type 0 where
  pub some : 1 ≤ capacity
  pub small : capacity ≤ 256
  pub within : (s : S) → (means s).made ≤ capacity
  pub sensible : (s : S) (v : Valuation d) → (means s).admits v → Sensible d v
  pub local : (s : S) (v w : Valuation d) → ((x : ℕ) → x < (means s).made → v x ≡ w x) → Sensible d w → (means s).admits v → (means s).admits w
