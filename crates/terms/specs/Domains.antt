-- What variables stand for, and when a primitive is true of that. Assumes nothing.
use Rattle.std.specs.Prelude.{◌≡◌, ◌↔◌, ℕ, ℤ}
use Rattle.terms.specs.declared.Operand.{Operand}
use Rattle.terms.specs.declared.Operand.TheVariants.{Value, Variable}
use Rattle.terms.specs.declared.Primitive.{Primitive}
use Rattle.terms.specs.declared.Primitive.TheVariants.{Same}
use Rattle.terms.specs.Values.{IsValue}
use Rattle.terms.specs.Primitives.{map_primitive}

-- what variables stand for (of which the values are some, each another), and when a primitive is true of such; same is equality
pub record Domain : Type 1 where
  pub Worth : Type 0
  pub Proper : Worth → Type 0
  pub number : ℤ → Worth
  pub True : Primitive Worth → Type 0
  pub proper : (n : ℤ) → IsValue n → Proper (number n)
  pub apart : (m n : ℤ) → number m ≡ number n → m ≡ n
  pub same : (a b : Worth) → True (Same a b) ↔ (a ≡ b)
  pub decided : (p : Primitive Worth) → Dec (True p)

module _ (d : Domain) where
  -- a valuation says what every variable stands for
  abbrev pub Valuation : Type 0
  Valuation = ℕ → d.Worth

  -- every variable stands for something proper
  abbrev pub Sensible : Valuation → Type 0
  Sensible v = (x : ℕ) → d.Proper (v x)

  -- what an operand stands for
  abbrev pub worth : Valuation → Operand → d.Worth
  worth v (Value n) = d.number n
  worth v (Variable x) = v x

  -- the primitive is true in the valuation
  abbrev pub TrueIn : Valuation → Primitive Operand → Type 0
  TrueIn v p = d.True (map_primitive (worth v) p)
