-- Which rules are valid. Assumes nothing.
use Rattle.std.specs.Prelude.{◌≡◌, ℕ, ◌+◌, ◌<◌, ◌≤◌, List, length, slice_index}
use Rattle.terms.specs.declared.Term.{Term}
use Rattle.terms.specs.Lists.{All}
use Rattle.terms.specs.Primitives.{TermValid, PrimitiveValid}
use Rattle.rules.specs.Books.{Goal, tell, add, Rule, Book, heads, slot_count}

-- a primitive over n slots, or a declared symbol with as many arguments as it takes
abbrev pub GoalValid : List ℕ → ℕ → Goal Term → Type 0
GoalValid arities n (tell p) = PrimitiveValid n p
GoalValid arities n (add c ts) = (c < length arities) × (length ts ≡ slice_index arities c) × All (TermValid n) ts

-- guards see the slots of the heads, and body items those and the fresh variables
pub record RuleValid (arities : List ℕ) (r : Rule) : Type 0 where
  pub some_head : 1 ≤ length (heads r)
  pub few_heads : length (heads r) ≤ 3
  pub declared : All (λ c. c < length arities) (heads r)
  pub few_guards : length r.guards ≤ 4
  pub guards : All (PrimitiveValid (slot_count arities (heads r))) r.guards
  pub few_fresh : r.fresh ≤ 4
  pub few_items : length r.body ≤ 6
  pub body : All (GoalValid arities (slot_count arities (heads r) + r.fresh)) r.body

-- 1 to 32 symbols of at most 4 arguments, and at most 32 valid rules
pub record Valid (b : Book) : Type 0 where
  pub some_symbol : 1 ≤ length b.arities
  pub few_symbols : length b.arities ≤ 32
  pub few_arguments : All (λ n. n ≤ 4) b.arities
  pub few_rules : length b.rules ≤ 32
  pub rules : All (RuleValid b.arities) b.rules
