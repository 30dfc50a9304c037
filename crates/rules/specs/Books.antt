-- What rules are, without the memory that holds them. Assumes nothing.
use Rattle.std.specs.Prelude.{ℕ, ◌+◌, List, [], ◌∷◌, ◌++◌, slice_index}
use Rattle.terms.specs.declared.Primitive.{Primitive}
use Rattle.terms.specs.declared.Term.{Term}

-- a primitive to tell, or a constraint to add: its symbol and its arguments
pub data Goal (A : Type 0) : Type 0 where
  tell : Primitive A → Goal A
  add : ℕ → List A → Goal A

-- the symbols of the kept heads, those of the removed heads, the guards, the number of fresh variables, and the body
pub record Rule : Type 0 where
  pub kept : List ℕ
  pub removed : List ℕ
  pub guards : List (Primitive Term)
  pub fresh : ℕ
  pub body : List (Goal Term)

-- what a rule file says: the argument count of each symbol, and the rules
pub record Book : Type 0 where
  pub arities : List ℕ
  pub rules : List Rule

-- all heads, kept ones first
abbrev pub heads : Rule → List ℕ
heads r = r.kept ++ r.removed

-- how many slots heads have together: as many as their symbols have arguments
abbrev pub slot_count : List ℕ → List ℕ → ℕ
slot_count arities [] = 0
slot_count arities (c ∷ cs) = slice_index arities c + slot_count arities cs
