-- Records: a constraint's symbol and arguments, and which of them a table takes. Assumes nothing.
use Rattle.std.specs.Prelude.{ℕ, Bool, true, ◌&&◌, List, length, Some, None, Option, nat_le, nat_lt}
use Rattle.std.specs.List.{list_all}
use Rattle.terms.specs.declared.Operand.{Operand}
use Rattle.terms.specs.declared.Operand.TheVariants.{Value, Variable}
use Rattle.terms.specs.Values.{is_value}
use Rattle.table.specs.Lists.{nth}

-- a constraint with its arguments
pub record Record : Type 0 where
  pub symbol : ℕ
  pub arguments : List Operand

-- the record of a symbol and arguments
abbrev pub recorded : ℕ → List Operand → Record
recorded s xs = record { symbol = s; arguments = xs }

-- an operand that is a value or a variable; a number out of range is neither
abbrev pub fitting : Operand → Bool
fitting (Value v) = is_value v
fitting (Variable x) = true

-- the same of each operand
abbrev pub all_fitting : List Operand → Bool
all_fitting xs = list_all fitting xs

-- what a record under an identifier may be: an identifier from 1 to 1,000,000, a symbol from 0 to 31 and 0 to 4 operands
abbrev pub fit : ℕ → Record → Bool
fit i r = nat_le 1 i && (nat_le i 1000000 && (nat_lt r.symbol 32 && (nat_le (length r.arguments) 4 && all_fitting r.arguments)))

-- the symbol of a record, if there is a record
abbrev pub symbol_of : Option Record → Option ℕ
symbol_of None = None
symbol_of (Some r) = Some r.symbol

-- the argument of a record at a place, if there are both
abbrev pub argument_of : Option Record → ℕ → Option Operand
argument_of None k = None
argument_of (Some r) k = nth r.arguments k
