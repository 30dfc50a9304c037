-- The number of each refusal of a sheet. Assumes nothing.
use Rattle.std.specs.Prelude.{ℕ}
use Rattle.machine.specs.declared.answers.VariableRefusal.{VariableRefusal}
use Rattle.machine.specs.declared.answers.VariableRefusal.TheVariants.{AtCapacity}
use Rattle.machine.specs.declared.answers.PostRefusal.{PostRefusal}
use Rattle.machine.specs.declared.answers.PostRefusal.TheVariants.{TheoryFailed, NoSuchKind, NoSuchSymbol, WrongCount, WrongOperand, TooMany}

-- why no variable was made: 21, as many are made as can be
abbrev pub variable_refusal_number : VariableRefusal → ℕ
variable_refusal_number AtCapacity = 21

-- why a posting was not accepted: 11, the theory has failed; 12, the kind is above 3; 13, the symbol is not declared; 14, a wrong number of operands; 15, an operand that is no value and no posted variable, or no value second in least or most; 16, 512 items wait
abbrev pub post_refusal_number : PostRefusal → ℕ
post_refusal_number TheoryFailed = 11
post_refusal_number NoSuchKind = 12
post_refusal_number NoSuchSymbol = 13
post_refusal_number WrongCount = 14
post_refusal_number WrongOperand = 15
post_refusal_number TooMany = 16
