-- When the body of a rule can wait. Assumes nothing.
use Rattle.std.specs.Prelude.{ℕ, ◌+◌, ◌≤◌, length}
use Rattle.rules.specs.declared.Rule as code
use Rattle.rules.specs.Valids.{RuleValid}
use Rattle.rules.specs.Views.{rule_of}
use Rattle.rulefile.specs.declared.loaded.Rules.{Rules}
use Rattle.rulefile.specs.Rulebooks.{rules_book}
use Rattle.lists.specs.declared.lists.Lists.{Lists}
use Rattle.lists.specs.Views.{waiting_of}

-- the rule is valid for the argument counts, its fresh variables have numbers below 256, and no more than 512 items wait with its body
pub record BodyFits (l : Lists) (rules : Rules) (rule : code.Rule) (made : ℕ) : Type 0 where
  pub valid : RuleValid (rules_book rules).arities (rule_of rule)
  pub numbered : made + (rule_of rule).fresh ≤ 256
  pub room : length (waiting_of l) + length (rule_of rule).body ≤ 512
