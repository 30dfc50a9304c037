-- The rules of a valid book, by number. Assumes nothing.
use Rattle.std.proofs.Common.{ℕ, ◌-◌, sym, subst, arith}
use Rattle.rules.specs.Books.{Rule, Book}
use Rattle.rules.specs.Valids.{Valid, RuleValid}
use Rattle.machine.specs.Matching.{no_rule}
use Rattle.seek.specs.Places.{RuleIs}
use Rattle.seek.proofs.Lasting.{all_at}

-- a rule of a valid book is valid
pub valid_rule : (b : Book) → Valid b → (k : ℕ) (r : Rule) → RuleIs b k r → RuleValid b.arities r
valid_rule b v k r e = subst (RuleValid b.arities) (sym e.is) (all_at (RuleValid b.arities) b.rules (k - 1) no_rule (omega (arith, e.range.low, e.range.high)) v.rules)
