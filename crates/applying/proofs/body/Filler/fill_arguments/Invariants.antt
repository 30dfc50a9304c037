use Rattle.std.proofs.Common.{◌≡◌, ℕ, ◌≤◌, map, length, take}
use Rattle.terms.specs.Lists.{All}
use Rattle.terms.specs.Primitives.{TermValid}
use Rattle.machine.specs.Matching.{fill}
use Rattle.lists.specs.Entries.{arguments_list}
use Rattle.applying.specs.Fillers.{Numbered, operand_at}
use Rattle.applying.proofs.body.Filler.fill_arguments.Given as goal

abbrev pub invariant-loop-term : goal.invariant-loop-term
invariant-loop-term g l = (n : ℕ) → Numbered l.self n → length l.terms ≤ 4 → All (TermValid n) l.terms → arguments_list l.arguments ≡ map (fill (operand_at g.P.PartnerTable l.self)) (take l.term-index l.terms)
