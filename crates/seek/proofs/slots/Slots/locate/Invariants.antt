use Rattle.std.proofs.Common.{◌≡◌, drop}
use Rattle.rulefile.specs.Rulebooks.{rules_book}
use Rattle.seek.specs.Slots.{located}
use Rattle.seek.proofs.Located.{shifted}
use Rattle.seek.proofs.slots.Slots.locate.Given as goal

abbrev pub invariant-loop-place : goal.invariant-loop-place
invariant-loop-place g l = shifted l.place (located (rules_book l.self.rules.now).arities (drop l.place l.self.heads.now) l.left) ≡ located (rules_book l.self.rules.now).arities l.self.heads.now l.slot
