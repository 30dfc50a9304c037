use Rattle.std.proofs.Common.{◌≡◌, min, take}
use Rattle.rules.specs.Books.{slot_count}
use Rattle.rules.proofs.signature.Signature.slots.Given as goal

abbrev pub invariant-loop-symbol : goal.invariant-loop-symbol
invariant-loop-symbol l = l.slots ≡ min (slot_count l.self.arities.now (take l.symbol-index l.heads)) 255
