use Rattle.std.proofs.Common.{◌≡◌, ◌+◌, ◌*◌, ◌≤◌, take}
use Rattle.std.specs.Fmt.{IsPlainFormatter, HasWritten}
use Rattle.rules.specs.Books.{slot_count}
use Rattle.listing.specs.Texts.{heads_text}
use Rattle.listing.proofs.rule.HeadsDisplay.fmt.Given as goal

abbrev pub invariant-loop-i : goal.invariant-loop-i
invariant-loop-i g l =
    (l.slot ≡ l.self.first + slot_count l.self.signature.arities.now (take l.i l.self.symbols.now))
    × (l.slot ≤ 12 + 4 * l.i)
    × (IsPlainFormatter l.initial.f → HasWritten g.W.Write.write_str_gives l.initial.f (heads_text l.self.signature.arities.now l.self.first (take l.i l.self.symbols.now)) l.f)
