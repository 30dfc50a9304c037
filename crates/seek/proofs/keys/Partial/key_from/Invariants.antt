use Rattle.std.proofs.Common.{◌≡◌, drop}
use Rattle.machine.specs.Keys.{key_from}
use Rattle.seek.specs.Fillings.{known_in}
use Rattle.seek.proofs.keys.Partial.key_from.Given as goal

abbrev pub invariant-loop-guard : goal.invariant-loop-guard
invariant-loop-guard g l = key_from (known_in g.P.PartnerTable l.self) l.slot (drop l.guard-index l.guards) ≡ key_from (known_in g.P.PartnerTable l.self) l.slot l.guards
