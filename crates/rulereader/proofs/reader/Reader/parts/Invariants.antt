use Rattle.std.proofs.Common.{◌≡◌, ◌-◌, ◌≤◌, map, vec_items, vec_len, vec_capacity}
use Rattle.rules.specs.Parse.{many}
use Rattle.rulereader.specs.Reads.{ahead, run}
use Rattle.rulereader.proofs.Ahead.{Sofar}
use Rattle.rulereader.proofs.reader.Reader.parts.Given as goal

abbrev pub invariant-loop : goal.invariant-loop
invariant-loop g l =
    (l.self.src.now ≡ l.initial.self.src.now)
    × Sofar (g.P.Production.parser l.production) (run (many l.count (g.P.Production.parser l.production)) l.initial.self) (l.count - l.counter) (map g.P.Production.view (vec_items l.all)) l.self.pos (ahead l.self)
    × (vec_len l.all ≡ l.counter)
    × (l.count ≤ vec_capacity l.all)
