use Rattle.std.proofs.Common.{◌≡◌, take}
use Rattle.table.specs.Tables.{without}
use Rattle.applying.proofs.changes.remove_all.Given as goal

abbrev pub invariant-loop-identifier : goal.invariant-loop-identifier
invariant-loop-identifier g l = g.P.PartnerTable.records l.table ≡ without (g.P.PartnerTable.records l.initial.table) (take l.identifier-index l.gone)
