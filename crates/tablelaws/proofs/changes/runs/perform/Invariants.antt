use Rattle.std.proofs.Common.{◌≡◌, ◌&&◌, drop}
use Rattle.table.specs.Tables.{nothing}
use Rattle.tablelaws.specs.Changes.{changed_all, all_find_room}
use Rattle.tablelaws.proofs.changes.runs.perform.Given as goal

abbrev pub invariant-loop-change : goal.invariant-loop-change
invariant-loop-change g l =
    (changed_all g.P.PartnerTable.limit (drop l.change-index l.changes) (g.P.PartnerTable.records l.table) ≡ changed_all g.P.PartnerTable.limit l.changes nothing)
    × ((l.roomy && all_find_room g.P.PartnerTable.limit (drop l.change-index l.changes) (g.P.PartnerTable.records l.table)) ≡ all_find_room g.P.PartnerTable.limit l.changes nothing)
