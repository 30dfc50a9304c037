use Rattle.std.proofs.Common.{◌&&◌, sym, ap, ◌∙◌}
use Rattle.std.proofs.lemmas.Bool.{and_parts}
use Rattle.table.specs.Tables.{nothing}
use Rattle.tablelaws.specs.Changes.{all_find_room}
use Rattle.tablelaws.proofs.Changing.{nexts_alike}
use Rattle.tablelaws.proofs.changes.runs.alike.Goals as goal

pub returns : goal.returns
returns g c =
    let l = g.P.PartnerTable.limit in
    let m = g.Q.PartnerTable.limit in
    let cs = c.args.changes.now in
    let in_one = c.perform-in_one.ensures in
    let in_other = c.perform-in_other.ensures in
    record {
      value = ap (λ b. b && c.perform-in_other.result) in_one.value ∙ ap (λ b. all_find_room l cs nothing && b) in_other.value;
      one = in_one.after;
      other = in_other.after;
      nexts = λ h.
          let both = and_parts c.perform-in_one.result c.perform-in_other.result h in
          nexts_alike l m cs (g.P.PartnerTable.records c.perform-in_one.new.table) (g.Q.PartnerTable.records c.perform-in_other.new.table) in_one.after in_other.after (sym in_one.value ∙ both.0) (sym in_other.value ∙ both.1);
    }
