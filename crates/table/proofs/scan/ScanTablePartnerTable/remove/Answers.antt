use Rattle.std.proofs.Common.{vec_items, ◌∙◌}
use Rattle.table.proofs.Positions.{taken_some}
use Rattle.table.proofs.scan.ScanTablePartnerTable.remove.Goals as goal

pub returns : goal.returns
returns c = record {
  value = c.is_some.ensures ∙ taken_some (vec_items c.args.self.now.rows.items) _ c.args.identifier c.remove.result c.remove.ensures.place;
  after = c.remove.ensures.after;
}
