use Rattle.std.proofs.Common.{sym, ◌∙◌}
use Rattle.table.specs.Looks.{size_look}
use Rattle.table.proofs.rows.Rows.count.Goals as goal

pub returns : goal.returns
returns c = c.len.ensures ∙ c.args.self.now.items.ok.0 ∙ sym (size_look _ c.args.self.now.ok.0)
