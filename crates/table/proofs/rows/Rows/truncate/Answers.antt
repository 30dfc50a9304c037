use Rattle.std.proofs.Common.{vec_items, ap, ◌∙◌, arith}
use Rattle.table.specs.Rows.{lawful}
use Rattle.table.specs.Looks.{lawful_take}
use Rattle.table.proofs.rows.Rows.truncate.Goals as goal

pub invariant_of-self : goal.invariant_of-self
invariant_of-self c =
    let rows = c.args.self.now in
    record {
      ok = (
        ap lawful c.truncate.ensures.items ∙ lawful_take (vec_items rows.items) c.args.count rows.ok.0,
        omega (arith, c.truncate.ensures.len, rows.ok),
        omega (arith, c.truncate.ensures.capacity, rows.ok),
      );
    }
