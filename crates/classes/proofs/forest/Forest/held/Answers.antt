use Rattle.std.proofs.Common.{vec_items}
use Rattle.classes.proofs.Reaches.{contained}
use Rattle.classes.proofs.Stores.{has_row}
use Rattle.classes.proofs.forest.Forest.held.Goals as goal

pub returns : goal.returns
returns g c =
    let laws = g.met.C.Content in
    let f = c.args.self.now in
    let found = c.in_ok-root.ensures in (
      found.0,
      contained g.C.Content.holds g.C.Content.low (λ x. (laws.ends x).0) laws.proper (vec_items f.rows) f.ok
          c.args.x c.in_ok-root.root c.index.result.now (has_row f c.args.x found.0) found.1 c.index.ensures,
    )
