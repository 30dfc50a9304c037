use Rattle.std.proofs.Common.{sym, refl, arith}
use Rattle.classes.proofs.Links.{linked, rank_read}
use Rattle.classes.proofs.rows.link.Goals as goal

pub returns : goal.returns
returns g c =
    let rows = c.args.rows.now in
    let u = rank_read rows c.args.upper c.index-rows-upper.result c.requires.upper_in in
    linked g.C.Content.holds rows c.args.lower c.args.upper c.args.content c.requires _ _ refl
    (sym (rank_read rows c.args.lower c.index-rows-lower-2.result c.requires.lower_in)) refl (omega arith) c.max-rank.type_inv refl
