use Rattle.std.proofs.Common.{◌≡◌, ◌≢◌, ◌<◌, length, vec_items, ap, ◌∙◌, arith}
use Rattle.classes.specs.Rows.{parent_at, standing_at}
use Rattle.classes.proofs.Links.{parent_read, rises, up_root, at_root}
use Rattle.classes.proofs.forest.Forest.root.Goals as goal

pub loop-at-smaller : goal.loop-at-smaller
loop-at-smaller g c =
    let rows = vec_items c.args.self.now.rows in
    let at = c.loop-at.at in
    let l : at < length rows = c.loop-at.invariant.0 in
    let e = parent_read rows at c.index-in-loop-at.result.now l c.index-in-loop-at.ensures in
    let f = parent_read rows at c.index.result.now l c.index.ensures in
    let d = c.args.self.now.ok.1 at l in
    let n = c.args.self.now.ok.0 in
    let moves : parent_at rows at ≢ at = omega arith in
    let up = rises rows c.args.self.now.ok at l moves in
    let s = ap (standing_at rows) e in omega arith

pub loop-at-preserved : goal.loop-at-preserved
loop-at-preserved g c =
    let rows = vec_items c.args.self.now.rows in
    let l : c.loop-at.at < length rows = c.loop-at.invariant.0 in
    let e = parent_read rows c.loop-at.at c.index-in-loop-at.result.now l c.index-in-loop-at.ensures in
    let d = (c.args.self.now.ok.1 c.loop-at.at l).0 in
    (omega arith, up_root rows c.args.self.now.ok c.loop-at.at _ l e ∙ c.loop-at.invariant.1)

pub returns : goal.returns
returns g c =
    let rows = vec_items c.args.self.now.rows in
    let l : c.loop-at.at < length rows = c.loop-at.invariant.0 in
    let f = parent_read rows c.loop-at.at c.index.result.now l c.index.ensures in
    let top : parent_at rows c.loop-at.at ≡ c.loop-at.at = omega arith in
    (omega arith, at_root rows c.args.self.now.ok c.loop-at.at c.args.x l top c.loop-at.invariant.1)
