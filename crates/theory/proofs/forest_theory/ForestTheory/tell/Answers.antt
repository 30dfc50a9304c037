use Rattle.theory.proofs.Answering.{refused_not, told_failed, told_kept}
use Rattle.theory.proofs.forest_theory.ForestTheory.tell.Goals as goal

pub returns-in-Err : goal.returns-in-Err
returns-in-Err g c =
    absurd (refused_not g.C.Interpreted.truth g.C.Content.holds c.args.self.now c.args.p c.from.result
    _ c.count.ensures c.if-not-is_known_all.ensures c.from.ensures c.in-Err.ensures.0)

pub returns-in-Ok : goal.returns-in-Ok
returns-in-Ok g c =
    told_failed g.C.Interpreted.truth g.C.Content.holds c.args.self.now c.args.p c.from.result
    _ c.count.ensures c.if-not-is_known_all.ensures c.from.ensures c.restrict.new.forest c.in-Ok.ensures.1 c.if-failed.ensures

pub returns-in-Ok-2 : goal.returns-in-Ok-2
returns-in-Ok-2 g c =
    told_kept g.C.Interpreted.truth g.C.Content.holds c.args.self.now c.args.p c.from.result
    _ c.count.ensures c.if-not-is_known_all.ensures c.from.ensures c.restrict.new.forest c.in-Ok.ensures.1 c.if-failed.ensures
