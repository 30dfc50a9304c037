use Rattle.theory.proofs.Answering.{asked}
use Rattle.theory.proofs.forest_theory.ForestTheory.ask.Goals as goal

pub returns-then-is_known_all : goal.returns-then-is_known_all
returns-then-is_known_all g c =
    asked g.C.Interpreted.truth g.C.Content.holds c.args.self.now c.args.p c.from.result
    _ c.count.ensures c.if-is_known_all.ensures c.from.ensures c.entails.result c.entails.ensures
