-- What tuples and answers of the code mean. Assumes nothing.
use Rattle.std.specs.Prelude.{ℕ, List}
use Rattle.inplace.specs.declared.InPlace.{InPlace}
use Rattle.inplace.specs.Items.{items}
use Rattle.machine.specs.declared.tuple.firing.Firing as code
use Rattle.machine.specs.declared.answers.Step.{Step}
use Rattle.machine.specs.declared.answers.Step.TheVariants as step
use Rattle.machine.specs.Matching.{Firing}
use Rattle.machine.specs.Sheets as sheet

-- the identifiers of a tuple
abbrev pub ids : InPlace ℕ 3 → List ℕ
ids t = items t

-- a rule with its tuple
abbrev pub firing_of : code.Firing → Firing
firing_of f = (f.rule, ids f.tuple)

-- what each answer of a step says
abbrev pub step_answer : Step → sheet.StepAnswer
step_answer step.Failed = sheet.failed
step_answer step.Done = sheet.done
step_answer step.Told = sheet.told
step_answer (step.Activated i) = sheet.activated i
step_answer (step.Woken i) = sheet.woken i
step_answer (step.Dropped i) = sheet.dropped i
step_answer (step.Passed i) = sheet.passed i
step_answer (step.Applied k t) = sheet.applied k (ids t)
step_answer (step.Full l) = sheet.full l
