-- What a sheet holds, what it is asked, and what it answers. Assumes nothing.
use Rattle.std.specs.Prelude.{ℕ, List, [], ◌∷◌, Result}
use Rattle.terms.specs.declared.Operand.{Operand}
use Rattle.terms.specs.declared.Primitive.{Primitive}
use Rattle.rules.specs.Books.{Goal, tell, add, Book}
use Rattle.machine.specs.declared.answers.Limit.{Limit}
use Rattle.machine.specs.declared.answers.End.{End}
use Rattle.machine.specs.declared.answers.VariableRefusal.{VariableRefusal}
use Rattle.machine.specs.declared.answers.PostRefusal.{PostRefusal}
use Rattle.machine.specs.Matching.{Firing}

-- what waits: a primitive to tell or a constraint to add, a constraint to wake, or a constraint that is active at one of its occurrences, which are numbered from 1
pub data Entry : Type 0 where
  goal : Goal Operand → Entry
  wake : ℕ → Entry
  active : ℕ → ℕ → Entry

-- the state of a sheet, over the states of a theory and of a table; the top of the waiting list stands first
pub record Config (A B : Type 0) : Type 0 where
  pub book : Book
  pub waiting : List Entry
  pub history : List Firing
  pub posted : List ℕ
  pub next : ℕ
  pub theory : A
  pub table : B

-- what a step answers: the last two are the rule's number with its tuple, and what is full
pub data StepAnswer : Type 0 where
  failed done told : StepAnswer
  activated woken dropped passed : ℕ → StepAnswer
  applied : ℕ → List ℕ → StepAnswer
  full : Limit → StepAnswer

-- what a sheet is asked: a posting is a kind, a symbol and operands, and a run has a number of steps
pub data Call : Type 0 where
  variable step : Call
  post : ℕ → ℕ → List Operand → Call
  run : ℕ → Call

-- what it answers: a run answers its end and the steps made
pub data Answer : Type 0 where
  by_variable : Result ℕ VariableRefusal → Answer
  by_post : Result (Unit {0}) PostRefusal → Answer
  by_step : StepAnswer → Answer
  by_run : End → ℕ → Answer

-- an accepted call: the variable that it made, or the goal that it posted
pub data Accepted : Type 0 where
  made_variable : ℕ → Accepted
  posted_goal : Goal Operand → Accepted

-- what happened: a call was accepted, or a step was made, with the primitive that it told, if it told one
pub data Event : Type 0 where
  took : Accepted → Event
  stepped : StepAnswer → List (Primitive Operand) → Event

-- the primitive on top of the waiting list
abbrev pub top_primitive : List Entry → List (Primitive Operand)
top_primitive [] = []
top_primitive (goal (tell p) ∷ es) = p ∷ []
top_primitive (goal (add c xs) ∷ es) = []
top_primitive (wake i ∷ es) = []
top_primitive (active i j ∷ es) = []

-- the primitive that a step told
abbrev pub telling : List Entry → StepAnswer → List (Primitive Operand)
telling w failed = []
telling w done = []
telling w told = top_primitive w
telling w (activated i) = []
telling w (woken i) = []
telling w (dropped i) = []
telling w (passed i) = []
telling w (applied k is) = []
telling w (full l) = []

-- the step changed the sheet
abbrev pub Progress : StepAnswer → Type 0
Progress failed = ⊥
Progress done = ⊥
Progress told = Unit {0}
Progress (activated i) = Unit {0}
Progress (woken i) = Unit {0}
Progress (dropped i) = Unit {0}
Progress (passed i) = Unit {0}
Progress (applied k is) = Unit {0}
Progress (full l) = ⊥
