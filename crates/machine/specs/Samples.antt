-- Runs on two small rule files, written out step by step. Assumes nothing.
use Rattle.std.specs.Prelude.{◌≡◌, ℕ, ◌+◌, ◌≤◌, List, [], ◌∷◌, Ok}
use Rattle.rules.specs.Books.{add, Book}
use Rattle.theory.specs.declared.interface.Theory as Theory
use Rattle.table.specs.declared.partner.PartnerTable as PartnerTable
use Rattle.machine.specs.declared.answers.End.{End}
use Rattle.machine.specs.declared.answers.End.TheVariants as ended
use Rattle.machine.specs.Sheets.{Config, StepAnswer, activated, dropped, passed, applied, Answer, by_post, by_run, post, run, Event, stepped}
use Rattle.machine.specs.Refined.{Opened, Says}

-- the symbols a and b, numbered 0 and 1 and without arguments, and the rule: a kept, body b
abbrev pub kept_book : Book
kept_book = record { arities = 0 ∷ (0 ∷ []); rules = record { kept = 0 ∷ []; removed = []; guards = []; fresh = 0; body = add 1 [] ∷ [] } ∷ [] }

-- the symbol a, and the rule: a and a removed, body empty
abbrev pub pair_book : Book
pair_book = record { arities = 0 ∷ []; rules = record { kept = []; removed = 0 ∷ (0 ∷ []); guards = []; fresh = 0; body = [] } ∷ [] }

-- the steps so answered, which told nothing
abbrev pub silent : List StepAnswer → List Event
silent [] = []
silent (a ∷ more) = stepped a [] ∷ silent more

-- with the first rules and one a: it is added, the rule is applied, b is added and dropped, a is passed
abbrev pub five_steps : List StepAnswer
five_steps = activated 1 ∷ (applied 1 (1 ∷ []) ∷ (activated 2 ∷ (dropped 2 ∷ (passed 1 ∷ []))))

-- and dropped
abbrev pub six_steps : List StepAnswer
six_steps = activated 1 ∷ (applied 1 (1 ∷ []) ∷ (activated 2 ∷ (dropped 2 ∷ (passed 1 ∷ (dropped 1 ∷ [])))))

-- with the second rules and one a: it is added, passed at both heads, and dropped
abbrev pub one_alone : List StepAnswer
one_alone = activated 1 ∷ (passed 1 ∷ (passed 1 ∷ (dropped 1 ∷ [])))

-- and with two: the second is added, and the rule is applied
abbrev pub two_gone : List StepAnswer
two_gone = activated 1 ∷ (passed 1 ∷ (passed 1 ∷ (dropped 1 ∷ (activated 2 ∷ (applied 1 (1 ∷ (2 ∷ [])) ∷ [])))))

module _ {A B : Type 0} (T : Theory.Ghosts A) (P : PartnerTable.Ghosts B) where
  -- a was posted and accepted
  abbrev pub PostedA : Config A B → Config A B → Type 0
  PostedA s t = (es : List Event) × Says T P s (post 3 0 []) (by_post (Ok tt)) es t

  -- every run of k steps ends so, after so many steps, which are those
  abbrev pub Ends : Config A B → ℕ → End → ℕ → List StepAnswer → Type 0
  Ends s k e n steps = (a : Answer) (es : List Event) (t : Config A B) → Says T P s (run k) a es t → (a ≡ by_run e n) × (es ≡ silent steps)

  -- over any theory, and any table with room for two records: the first rules with one a, the second with one and with two
  pub record SampleRuns : Type 0 where
    pub stopped : 2 ≤ P.limit → (s t : Config A B) → Opened T P kept_book s → PostedA s t → Ends t 5 ended.Stopped 5 five_steps
    pub finished : 2 ≤ P.limit → (s t : Config A B) → Opened T P kept_book s → PostedA s t → (k : ℕ) → Ends t (6 + k) ended.Done 6 six_steps
    pub alone : 2 ≤ P.limit → (s t : Config A B) → Opened T P pair_book s → PostedA s t → (k : ℕ) → Ends t (4 + k) ended.Done 4 one_alone
    pub pair : 2 ≤ P.limit → (s t u : Config A B) → Opened T P pair_book s → PostedA s t → PostedA t u → (k : ℕ) → Ends u (6 + k) ended.Done 6 two_gone
