-- What stands from the opening on and after every call. Assumes nothing.
use Rattle.std.specs.Prelude.{◌≡◌, ℕ, ◌+◌, ◌<◌, ◌≤◌, true, ◌↔◌, List, [], ◌∷◌, ◌++◌, map, length, Some}
use Rattle.terms.specs.declared.Operand.{Operand}
use Rattle.terms.specs.declared.Primitive.{Primitive}
use Rattle.terms.specs.Lists.{All}
use Rattle.terms.specs.Domains.{Valuation, Sensible, TrueIn}
use Rattle.rules.specs.Books.{Goal, add, Book}
use Rattle.rules.specs.Valids.{Valid}
use Rattle.theory.specs.declared.interface.Theory as Theory
use Rattle.theory.specs.Meanings.{Failed, Fixed, Follows, Told, Made, SameMeaning}
use Rattle.table.specs.declared.partner.PartnerTable as PartnerTable
use Rattle.table.specs.Records.{Record, recorded, fit}
use Rattle.table.specs.Tables.{size, with_record, without}
use Rattle.machine.specs.declared.answers.Limit.{Limit}
use Rattle.machine.specs.declared.answers.End.{End}
use Rattle.machine.specs.declared.answers.End.TheVariants as ended
use Rattle.machine.specs.Lists.{◌∈◌, Distinct}
use Rattle.machine.specs.Matching.{Firing, Applies, rule_at}
use Rattle.machine.specs.Sheets.{goal, Config, StepAnswer, failed, done, told, activated, woken, dropped, passed, applied, full, Call, run, Answer, by_run, Accepted, made_variable, posted_goal, Event, took, stepped, Progress}
use Rattle.machine.specs.Refined.{meaning, living, Stands, StepSays, RunSays, Opened, Says, Plays}
use Rattle.machine.specs.Abstract.{State, Reaches, Shows, pending_of}
use Rattle.machine.specs.Readings.{Reading, Obeys, GoalHolds, RecordHolds}

-- the accepted calls, in order
abbrev pub accepted : List Event → List Accepted
accepted [] = []
accepted (took a ∷ es) = a ∷ accepted es
accepted (stepped a ps ∷ es) = accepted es

-- the goals that were posted
abbrev pub postings : List Accepted → List (Goal Operand)
postings [] = []
postings (made_variable x ∷ as') = postings as'
postings (posted_goal g ∷ as') = g ∷ postings as'

-- the variables that were made for the caller
abbrev pub variables_of : List Accepted → List ℕ
variables_of [] = []
variables_of (made_variable x ∷ as') = x ∷ variables_of as'
variables_of (posted_goal g ∷ as') = variables_of as'

-- the rule and the tuple, where a step applied one
abbrev pub fired : StepAnswer → List Firing
fired failed = []
fired done = []
fired told = []
fired (activated i) = []
fired (woken i) = []
fired (dropped i) = []
fired (passed i) = []
fired (applied k is) = (k, is) ∷ []
fired (full l) = []

-- the identifier, where a step gave one
abbrev pub numbered : StepAnswer → List ℕ
numbered failed = []
numbered done = []
numbered told = []
numbered (activated i) = i ∷ []
numbered (woken i) = []
numbered (dropped i) = []
numbered (passed i) = []
numbered (applied k is) = []
numbered (full l) = []

-- what steps have applied
abbrev pub firings : List Event → List Firing
firings [] = []
firings (took a ∷ es) = firings es
firings (stepped a ps ∷ es) = fired a ++ firings es

-- what steps have told
abbrev pub tellings : List Event → List (Primitive Operand)
tellings [] = []
tellings (took a ∷ es) = tellings es
tellings (stepped a ps ∷ es) = ps ++ tellings es

-- the identifiers that steps have given
abbrev pub given : List Event → List ℕ
given [] = []
given (took a ∷ es) = given es
given (stepped a ps ∷ es) = numbered a ++ given es

-- a step that changed the sheet
abbrev pub StepMade : Event → Type 0
StepMade (took c) = ⊥
StepMade (stepped a ps) = Progress a

module _ {A B : Type 0} (T : Theory.Ghosts A) (P : PartnerTable.Ghosts B) where
  -- the limits of a sheet
  pub record Within (es : List Event) (s : Config A B) : Type 0 where
    pub few_wait : length s.waiting ≤ 512
    pub few_tuples : length s.history ≤ 512
    pub from_one : 1 ≤ s.next
    pub to_last : s.next ≤ 1000001
    pub once : Distinct (given es)
    pub below : (i : ℕ) → i ∈ given es → (1 ≤ i) × (i < s.next)
    pub lives : (i : ℕ) (r : Record) → living P s i ≡ Some r → i ∈ given es
    pub one_each : (i : ℕ) → length (P.records s.table i) ≤ 1
    pub variables : s.posted ≡ variables_of (accepted es)
    pub made : (x : ℕ) → x ∈ s.posted → x < (meaning T s).made

  -- everything pending and living holds in an admitted valuation w that agrees with v on the posted variables
  pub record Held (s : Config A B) (R : Reading T.domain) (v w : Valuation T.domain) : Type 0 where
    pub agrees : (x : ℕ) → x ∈ s.posted → w x ≡ v x
    pub admitted : (meaning T s).admits w
    pub pending : All (GoalHolds T.domain R w) (pending_of s.waiting)
    pub alive : (i : ℕ) (r : Record) → living P s i ≡ Some r → RecordHolds T.domain R w r

  -- what stands after those events
  pub record Stand (es : List Event) (s : Config A B) : Type 0 where
    -- the abstract machine reaches a state that the sheet shows
    pub reached : (a : State) × Reaches T.domain s.book (accepted es) a × Shows T P s a
    -- in any reading that obeys the rules, under any values of the posted variables, the postings hold exactly when what the sheet still holds does for some values of the rule variables
    pub meant : (R : Reading T.domain) → Obeys T.domain R s.book → (v : Valuation T.domain) → Sensible T.domain v → All (GoalHolds T.domain R v) (postings (accepted es)) ↔ ((w : Valuation T.domain) × Held s R v w)
    -- where nothing waits and the theory stands, every rule was applied wherever it applies
    pub settled : s.waiting ≡ [] → Stands T s → (k : ℕ) (tuple : List ℕ) → 1 ≤ k → k ≤ length s.book.rules → Applies (meaning T s) s.book.arities (living P s) (rule_at s.book k) tuple → (k, tuple) ∈ firings es
    -- no rule was applied to one tuple twice
    pub never_twice : Distinct (firings es)
    -- the admitted valuations are those in which all that steps have told is true
    pub admitted : (v : Valuation T.domain) → (meaning T s).admits v ↔ (Sensible T.domain v × All (TrueIn T.domain v) (tellings es))
    -- the limits hold
    pub within : Within es s

  -- step answers done exactly when nothing waits and the theory stands as it begins, run exactly when that is so as it ends
  pub record DoneIsExact : Type 0 where
    pub at_step : (s t : Config A B) (a : StepAnswer) → StepSays T P s a t → (a ≡ done) ↔ ((s.waiting ≡ []) × Stands T s)
    pub at_run : (k : ℕ) (s t : Config A B) (more : List Event) (e : End) → RunSays T P k s more e t → (e ≡ ended.Done) ↔ ((t.waiting ≡ []) × Stands T t)

  -- what a run that was to make k steps answers of those that it made: their number, which is k where it was stopped; each changed the sheet, and where something is full a further step says so and changes nothing
  pub record RunCounted (k : ℕ) (a : Answer) (es : List Event) (t : Config A B) : Type 0 where
    pub end : End
    pub answer : a ≡ by_run end (length es)
    pub few : length es ≤ k
    pub steps : All StepMade es
    pub stopped : end ≡ ended.Stopped → length es ≡ k
    pub limit : (l : Limit) → end ≡ ended.Full l → StepSays T P t (full l) t

  -- every run is so answered
  abbrev pub RunsCount : Type 0
  RunsCount = (k : ℕ) (s t : Config A B) (a : Answer) (es : List Event) → Says T P s (run k) a es t → RunCounted k a es t

  -- two states of a sheet that no call can tell apart
  pub record Alike (s t : Config A B) : Type 0 where
    pub book : s.book ≡ t.book
    pub waiting : s.waiting ≡ t.waiting
    pub history : s.history ≡ t.history
    pub posted : s.posted ≡ t.posted
    pub next : s.next ≡ t.next
    pub theory : SameMeaning (meaning T s) (meaning T t)
    pub table : P.records s.table ≡ P.records t.table

  -- a call has one answer and one outcome on a sheet and on any that is alike
  abbrev pub OneAnswer : Type 0
  OneAnswer = (s s' t u : Config A B) (c : Call) (a b : Answer) (es fs : List Event) → Alike s s' → Says T P s c a es t → Says T P s' c b fs u → (a ≡ b) × (es ≡ fs) × Alike t u

  -- the call says this, and nothing else
  pub record Exactly (s : Config A B) (c : Call) (a : Answer) (t : Config A B) : Type 0 where
    pub says : (es : List Event) × Says T P s c a es t
    pub only : (b : Answer) (fs : List Event) (u : Config A B) → Says T P s c b fs u → (b ≡ a) × Alike u t

  -- what a theory and a table can be asked, and what they can be made to do, in any state
  pub record Decides : Type 0 where
    pub failed : (x : A) → Dec (Failed (T.means x))
    pub fixed : (x : A) (v : ℕ) → Dec (Fixed (T.means x) v)
    pub ask : (x : A) (p : Primitive Operand) → Dec (Follows (T.means x) p)
    pub tell : (x : A) (p : Primitive Operand) → (y : A) × Told (T.means x) p (T.means y)
    pub make : (x : A) (k : ℕ) → (T.means x).made + k ≤ T.capacity → (y : A) × Made (T.means x) k (T.means y)
    pub put : (x : B) (n : ℕ) (r : Record) → fit n r ≡ true → size (P.records x) < P.limit → (y : B) × (P.records y ≡ with_record (P.records x) n r)
    pub remove : (x : B) (those : List ℕ) → (y : B) × (P.records y ≡ without (P.records x) those)

  -- every state has a step, whatever its lists hold, if the constraints that wait to be added are such as a table takes
  abbrev pub SomeStep : Type 0
  SomeStep = Decides → (s : Config A B) → ((c : ℕ) (xs : List Operand) → goal (add c xs) ∈ s.waiting → s.next ≤ 1000000 → fit s.next (recorded c xs) ≡ true) → (a : StepAnswer) × (t : Config A B) × StepSays T P s a t

  -- after an opening and any list of calls, all this stands
  abbrev pub Always : Book → Type 0
  Always book = (s t : Config A B) (log : List (Call × Answer)) (es : List Event) → Opened T P book s → Plays T P s log es t → Stand es t

  -- whatever the rules, if they are valid
  abbrev pub AlwaysSound : Type 0
  AlwaysSound = (book : Book) → Valid book → Always book

  -- one opening and one list of calls: the answers are as written out, and all this stands from the opening on and after every call
  pub record Played (book : Book) (calls : List Call) (answers : List Answer) (t : Config A B) : Type 0 where
    pub log : List (Call × Answer)
    pub asked : map (λ x. x.0) log ≡ calls
    pub answered : map (λ x. x.1) log ≡ answers
    pub from : Config A B
    pub opened : Opened T P book from
    pub events : List Event
    pub plays : Plays T P from log events t
    -- the same for each prefix of the calls
    pub throughout : (before after : List (Call × Answer)) → log ≡ before ++ after → (u : Config A B) × (es fs : List Event) × Plays T P from before es u × Plays T P u after fs t × (events ≡ es ++ fs) × Stand es u
    pub one_answer : OneAnswer
    pub done_is_exact : DoneIsExact
    pub always : Always book
