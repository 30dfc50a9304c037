-- The refined machine: what each call answers, and what it alters. Assumes nothing.
use Rattle.std.specs.Prelude.{◌≡◌, ℕ, suc, ◌+◌, ◌-◌, ◌<◌, ◌≤◌, Bool, true, false, cond, not, List, [], ◌∷◌, ◌++◌, map, length, get_or, ℤ, Some, None, Ok, Err, filter, Option, Result, ◌==◌, ◌≢◌, nat_lt, slice_index, slice_index_or}
use Rattle.terms.specs.declared.Operand.{Operand}
use Rattle.terms.specs.declared.Operand.TheVariants.{Value, Variable}
use Rattle.terms.specs.declared.Primitive.{Primitive}
use Rattle.terms.specs.declared.Primitive.TheVariants.{Same, Least, Most}
use Rattle.terms.specs.Lists.{All}
use Rattle.terms.specs.Values.{IsValue}
use Rattle.terms.specs.Domains.{Domain}
use Rattle.rules.specs.Books.{Goal, tell, add, Rule, Book, heads}
use Rattle.theory.specs.declared.interface.Theory as Theory
use Rattle.theory.specs.Meanings.{Meaning, Failed, Fixed, Told, Made, Clear}
use Rattle.table.specs.declared.partner.PartnerTable as PartnerTable
use Rattle.table.specs.Lists.{is_none, first, memberb}
use Rattle.table.specs.Records.{Record, recorded}
use Rattle.table.specs.Tables.{nothing, size, with_record, without}
use Rattle.machine.specs.declared.answers.Limit.{Limit}
use Rattle.machine.specs.declared.answers.Limit.TheVariants as limit
use Rattle.machine.specs.declared.answers.End.{End}
use Rattle.machine.specs.declared.answers.End.TheVariants as ended
use Rattle.machine.specs.declared.answers.VariableRefusal.{VariableRefusal}
use Rattle.machine.specs.declared.answers.VariableRefusal.TheVariants.{AtCapacity}
use Rattle.machine.specs.declared.answers.PostRefusal.{PostRefusal}
use Rattle.machine.specs.declared.answers.PostRefusal.TheVariants.{TheoryFailed, NoSuchKind, NoSuchSymbol, WrongCount, WrongOperand, TooMany}
use Rattle.machine.specs.Lists.{◌∈◌, NoLater, Rising}
use Rattle.machine.specs.Matching.{Store, Firing, Applies, rule_at, body_for, gone}
use Rattle.machine.specs.Occurrences.{occurrences, search_order, sought}
use Rattle.machine.specs.Sheets.{Entry, goal, wake, active, Config, StepAnswer, failed, done, told, activated, woken, dropped, passed, applied, full, Call, variable, step, post, run, Answer, by_variable, by_post, by_step, by_run, made_variable, posted_goal, Event, took, stepped, telling, Progress}

-- whether the rule removes nothing, so that the history tells where it was applied
abbrev pub removes_nothing : Rule → Bool
removes_nothing r = is_none r.removed

-- whether the tuple names one of those
abbrev pub names_any : List ℕ → List ℕ → Bool
names_any those [] = false
names_any those (i ∷ is) = cond (memberb i those) true (names_any those is)

module _ {A B : Type 0} where
  -- the rule of a number
  abbrev pub rule_of : Config A B → ℕ → Rule
  rule_of s k = rule_at s.book k

  -- the occurrence j of the symbol is the head h of the rule k
  abbrev pub Occurs : Config A B → ℕ → ℕ → ℕ → ℕ → Type 0
  Occurs s symbol j k h = (1 ≤ j) × (j ≤ length (occurrences s.book symbol)) × (slice_index_or (occurrences s.book symbol) (j - 1) (0, 0) ≡ (k, h))

  -- the waiting list, the history and the next identifier are those; the book and the posted variables stay
  pub record Becomes (s t : Config A B) (w : List Entry) (h : List Firing) (n : ℕ) : Type 0 where
    pub book : t.book ≡ s.book
    pub waiting : t.waiting ≡ w
    pub history : t.history ≡ h
    pub posted : t.posted ≡ s.posted
    pub next : t.next ≡ n

  -- only the waiting list changes
  pub record Waits (s t : Config A B) (w : List Entry) : Type 0 where
    pub becomes : Becomes s t w s.history s.next
    pub theory : t.theory ≡ s.theory
    pub table : t.table ≡ s.table

  -- the tuple of a rule that removes nothing is added; else those that name a removed constraint go
  abbrev pub history_after : Config A B → ℕ → Rule → List ℕ → List Firing
  history_after s k r tuple = cond (removes_nothing r) (s.history ++ ((k, tuple) ∷ [])) (filter (λ f. not (names_any (gone r tuple) f.1)) s.history)

  -- the rule would add a tuple, and there is no room for it
  abbrev pub HistoryFull : Config A B → Rule → Type 0
  HistoryFull s r = (removes_nothing r ≡ true) × (512 ≤ length s.history)

module _ {A B : Type 0} (T : Theory.Ghosts A) where
  -- what the sheet's theory means
  abbrev pub meaning : Config A B → Meaning T.domain
  meaning s = T.means s.theory

  -- the theory has not failed
  abbrev pub Stands : Config A B → Type 0
  Stands s = Failed (meaning s) → ⊥

module _ {A B : Type 0} (P : PartnerTable.Ghosts B) where
  -- the living constraints are those in the sheet's table
  abbrev pub living : Config A B → Store
  living s i = first (P.records s.table i)

module _ {d : Domain} where
  -- a variable among its arguments is not yet fixed
  abbrev pub Unfixed : Meaning d → Option Record → Type 0
  Unfixed m None = ⊥
  Unfixed m (Some r) = (x : ℕ) × (Variable x ∈ r.arguments) × (Fixed m x → ⊥)

  -- every variable among its arguments is fixed
  abbrev pub AllFixed : Meaning d → Option Record → Type 0
  AllFixed m None = Unit {0}
  AllFixed m (Some r) = (x : ℕ) → Variable x ∈ r.arguments → Fixed m x

  -- the constraints that a telling wakes, smallest identifier first
  pub record Wakes (m : Meaning d) (store : Store) (is : List ℕ) : Type 0 where
    pub rising : Rising is
    pub unfixed : (i : ℕ) → i ∈ is → Unfixed m (store i)
    pub others : (i : ℕ) → (i ∈ is → ⊥) → AllFixed m (store i)

module _ {A B : Type 0} (T : Theory.Ghosts A) (P : PartnerTable.Ghosts B) where
  -- the rule k fits the tuple with i at the head h: it applies, and is not in the history if it removes nothing
  pub record Fits (s : Config A B) (k h i : ℕ) (tuple : List ℕ) : Type 0 where
    pub applies : Applies (meaning T s) s.book.arities (living P s) (rule_of s k) tuple
    pub at : get_or tuple h 0 ≡ i
    pub new : (removes_nothing (rule_of s k) ≡ true) × ((k, tuple) ∈ s.history) → ⊥

  -- no tuple fits
  abbrev pub NoneFits : Config A B → ℕ → ℕ → ℕ → Type 0
  NoneFits s k h i = (tuple : List ℕ) → Fits s k h i tuple → ⊥

  -- the first fitting tuple has the smallest identifiers at the other heads, in the order of the search
  pub record FirstFit (s : Config A B) (k h i : ℕ) (tuple : List ℕ) : Type 0 where
    pub fits : Fits s k h i tuple
    pub before : (other : List ℕ) → Fits s k h i other → NoLater (sought (search_order (length (heads (rule_of s k))) h) tuple) (sought (search_order (length (heads (rule_of s k))) h) other)

  -- an active constraint i on top, at its occurrence j, which is the head h of the rule k
  pub record Turn (s : Config A B) (rest : List Entry) (i j k h : ℕ) : Type 0 where
    pub stands : Stands T s
    pub top : s.waiting ≡ active i j ∷ rest
    pub record_of : Record
    pub alive : living P s i ≡ Some record_of
    pub occurs : Occurs s record_of.symbol j k h

  -- the body on top, and below it the active constraint, if its head is kept
  abbrev pub waiting_after : Config A B → Rule → List ℕ → List Entry → ℕ → ℕ → ℕ → List Entry
  waiting_after s r tuple rest i j h = map goal (body_for s.book.arities (living P s) r tuple (meaning T s).made) ++ cond (nat_lt h (length r.kept)) (active i j ∷ rest) rest

  -- what a step answers, and what it alters. A failed theory and an empty waiting list come first; then the top item decides
  pub data StepSays (s : Config A B) : StepAnswer → Config A B → Type 0 where
    fails : Failed (meaning T s) → StepSays s failed s
    ends : Stands T s → s.waiting ≡ [] → StepSays s done s
    -- a primitive is told, and the constraints with a variable not fixed before are woken
    tells : {t : Config A B} (p : Primitive Operand) (rest : List Entry) (is : List ℕ) → Stands T s → s.waiting ≡ goal (tell p) ∷ rest → Wakes (meaning T s) (living P s) is → length is + length rest ≤ 512 → Told (meaning T s) p (meaning T t) → t.table ≡ s.table → Becomes s t (map wake is ++ rest) s.history s.next → StepSays s told t
    crowded : (p : Primitive Operand) (rest : List Entry) (is : List ℕ) → Stands T s → s.waiting ≡ goal (tell p) ∷ rest → Wakes (meaning T s) (living P s) is → 512 < length is + length rest → StepSays s (full limit.Waiting) s
    -- a constraint gets the next identifier and is active
    activates : {t : Config A B} (c : ℕ) (xs : List Operand) (rest : List Entry) → Stands T s → s.waiting ≡ goal (add c xs) ∷ rest → s.next ≤ 1000000 → size (P.records s.table) < P.limit → t.theory ≡ s.theory → P.records t.table ≡ with_record (P.records s.table) s.next (recorded c xs) → Becomes s t (active s.next 1 ∷ rest) s.history (suc s.next) → StepSays s (activated s.next) t
    spent : (c : ℕ) (xs : List Operand) (rest : List Entry) → Stands T s → s.waiting ≡ goal (add c xs) ∷ rest → 1000000 < s.next → StepSays s (full limit.Identifiers) s
    packed : (c : ℕ) (xs : List Operand) (rest : List Entry) → Stands T s → s.waiting ≡ goal (add c xs) ∷ rest → s.next ≤ 1000000 → P.limit ≤ size (P.records s.table) → StepSays s (full limit.Table) s
    -- a woken constraint is active again, if it lives
    rises : {t : Config A B} (i : ℕ) (rest : List Entry) (r : Record) → Stands T s → s.waiting ≡ wake i ∷ rest → living P s i ≡ Some r → Waits s t (active i 1 ∷ rest) → StepSays s (woken i) t
    late : {t : Config A B} (i : ℕ) (rest : List Entry) → Stands T s → s.waiting ≡ wake i ∷ rest → living P s i ≡ None → Waits s t rest → StepSays s (dropped i) t
    -- an active constraint that does not live, or is beyond its occurrences
    dead : {t : Config A B} (i j : ℕ) (rest : List Entry) → Stands T s → s.waiting ≡ active i j ∷ rest → living P s i ≡ None → Waits s t rest → StepSays s (dropped i) t
    over : {t : Config A B} (i j : ℕ) (rest : List Entry) (r : Record) → Stands T s → s.waiting ≡ active i j ∷ rest → living P s i ≡ Some r → ((1 ≤ j) × (j ≤ length (occurrences s.book r.symbol)) → ⊥) → Waits s t rest → StepSays s (dropped i) t
    -- no tuple fits at the occurrence, or the rule is applied to the first that does
    passes : {t : Config A B} (rest : List Entry) (i j k h : ℕ) → Turn s rest i j k h → NoneFits s k h i → Waits s t (active i (suc j) ∷ rest) → StepSays s (passed i) t
    fires : {t : Config A B} (rest : List Entry) (i j k h : ℕ) (tuple : List ℕ) → Turn s rest i j k h → FirstFit s k h i tuple → (HistoryFull s (rule_of s k) → ⊥) → (meaning T s).made + (rule_of s k).fresh ≤ T.capacity → length (waiting_after s (rule_of s k) tuple rest i j h) ≤ 512 → Made (meaning T s) (rule_of s k).fresh (meaning T t) → P.records t.table ≡ without (P.records s.table) (gone (rule_of s k) tuple) → Becomes s t (waiting_after s (rule_of s k) tuple rest i j h) (history_after s k (rule_of s k) tuple) s.next → StepSays s (applied k tuple) t
    full_history : (rest : List Entry) (i j k h : ℕ) (tuple : List ℕ) → Turn s rest i j k h → FirstFit s k h i tuple → HistoryFull s (rule_of s k) → StepSays s (full limit.History) s
    full_variables : (rest : List Entry) (i j k h : ℕ) (tuple : List ℕ) → Turn s rest i j k h → FirstFit s k h i tuple → (HistoryFull s (rule_of s k) → ⊥) → T.capacity < (meaning T s).made + (rule_of s k).fresh → StepSays s (full limit.Variables) s
    full_waiting : (rest : List Entry) (i j k h : ℕ) (tuple : List ℕ) → Turn s rest i j k h → FirstFit s k h i tuple → (HistoryFull s (rule_of s k) → ⊥) → (meaning T s).made + (rule_of s k).fresh ≤ T.capacity → 512 < length (waiting_after s (rule_of s k) tuple rest i j h) → StepSays s (full limit.Waiting) s

  -- the steps that a run makes, and how it ends; k is how many it may make
  pub data RunSays : ℕ → Config A B → List Event → End → Config A B → Type 0 where
    run_failed : {k : ℕ} {s : Config A B} → Failed (meaning T s) → RunSays k s [] ended.Failed s
    run_done : {k : ℕ} {s : Config A B} → Stands T s → s.waiting ≡ [] → RunSays k s [] ended.Done s
    run_stopped : {s : Config A B} → Stands T s → (s.waiting ≢ []) → RunSays 0 s [] ended.Stopped s
    run_full : {k : ℕ} {s : Config A B} (l : Limit) → StepSays s (full l) s → RunSays (suc k) s [] (ended.Full l) s
    run_more : {k : ℕ} {s t u : Config A B} {e : End} {more : List Event} (a : StepAnswer) → Progress a → StepSays s a t → RunSays k t more e u → RunSays (suc k) s (stepped a (telling s.waiting a) ∷ more) e u

  -- a sheet as it is opened
  pub record Opened (book : Book) (s : Config A B) : Type 0 where
    pub opened : s.book ≡ book
    pub clear : Clear (meaning T s)
    pub empty : P.records s.table ≡ nothing
    pub waiting : s.waiting ≡ []
    pub history : s.history ≡ []
    pub posted : s.posted ≡ []
    pub next : s.next ≡ 1

module _ {A B : Type 0} (T : Theory.Ghosts A) where
  -- what a call for a variable answers: the next number, or a refusal at capacity
  pub data VariableSays (s : Config A B) : Result ℕ VariableRefusal → Config A B → Type 0 where
    makes : {t : Config A B} → (meaning T s).made < T.capacity → Made (meaning T s) 1 (meaning T t) → t.table ≡ s.table → t.book ≡ s.book → t.waiting ≡ s.waiting → t.history ≡ s.history → t.posted ≡ s.posted ++ ((meaning T s).made ∷ []) → t.next ≡ s.next → VariableSays s (Ok (meaning T s).made) t
    no_variable : T.capacity ≤ (meaning T s).made → VariableSays s (Err AtCapacity) s

-- how many operands a posting takes: two for a primitive, else what the symbol takes
abbrev pub operand_count : Book → ℕ → ℕ → ℕ
operand_count b kind symbol = cond (nat_lt kind 3) 2 (slice_index b.arities symbol)

-- a value, or a variable among those posted
abbrev pub Postable : List ℕ → Operand → Type 0
Postable variables (Value n) = IsValue n
Postable variables (Variable x) = x ∈ variables

-- the bound of least and most is a value
abbrev pub bounded : (Operand → ℤ → Primitive Operand) → Operand → Operand → Option (Goal Operand)
bounded f a (Value n) = Some (tell (f a n))
bounded f a (Variable x) = None

-- the primitive of the kinds 0 same, 1 least and 2 most
abbrev pub primitive_of : ℕ → List Operand → Option (Goal Operand)
primitive_of kind [] = None
primitive_of kind (a ∷ []) = None
primitive_of kind (a ∷ (b ∷ [])) = cond (kind == 0) (Some (tell (Same a b))) (bounded (cond (kind == 1) Least Most) a b)
primitive_of kind (a ∷ (b ∷ (c ∷ xs))) = None

-- the goal that a posting asks for, the kind 3 being a constraint; none where no value stands second in least or most, or the count is wrong
abbrev pub goal_of : ℕ → ℕ → List Operand → Option (Goal Operand)
goal_of kind symbol xs = cond (kind == 3) (Some (add symbol xs)) (primitive_of kind xs)

-- the operands are values and posted variables, and make a goal
abbrev pub GoodOperands : List ℕ → ℕ → ℕ → List Operand → Type 0
GoodOperands variables kind symbol xs = All (Postable variables) xs × (goal_of kind symbol xs ≢ None)

module _ {A B : Type 0} (T : Theory.Ghosts A) where
  -- the theory stands, and the kind, the symbol and the number of operands are right
  pub record Counted (s : Config A B) (kind symbol : ℕ) (xs : List Operand) : Type 0 where
    pub stands : Stands T s
    pub kinds : kind ≤ 3
    pub declared : kind ≡ 3 → symbol < length s.book.arities
    pub counted : length xs ≡ operand_count s.book kind symbol

  -- what a posting is answered: the first refusal in this order, or the goal goes to the bottom
  pub data PostSays (s : Config A B) (kind symbol : ℕ) (xs : List Operand) : Result (Unit {0}) PostRefusal → Config A B → Type 0 where
    has_failed : Failed (meaning T s) → PostSays s kind symbol xs (Err TheoryFailed) s
    bad_kind : Stands T s → 3 < kind → PostSays s kind symbol xs (Err NoSuchKind) s
    bad_symbol : Stands T s → kind ≡ 3 → length s.book.arities ≤ symbol → PostSays s kind symbol xs (Err NoSuchSymbol) s
    bad_count : Stands T s → kind ≤ 3 → (kind ≡ 3 → symbol < length s.book.arities) → (length xs ≢ operand_count s.book kind symbol) → PostSays s kind symbol xs (Err WrongCount) s
    bad_operand : Counted s kind symbol xs → (GoodOperands s.posted kind symbol xs → ⊥) → PostSays s kind symbol xs (Err WrongOperand) s
    no_room : Counted s kind symbol xs → GoodOperands s.posted kind symbol xs → 512 ≤ length s.waiting → PostSays s kind symbol xs (Err TooMany) s
    posts : {t : Config A B} (g : Goal Operand) → Counted s kind symbol xs → All (Postable s.posted) xs → length s.waiting < 512 → goal_of kind symbol xs ≡ Some g → Waits s t (s.waiting ++ (goal g ∷ [])) → PostSays s kind symbol xs (Ok tt) t

-- what an answered call for a variable did
abbrev pub made_events : Result ℕ VariableRefusal → List Event
made_events (Ok x) = took (made_variable x) ∷ []
made_events (Err e) = []

-- what an answered posting of a goal did
abbrev pub post_events : Result (Unit {0}) PostRefusal → Option (Goal Operand) → List Event
post_events (Ok u) None = []
post_events (Ok u) (Some g) = took (posted_goal g) ∷ []
post_events (Err e) g = []

module _ {A B : Type 0} (T : Theory.Ghosts A) (P : PartnerTable.Ghosts B) where
  -- what a call is answered and alters, and what happened
  pub data Says : Config A B → Call → Answer → List Event → Config A B → Type 0 where
    at_variable : {s t : Config A B} (x : Result ℕ VariableRefusal) → VariableSays T s x t → Says s variable (by_variable x) (made_events x) t
    at_post : {s t : Config A B} (kind symbol : ℕ) (xs : List Operand) (a : Result (Unit {0}) PostRefusal) → PostSays T s kind symbol xs a t → Says s (post kind symbol xs) (by_post a) (post_events a (goal_of kind symbol xs)) t
    at_step : {s t : Config A B} (a : StepAnswer) → StepSays T P s a t → Says s step (by_step a) (stepped a (telling s.waiting a) ∷ []) t
    at_run : {s t : Config A B} (k : ℕ) (made : List Event) (e : End) → RunSays T P k s made e t → Says s (run k) (by_run e (length made)) made t

  -- any list of calls with their answers, one after the other
  pub data Plays : Config A B → List (Call × Answer) → List Event → Config A B → Type 0 where
    no_call : {s : Config A B} → Plays s [] [] s
    then : {s t u : Config A B} {log : List (Call × Answer)} {es fs : List Event} (c : Call) (a : Answer) → Plays s log es t → Says t c a fs u → Plays s (log ++ ((c, a) ∷ [])) (es ++ fs) u
