-- The abstract machine, and when a sheet shows one of its states. Assumes nothing.
use Rattle.std.specs.Prelude.{◌≡◌, ℕ, suc, ◌+◌, ◌<◌, ◌≤◌, true, cond, ◌↔◌, List, [], ◌∷◌, ◌++◌, length, is_some, Some, None, ◌==◌, slice_index}
use Rattle.terms.specs.declared.Operand.{Operand}
use Rattle.terms.specs.declared.Operand.TheVariants.{Value, Variable}
use Rattle.terms.specs.declared.Primitive.{Primitive}
use Rattle.terms.specs.Lists.{All}
use Rattle.terms.specs.Values.{IsValue}
use Rattle.terms.specs.Primitives.{EachPart}
use Rattle.terms.specs.Domains.{Domain, Valuation, Sensible, TrueIn}
use Rattle.rules.specs.Books.{Goal, tell, add, Book}
use Rattle.theory.specs.declared.interface.Theory as Theory
use Rattle.theory.specs.Meanings.{Meaning, Failed}
use Rattle.table.specs.declared.partner.PartnerTable as PartnerTable
use Rattle.table.specs.Lists.{memberb}
use Rattle.table.specs.Records.{recorded}
use Rattle.machine.specs.Lists.{◌∈◌, Shuffle}
use Rattle.machine.specs.Matching.{Store, Firing, Applies, rule_at, body_for, gone}
use Rattle.machine.specs.Sheets.{Entry, goal, wake, active, Config, Accepted, made_variable, posted_goal}
use Rattle.machine.specs.Refined.{meaning, living, removes_nothing}

-- a state: what is pending, what lives, what was told, how many variables are made, what was applied, and the next identifier
pub record State : Type 0 where
  pub pending : List (Goal Operand)
  pub alive : Store
  pub told : List (Primitive Operand)
  pub made : ℕ
  pub applied : List Firing
  pub next : ℕ

-- nothing, with every valuation admitted and the identifier 1 next
abbrev pub empty : State
empty = record { pending = []; alive = λ i. None; told = []; made = 0; applied = []; next = 1 }

-- after a variable was made
abbrev pub one_more : State → State
one_more a = record { pending = a.pending; alive = a.alive; told = a.told; made = suc a.made; applied = a.applied; next = a.next }

-- after a goal was posted
abbrev pub posted_after : State → Goal Operand → State
posted_after a g = record { pending = a.pending ++ (g ∷ []); alive = a.alive; told = a.told; made = a.made; applied = a.applied; next = a.next }

-- after a primitive was told, with the others still pending
abbrev pub told_after : State → List (Goal Operand) → Primitive Operand → State
told_after a others p = record { pending = others; alive = a.alive; told = p ∷ a.told; made = a.made; applied = a.applied; next = a.next }

-- after a constraint was given the next identifier, with the others still pending
abbrev pub added_after : State → List (Goal Operand) → ℕ → List Operand → State
added_after a others c xs = record { pending = others; alive = λ i. cond (a.next == i) (Some (recorded c xs)) (a.alive i); told = a.told; made = a.made; applied = a.applied; next = suc a.next }

-- after the rule k was applied to a tuple: its body is pending, its removed heads are gone, and the tuple is kept
abbrev pub applied_after : Book → State → ℕ → List ℕ → State
applied_after book a k tuple = record { pending = body_for book.arities a.alive (rule_at book k) tuple a.made ++ a.pending; alive = λ i. cond (memberb i (gone (rule_at book k) tuple)) None (a.alive i); told = a.told; made = a.made + (rule_at book k).fresh; applied = (k, tuple) ∷ a.applied; next = a.next }

-- a posting names values and posted variables only
abbrev pub Nameable : List Accepted → Operand → Type 0
Nameable calls (Value n) = IsValue n
Nameable calls (Variable x) = made_variable x ∈ calls

-- and its symbol is declared with that many arguments
abbrev pub GoodPosting : Book → List Accepted → Goal Operand → Type 0
GoodPosting book calls (tell p) = EachPart (Nameable calls) IsValue p
GoodPosting book calls (add c xs) = (c < length book.arities) × (length xs ≡ slice_index book.arities c) × All (Nameable calls) xs

module _ (d : Domain) where
  -- the admitted valuations are those in which all that was told is true
  abbrev pub meaning_of : State → Meaning d
  meaning_of a = record { made = a.made; admits = λ v. Sensible d v × All (TrueIn d v) a.told }

  -- some valuation is admitted
  abbrev pub Open : State → Type 0
  Open a = Failed (meaning_of a) → ⊥

  module _ (book : Book) where
    -- a move, which is made only while some valuation is admitted: any pending goal is taken, or a rule is applied where it applies and was not applied before
    pub data Move (a : State) : State → Type 0 where
      tells : (p : Primitive Operand) (before after : List (Goal Operand)) → Open a → a.pending ≡ before ++ (tell p ∷ after) → Move a (told_after a (before ++ after) p)
      adds : (c : ℕ) (xs : List Operand) (before after : List (Goal Operand)) → Open a → a.pending ≡ before ++ (add c xs ∷ after) → Move a (added_after a (before ++ after) c xs)
      applies : (k : ℕ) (tuple : List ℕ) → Open a → 1 ≤ k → k ≤ length book.rules → Applies (meaning_of a) book.arities a.alive (rule_at book k) tuple → ((k, tuple) ∈ a.applied → ⊥) → a.made + (rule_at book k).fresh ≤ 256 → Move a (applied_after book a k tuple)

    -- the states that it can reach with those accepted calls, moving before, between and after them
    pub data Reaches : List Accepted → State → Type 0 where
      start : Reaches [] empty
      variable : {calls : List Accepted} {a : State} → a.made < 256 → Reaches calls a → Reaches (calls ++ (made_variable a.made ∷ [])) (one_more a)
      post : {calls : List Accepted} {a : State} (g : Goal Operand) → Open a → GoodPosting book calls g → Reaches calls a → Reaches (calls ++ (posted_goal g ∷ [])) (posted_after a g)
      move : {calls : List Accepted} {a b : State} → Reaches calls a → Move a b → Reaches calls b

-- the primitives and new constraints that wait
abbrev pub pending_of : List Entry → List (Goal Operand)
pending_of [] = []
pending_of (goal g ∷ es) = g ∷ pending_of es
pending_of (wake i ∷ es) = pending_of es
pending_of (active i j ∷ es) = pending_of es

-- every constraint of the tuple lives
abbrev pub AllLive : Store → List ℕ → Type 0
AllLive store tuple = All (λ i. is_some (store i) ≡ true) tuple

module _ {A B : Type 0} (T : Theory.Ghosts A) (P : PartnerTable.Ghosts B) where
  -- the sheet shows the state: the same goals are pending, each as often, the same lives, is admitted, is made and is next, and the history is the applied tuples, still living, of rules that remove nothing
  pub record Shows (s : Config A B) (a : State) : Type 0 where
    pub pending : Shuffle (pending_of s.waiting) a.pending
    pub alive : (i : ℕ) → living P s i ≡ a.alive i
    pub admitted : (v : Valuation T.domain) → (meaning T s).admits v ↔ (meaning_of T.domain a).admits v
    pub made : (meaning T s).made ≡ a.made
    pub next : s.next ≡ a.next
    pub history : (k : ℕ) (tuple : List ℕ) → ((k, tuple) ∈ s.history) ↔ (((k, tuple) ∈ a.applied) × (removes_nothing (rule_at s.book k) ≡ true) × AllLive a.alive tuple)
