-- What is read while partners are sought, how far they are found, and what is found. Assumes nothing.
use Rattle.std.specs.Prelude.{◌≡◌, ℕ, ◌<◌, ◌≤◌, true, List, [], ◌∷◌, ◌++◌, map, length, take, ℤ, Some, None, Option, slice_index}
use Rattle.terms.specs.declared.Primitive.{Primitive}
use Rattle.terms.specs.declared.Term.{Term}
use Rattle.terms.specs.Lists.{All}
use Rattle.rules.specs.Books.{Rule, Book, heads}
use Rattle.rulefile.specs.Rulebooks.{rules_book}
use Rattle.theory.specs.declared.interface.Theory as Theory
use Rattle.theory.specs.Meanings.{Follows}
use Rattle.table.specs.declared.partner.PartnerTable as PartnerTable
use Rattle.table.specs.Nexts.{has_key}
use Rattle.table.specs.Records.{symbol_of}
use Rattle.machine.specs.Lists.{◌∈◌, Distinct, NoLater}
use Rattle.machine.specs.Matching.{Store, Firing, Matches, arguments_of, head_slot, fill_primitive}
use Rattle.machine.specs.Sheets.{Config}
use Rattle.machine.specs.Refined.{rule_of, meaning, living, Stands, removes_nothing, Fits, NoneFits, FirstFit}
use Rattle.machine.specs.Tuples.{firing_of}
use Rattle.seek.specs.Slots.{slot_in}
use Rattle.seek.specs.declared.partners.Search.{Search}
use Rattle.seek.specs.declared.slots.Slots.{Slots}

module _ {A B : Type 0} where
  -- a state with that book, history, theory and table, in which nothing waits
  abbrev pub reading : Book → List Firing → A → B → Config A B
  reading b h a t = record { book = b; waiting = []; history = h; posted = []; next = 0; theory = a; table = t }

  -- the state that is read
  abbrev pub view : Search A B → Config A B
  view s = reading (rules_book s.rules.now) (map firing_of s.history.now) s.theory.now s.table.now

  -- the two have one book, one history, one theory and one table
  pub record Alike (s t : Config A B) : Type 0 where
    pub book : s.book ≡ t.book
    pub history : s.history ≡ t.history
    pub theory : s.theory ≡ t.theory
    pub table : s.table ≡ t.table

-- a constraint that may fill the next head: it is not the active one, fills no head before, and has the symbol
pub record MayFill (store : Store) (i symbol : ℕ) (pre : List ℕ) (x : ℕ) : Type 0 where
  pub other : x ≡ i → ⊥
  pub new : x ∈ pre → ⊥
  pub has : symbol_of (store x) ≡ Some symbol

module _ {A B : Type 0} (T : Theory.Ghosts A) (P : PartnerTable.Ghosts B) where
  -- every guard follows
  abbrev pub Guarded : A → Slots B → List (Primitive Term) → Type 0
  Guarded a f gs = All (λ g. Follows (T.means a) (fill_primitive (slot_in P f) g)) gs

  module _ (s : Config A B) where
    -- the theory stands, and the constraint i has the symbol of the head h of the rule k
    pub record AtHead (k h i : ℕ) : Type 0 where
      pub stands : Stands T s
      pub low : 1 ≤ k
      pub high : k ≤ length s.book.rules
      pub within : h < length (heads (rule_of s k))
      pub alive : symbol_of (living P s i) ≡ Some (slice_index (heads (rule_of s k)) h)

    -- the first heads of the rule, which is r, are filled, with i if the head h is among them
    pub record Begun (k h i : ℕ) (r : Rule) (pre : List ℕ) : Type 0 where
      pub place : AtHead k h i
      pub rule : r ≡ rule_of s k
      pub few : length pre ≤ length (heads (rule_of s k))
      pub matches : Matches (living P s) (take (length pre) (heads (rule_of s k))) pre
      pub distinct : Distinct pre
      pub at : h < length pre → slice_index pre h ≡ i

    -- the rule k, which is r, was not applied to the tuple before if it removes nothing, and its guards follow
    pub record Ready (k : ℕ) (r : Rule) (tuple : List ℕ) : Type 0 where
      pub new : (removes_nothing r ≡ true) × ((k, tuple) ∈ s.history) → ⊥
      pub guarded : All (λ g. Follows (meaning T s) (fill_primitive (head_slot s.book.arities (living P s) (heads r) tuple) g)) r.guards

    -- the first fitting tuple that begins so
    pub record Found (k h i : ℕ) (pre tuple : List ℕ) : Type 0 where
      pub rest : List ℕ
      pub begins : tuple ≡ pre ++ rest
      pub fits : Fits T P s k h i tuple
      pub least : (ys : List ℕ) → Fits T P s k h i (pre ++ ys) → NoLater tuple (pre ++ ys)

    -- the same, or no fitting tuple begins so
    abbrev pub FirstFrom : ℕ → ℕ → ℕ → List ℕ → Option (List ℕ) → Type 0
    FirstFrom k h i pre None = (ys : List ℕ) → Fits T P s k h i (pre ++ ys) → ⊥
    FirstFrom k h i pre (Some tuple) = Found k h i pre tuple

    -- what fills the next head of a fitting tuple has the key
    abbrev pub KeyFits : ℕ → ℕ → ℕ → List ℕ → Option ℤ → Type 0
    KeyFits k h i pre key = (y : ℕ) (ys : List ℕ) → Fits T P s k h i (pre ++ (y ∷ ys)) → has_key key (arguments_of (living P s y)) ≡ true

    -- no tuple fits, or this is the first that does
    abbrev pub Searched : ℕ → ℕ → ℕ → Option (List ℕ) → Type 0
    Searched k h i None = NoneFits T P s k h i
    Searched k h i (Some tuple) = FirstFit T P s k h i tuple

  -- whether a tuple fits, whether none does, and which is the first is one in two states that have one book, history, theory and table
  pub record ReadsAlone : Type 0 where
    pub fits : (s t : Config A B) → Alike s t → (k h i : ℕ) (tuple : List ℕ) → Fits T P s k h i tuple → Fits T P t k h i tuple
    pub none : (s t : Config A B) → Alike s t → (k h i : ℕ) → NoneFits T P s k h i → NoneFits T P t k h i
    pub first : (s t : Config A B) → Alike s t → (k h i : ℕ) (tuple : List ℕ) → FirstFit T P s k h i tuple → FirstFit T P t k h i tuple
