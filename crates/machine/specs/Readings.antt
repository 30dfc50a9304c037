-- Rules read as logic. Assumes nothing.
use Rattle.std.specs.Prelude.{◌≡◌, ℕ, Bool, true, ◌↔◌, List, [], ◌∷◌, ◌++◌, map, length, take, drop, pos, slice_index, slice_index_or}
use Rattle.terms.specs.declared.Operand.{Operand}
use Rattle.terms.specs.declared.Term.{Term}
use Rattle.terms.specs.declared.Term.TheVariants.{Value, Slot}
use Rattle.terms.specs.declared.Primitive.{Primitive}
use Rattle.terms.specs.Lists.{All}
use Rattle.terms.specs.Primitives.{map_primitive}
use Rattle.terms.specs.Domains.{Domain, Valuation, worth, TrueIn}
use Rattle.rules.specs.Books.{Goal, tell, add, Rule, Book, slot_count}
use Rattle.table.specs.Records.{Record}

module _ (d : Domain) where
  -- a set of rows of values for each symbol, by its test
  abbrev pub Reading : Type 0
  Reading = ℕ → List d.Worth → Bool

  -- in a rule, slots have values
  abbrev pub at_slots : List d.Worth → Term → d.Worth
  at_slots ws (Value n) = d.number n
  at_slots ws (Slot k) = slice_index_or ws k (d.number (pos 0))

  -- a guard is true of the slots' values
  abbrev pub GuardHolds : List d.Worth → Primitive Term → Type 0
  GuardHolds ws p = d.True (map_primitive (at_slots ws) p)

module _ (d : Domain) (R : Reading d) where
  -- a goal holds in a valuation: its primitive is true there, or its row is in the set
  abbrev pub GoalHolds : Valuation d → Goal Operand → Type 0
  GoalHolds v (tell p) = TrueIn d v p
  GoalHolds v (add c xs) = R c (map (worth d v) xs) ≡ true

  -- a living constraint holds in a valuation
  abbrev pub RecordHolds : Valuation d → Record → Type 0
  RecordHolds v r = R r.symbol (map (worth d v) r.arguments) ≡ true

  -- a body item holds of the slots' values
  abbrev pub ItemHolds : List d.Worth → Goal Term → Type 0
  ItemHolds ws (tell p) = GuardHolds d ws p
  ItemHolds ws (add c ts) = R c (map (at_slots d ws) ts) ≡ true

  -- the heads hold: each has the next slots, as many as its symbol has arguments
  abbrev pub HeadsHold : List ℕ → List ℕ → List d.Worth → Type 0
  HeadsHold arities [] ws = Unit {0}
  HeadsHold arities (c ∷ cs) ws = (R c (take (slice_index arities c) ws) ≡ true) × HeadsHold arities cs (drop (slice_index arities c) ws)

  -- whatever the slots' values, where the kept heads and the guards hold, the removed heads hold exactly when the body does for some values of the fresh variables
  abbrev pub ObeysRule : List ℕ → Rule → Type 0
  ObeysRule arities r = (ks rs : List d.Worth) → length ks ≡ slot_count arities r.kept → length rs ≡ slot_count arities r.removed → All d.Proper ks → All d.Proper rs → HeadsHold arities r.kept ks → All (GuardHolds d (ks ++ rs)) r.guards → (HeadsHold arities r.removed rs ↔ ((fs : List d.Worth) × (length fs ≡ r.fresh) × All d.Proper fs × All (ItemHolds ((ks ++ rs) ++ fs)) r.body))

  -- the reading obeys every rule
  abbrev pub Obeys : Book → Type 0
  Obeys b = All (ObeysRule b.arities) b.rules
