-- The value by which a partner is sought, from what the heads are filled with so far. Assumes nothing.
use Rattle.std.specs.Prelude.{◌≡◌, ℕ, suc, ◌-◌, ◌<◌, Bool, true, false, cond, List, [], ◌∷◌, length, take, ℤ, Some, None, Option, ◌==◌, nat_lt, slice_index}
use Rattle.std.specs.Option.{option_or}
use Rattle.terms.specs.declared.Operand.{Operand}
use Rattle.terms.specs.declared.Operand.TheVariants.{Value, Variable}
use Rattle.terms.specs.declared.Term.{Term}
use Rattle.terms.specs.declared.Term.TheVariants as term
use Rattle.terms.specs.declared.Primitive.{Primitive}
use Rattle.terms.specs.declared.Primitive.TheVariants.{Same, Least, Most}
use Rattle.rules.specs.Books.{Rule, heads, slot_count}
use Rattle.theory.specs.declared.interface.Theory as Theory
use Rattle.table.specs.declared.partner.PartnerTable as PartnerTable
use Rattle.table.specs.Nexts.{has_key}
use Rattle.table.specs.Records.{argument_of}
use Rattle.machine.specs.Matching.{Store, arguments_of}
use Rattle.machine.specs.Sheets.{Config}
use Rattle.machine.specs.Refined.{rule_of, living, Stands, Fits}

-- what each head, counted from 0, is filled with, if it is
abbrev pub Filling : Type 0
Filling = ℕ → Option ℕ

-- the argument at a place of the constraint that fills a head, if one does and has it
abbrev pub filled_argument : Store → Option ℕ → ℕ → Option Operand
filled_argument store None k = None
filled_argument store (Some i) k = argument_of (store i) k

-- what stands in the slot k, if its head is filled
abbrev pub partial_slot : List ℕ → Store → List ℕ → Filling → ℕ → Option Operand
partial_slot arities store [] filling k = None
partial_slot arities store (c ∷ cs) filling k = cond (nat_lt k (slice_index arities c)) (filled_argument store (filling 0) k) (partial_slot arities store cs (λ p. filling (suc p)) (k - slice_index arities c))

-- the value of an operand that is one; a variable, even a fixed one, gives none
abbrev pub value_of : Option Operand → Option ℤ
value_of None = None
value_of (Some (Value n)) = Some n
value_of (Some (Variable x)) = None

-- the value of a term, where slots have those operands, if any
abbrev pub value_in : (ℕ → Option Operand) → Term → Option ℤ
value_in at (term.Value n) = Some n
value_in at (term.Slot k) = value_of (at k)

-- whether the term is that slot
abbrev pub is_slot : ℕ → Term → Bool
is_slot slot (term.Value n) = false
is_slot slot (term.Slot k) = k == slot

-- the value to which a guard ties a slot: only same does, either way round
abbrev pub tied_to : (ℕ → Option Operand) → ℕ → Primitive Term → Option ℤ
tied_to at slot (Same a b) = option_or (cond (is_slot slot a) (value_in at b) None) (cond (is_slot slot b) (value_in at a) None)
tied_to at slot (Least a n) = None
tied_to at slot (Most a n) = None

-- the value to which the first guard that does so ties the slot
abbrev pub key_from : (ℕ → Option Operand) → ℕ → List (Primitive Term) → Option ℤ
key_from at slot [] = None
key_from at slot (g ∷ gs) = option_or (tied_to at slot g) (key_from at slot gs)

-- the key of the head n: the value to which the guards tie its first slot; a symbol without arguments has none
abbrev pub key_at : List ℕ → Store → Rule → Filling → ℕ → Option ℤ
key_at arities store r filling n = cond (nat_lt 0 (slice_index arities (slice_index (heads r) n))) (key_from (partial_slot arities store (heads r) filling) (slot_count arities (take n (heads r))) r.guards) None

-- a head that is filled has what the tuple has there
abbrev pub Agrees : Filling → List ℕ → Type 0
Agrees filling tuple = (p j : ℕ) → filling p ≡ Some j → slice_index tuple p ≡ j

module _ {A B : Type 0} (T : Theory.Ghosts A) (P : PartnerTable.Ghosts B) where
  -- the key misses nothing: while the theory stands, in a tuple that fits, each head's constraint has the key that any part of the tuple gives the head
  abbrev pub KeyedPartners : Type 0
  KeyedPartners = (s : Config A B) → Stands T s → (k h i : ℕ) (tuple : List ℕ) → Fits T P s k h i tuple → (filling : Filling) → Agrees filling tuple → (n : ℕ) → n < length (heads (rule_of s k)) → has_key (key_at s.book.arities (living P s) (rule_of s k) filling n) (arguments_of (living P s (slice_index tuple n))) ≡ true
