-- Where a rule applies, and what it then asks for. Assumes nothing.
use Rattle.std.specs.Prelude.{◌≡◌, ℕ, ◌+◌, ◌-◌, cond, List, [], ◌∷◌, map, length, drop, pos, Some, None, Option, nat_lt, slice_index, slice_index_or}
use Rattle.terms.specs.declared.Operand.{Operand}
use Rattle.terms.specs.declared.Operand.TheVariants.{Value, Variable}
use Rattle.terms.specs.declared.Term.{Term}
use Rattle.terms.specs.declared.Term.TheVariants as term
use Rattle.terms.specs.declared.Primitive.{Primitive}
use Rattle.terms.specs.Lists.{All}
use Rattle.terms.specs.Primitives.{map_primitive}
use Rattle.terms.specs.Domains.{Domain}
use Rattle.rules.specs.Books.{Goal, tell, add, Rule, Book, heads, slot_count}
use Rattle.theory.specs.Meanings.{Meaning, Follows}
use Rattle.table.specs.Records.{Record, symbol_of}
use Rattle.machine.specs.Lists.{Distinct}

-- the living constraints by identifier
abbrev pub Store : Type 0
Store = ℕ → Option Record

-- a rule without parts, which stands for every number that is no rule's
abbrev pub no_rule : Rule
no_rule = record { kept = []; removed = []; guards = []; fresh = 0; body = [] }

-- the rules are numbered from 1
abbrev pub rule_at : Book → ℕ → Rule
rule_at b k = slice_index_or b.rules (k - 1) no_rule

-- a rule's number with the tuple that it was applied to
abbrev pub Firing : Type 0
Firing = ℕ × List ℕ

-- a term where each slot has an operand
abbrev pub fill : (ℕ → Operand) → Term → Operand
fill at (term.Value n) = Value n
fill at (term.Slot k) = at k

-- a guard or a body's primitive, so filled
abbrev pub fill_primitive : (ℕ → Operand) → Primitive Term → Primitive Operand
fill_primitive at = map_primitive (fill at)

-- a body item, so filled
abbrev pub fill_goal : (ℕ → Operand) → Goal Term → Goal Operand
fill_goal at (tell p) = tell (fill_primitive at p)
fill_goal at (add s ts) = add s (map (fill at) ts)

-- the arguments of a constraint, if it lives
abbrev pub arguments_of : Option Record → List Operand
arguments_of None = []
arguments_of (Some r) = r.arguments

-- what stands in the slot k of a tuple: the argument of the head that the slot belongs to, each head having as many slots as its symbol has arguments
abbrev pub head_slot : List ℕ → Store → List ℕ → List ℕ → ℕ → Operand
head_slot arities store [] is k = Value (pos 0)
head_slot arities store (c ∷ cs) [] k = Value (pos 0)
head_slot arities store (c ∷ cs) (i ∷ is) k = cond (nat_lt k (slice_index arities c)) (slice_index_or (arguments_of (store i)) k (Value (pos 0))) (head_slot arities store cs is (k - slice_index arities c))

-- the same with the fresh variables after the head slots, numbered from the made ones on
abbrev pub body_slot : List ℕ → Store → Rule → List ℕ → ℕ → ℕ → Operand
body_slot arities store r tuple made k = cond (nat_lt k (slot_count arities (heads r))) (head_slot arities store (heads r) tuple k) (Variable (made + (k - slot_count arities (heads r))))

-- the body of a rule applied to a tuple
abbrev pub body_for : List ℕ → Store → Rule → List ℕ → ℕ → List (Goal Operand)
body_for arities store r tuple made = map (fill_goal (body_slot arities store r tuple made)) r.body

-- a living constraint for each head, with the head's symbol
abbrev pub Matches : Store → List ℕ → List ℕ → Type 0
Matches store [] [] = Unit {0}
Matches store [] (i ∷ is) = ⊥
Matches store (s ∷ ss) [] = ⊥
Matches store (s ∷ ss) (i ∷ is) = (symbol_of (store i) ≡ Some s) × Matches store ss is

-- the rule applies to the tuple: a living constraint for each head, all different, and every guard follows
pub record Applies {d : Domain} (m : Meaning d) (arities : List ℕ) (store : Store) (r : Rule) (tuple : List ℕ) : Type 0 where
  pub matches : Matches store (heads r) tuple
  pub distinct : Distinct tuple
  pub guarded : All (λ g. Follows m (fill_primitive (head_slot arities store (heads r) tuple) g)) r.guards

-- the identifiers in the removed heads of a tuple
abbrev pub gone : Rule → List ℕ → List ℕ
gone r tuple = drop (length r.kept) tuple
