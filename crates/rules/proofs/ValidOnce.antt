-- A book is valid in at most one way, so that its validity can be the invariant of a type.
use Rattle.std.proofs.Common.{ℕ, List, [], ◌∷◌, ℤ, ◌≤ℤ◌, refl}
use mathlib.Core.Logic.{∥∥₁_elim}
use Prim.{IsProp}
use native.Mathlib.Bridge.{le_prop}
use native.Mathlib.Nat.{ℕ_set}
use lib.Dec.{T_prop}
use lib.Signed.{le_z}
use Rattle.terms.specs.declared.Primitive.{Primitive}
use Rattle.terms.specs.declared.Primitive.TheVariants.{Same, Least, Most}
use Rattle.terms.specs.declared.Term.{Term}
use Rattle.terms.specs.declared.Term.TheVariants.{Value, Slot}
use Rattle.terms.specs.Lists.{All}
use Rattle.terms.specs.Values.{IsValue}
use Rattle.terms.specs.Primitives.{TermValid, PrimitiveValid}
use Rattle.rules.specs.Books.{Goal, tell, add, Rule, Book}
use Rattle.rules.specs.Valids.{GoalValid, RuleValid, Valid}

all_once : {A : Type 0} (P : A → Type 0) → ((x : A) → IsProp (P x)) → (xs : List A) → IsProp (All P xs)
all_once P once [] a b = refl
all_once P once (x ∷ xs) a b = λ i. (once x a.0 b.0 i, all_once P once xs a.1 b.1 i)

order_once : (m n : ℤ) → IsProp (m ≤ℤ n)
order_once m n a b = λ i. record { le = T_prop (le_z m n) a.le b.le i }

value_once : (n : ℤ) → IsProp (IsValue n)
value_once n a b = λ i. (order_once _ _ a.0 b.0 i, order_once _ _ a.1 b.1 i)

term_once : (n : ℕ) (t : Term) → IsProp (TermValid n t)
term_once n (Value v) = value_once v
term_once n (Slot k) = le_prop

primitive_once : (n : ℕ) (p : Primitive Term) → IsProp (PrimitiveValid n p)
primitive_once n (Same x y) a b = λ i. (term_once n x a.0 b.0 i, term_once n y a.1 b.1 i)
primitive_once n (Least x m) a b = λ i. (term_once n x a.0 b.0 i, value_once m a.1 b.1 i)
primitive_once n (Most x m) a b = λ i. (term_once n x a.0 b.0 i, value_once m a.1 b.1 i)

goal_once : (arities : List ℕ) (n : ℕ) (g : Goal Term) → IsProp (GoalValid arities n g)
goal_once arities n (tell p) a b = primitive_once n p a b
goal_once arities n (add c ts) a b = λ i. (le_prop a.0 b.0 i, ℕ_set _ _ a.1 b.1 i, all_once _ (term_once n) ts a.2 b.2 i)

rule_once : (arities : List ℕ) (r : Rule) → IsProp (RuleValid arities r)
rule_once arities r a b = λ i. record {
  some_head = le_prop a.some_head b.some_head i;
  few_heads = le_prop a.few_heads b.few_heads i;
  declared = all_once _ (λ _. le_prop) _ a.declared b.declared i;
  few_guards = le_prop a.few_guards b.few_guards i;
  guards = all_once _ (primitive_once _) _ a.guards b.guards i;
  few_fresh = le_prop a.few_fresh b.few_fresh i;
  few_items = le_prop a.few_items b.few_items i;
  body = all_once _ (goal_once arities _) _ a.body b.body i;
}

valid_once : (b : Book) → IsProp (Valid b)
valid_once k a b = λ i. record {
  some_symbol = le_prop a.some_symbol b.some_symbol i;
  few_symbols = le_prop a.few_symbols b.few_symbols i;
  few_arguments = all_once _ (λ _. le_prop) _ a.few_arguments b.few_arguments i;
  few_rules = le_prop a.few_rules b.few_rules i;
  rules = all_once _ (rule_once _) _ a.rules b.rules i;
}

-- what the invariant of a type says
pub validity : (b : Book) → ∥ Valid b ∥₁ → Valid b
validity b v = ∥∥₁_elim v (valid_once b) (λ x. x)
