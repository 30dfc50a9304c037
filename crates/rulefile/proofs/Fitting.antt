-- The parts of valid rules can be written.
use Rattle.std.proofs.Common.{ℕ, ◌≤◌, List, [], ◌∷◌, map, length, vec_items, ap, arith, take-append-drop}
use lib.ListN.{length-map}
use Rattle.terms.specs.declared.Primitive.{Primitive}
use Rattle.terms.specs.declared.Primitive.TheVariants.{Same, Least, Most}
use Rattle.terms.specs.declared.Term.{Term}
use Rattle.terms.specs.declared.Term.TheVariants.{Value, Slot}
use Rattle.terms.specs.Lists.{All}
use Rattle.terms.specs.Primitives.{TermValid, PrimitiveValid}
use Rattle.rules.specs.Valids.{GoalValid, RuleValid, Valid}
use Rattle.rules.specs.Views.{goal_of, rule_of, book_of}
use Rattle.rules.specs.declared.Item.{Item}
use Rattle.rules.specs.declared.Item.TheVariants.{Tell, Add}
use Rattle.rules.specs.declared.Rule as code
use Rattle.rulefile.specs.Fits.{TermFits, PrimitiveFits, ItemFits, RuleFits}

all_weaker : {A B : Type 0} (f : A → B) (P : B → Type 0) (Q : A → Type 0) → ((x : A) → P (f x) → Q x) → (xs : List A) → All P (map f xs) → All Q xs
all_weaker f P Q h [] v = tt
all_weaker f P Q h (x ∷ xs) v = (h x v.0, all_weaker f P Q h xs v.1)

all_imply : {A : Type 0} (P Q : A → Type 0) → ((x : A) → P x → Q x) → (xs : List A) → All P xs → All Q xs
all_imply P Q h [] v = tt
all_imply P Q h (x ∷ xs) v = (h x v.0, all_imply P Q h xs v.1)

term_fits : (n : ℕ) (t : Term) → TermValid n t → TermFits t
term_fits n (Value v) w = w
term_fits n (Slot k) w = tt

primitive_fits : (n : ℕ) (p : Primitive Term) → PrimitiveValid n p → PrimitiveFits p
primitive_fits n (Same a b) v = (term_fits n a v.0, term_fits n b v.1)
primitive_fits n (Least a m) v = (term_fits n a v.0, v.1)
primitive_fits n (Most a m) v = (term_fits n a v.0, v.1)

item_fits : (arities : List ℕ) (n : ℕ) (i : Item) → GoalValid arities n (goal_of i) → ItemFits i
item_fits arities n (Tell p) v = primitive_fits n p v
item_fits arities n (Add symbol arguments) v = all_imply _ _ (term_fits n) (vec_items arguments) v.2

rule_fits : (arities : List ℕ) (r : code.Rule) → RuleValid arities (rule_of r) → RuleFits r
rule_fits arities r v = record {
  few_heads = omega (arith, v.few_heads, ap length (take-append-drop r.kept (vec_items r.heads)), r.heads.ok.0);
  few_guards = omega (arith, v.few_guards, r.guards.ok.0);
  guards_fit = all_imply _ _ (primitive_fits _) (vec_items r.guards) v.guards;
  few_items = omega (arith, v.few_items, length-map (vec_items r.body) goal_of, r.body.ok.0);
  items_fit = all_weaker goal_of _ _ (item_fits arities _) (vec_items r.body) v.body;
}

pub rules_fit : (arities : List ℕ) (rs : List code.Rule) → Valid (book_of arities rs) → (length rs ≤ 32) × All RuleFits rs
rules_fit arities rs v = (omega (arith, v.few_rules, length-map rs rule_of), all_weaker rule_of _ _ (rule_fits arities) rs v.rules)
