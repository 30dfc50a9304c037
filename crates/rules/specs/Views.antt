-- What the data of the code mean. Assumes nothing.
use Rattle.std.specs.Prelude.{ℕ, List, map, take, drop, vec_items}
use Rattle.terms.specs.declared.Term.{Term}
use Rattle.rules.specs.declared.Item.{Item}
use Rattle.rules.specs.declared.Item.TheVariants.{Tell, Add}
use Rattle.rules.specs.declared.Rule as code
use Rattle.rules.specs.Books.{Goal, tell, add, Rule, Book}

abbrev pub goal_of : Item → Goal Term
goal_of (Tell p) = tell p
goal_of (Add symbol arguments) = add symbol (vec_items arguments)

-- the first heads are kept, the others removed
abbrev pub rule_of : code.Rule → Rule
rule_of r = record {
  kept = take r.kept (vec_items r.heads);
  removed = drop r.kept (vec_items r.heads);
  guards = vec_items r.guards;
  fresh = r.fresh;
  body = map goal_of (vec_items r.body);
}

abbrev pub book_of : List ℕ → List code.Rule → Book
book_of arities rules = record { arities = arities; rules = map rule_of rules }
