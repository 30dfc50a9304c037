-- A body put on top of what waits, item by item. Assumes nothing.
use Rattle.std.proofs.Common.{◌≡◌, ℕ, ◌+◌, ◌-◌, ◌<◌, true, cond, ltb, List, ◌∷◌, ◌++◌, map, length, ap, ◌∙◌, subst, arith}
use Rattle.std.proofs.lemmas.List.{length-map, length-append}
use Rattle.std.proofs.lemmas.Bool.{and_from, lt-ltb}
use Rattle.terms.specs.declared.Operand.{Operand}
use Rattle.terms.specs.declared.Operand.TheVariants.{Variable}
use Rattle.terms.specs.declared.Term.{Term}
use Rattle.rules.specs.Books.{Goal, Rule, heads, slot_count}
use Rattle.machine.specs.Matching.{Store, fill_goal, head_slot, body_for}
use Rattle.machine.specs.Sheets.{Entry, goal}
use Rattle.lists.specs.declared.lists.Lists.{Lists}
use Rattle.lists.specs.Entries.{storable}
use Rattle.lists.specs.Views.{Waits, waiting_of, takes_goal}

module _ (at : ℕ → Operand) (rest : List Entry) where
  -- the filled goals on top of the rest
  abbrev pub topped : List (Goal Term) → List Entry
  topped gs = map goal (map (fill_goal at) gs) ++ rest

  topped_length : (gs : List (Goal Term)) → length (topped gs) ≡ length gs + length rest
  topped_length gs = length-append (map goal (map (fill_goal at) gs)) rest ∙ ap (λ (n : ℕ). n + length rest) (length-map (map (fill_goal at) gs) goal ∙ length-map gs (fill_goal at))

  -- one more goal, pushed on the others
  pub pushed_more : (a b c : Lists) (gs : List (Goal Term)) (g : Goal Term) (o : Goal Operand) → o ≡ fill_goal at g → storable (fill_goal at g) ≡ true → length gs + length rest < 512 → Waits a b (topped gs) → Waits b c (cond (takes_goal b o) (goal o ∷ waiting_of b) (waiting_of b)) → Waits a c (topped (g ∷ gs))
  pushed_more a b c gs g o m s room x y =
      let taken : takes_goal b o ≡ true = and_from (ltb (length (waiting_of b)) 512) (storable o) (lt-ltb (length (waiting_of b)) 512 (omega (arith, room, topped_length gs, ap length x.waiting))) (ap storable m ∙ s) in
      record {
        waiting = y.waiting ∙ ap (λ t. cond t (goal o ∷ waiting_of b) (waiting_of b)) taken ∙ ap (λ z. goal z ∷ waiting_of b) m ∙ ap (λ z. goal (fill_goal at g) ∷ z) x.waiting;
        history = y.history ∙ x.history;
        posted = y.posted ∙ x.posted;
        next = y.next ∙ x.next;
      }

-- the body of a rule, by its heads and its items
pub body_pushed : (arities : List ℕ) (store : Store) (r : Rule) (is : List ℕ) (made : ℕ) (hs : List ℕ) (gs : List (Goal Term)) (a b : Lists) → hs ≡ heads r → gs ≡ r.body → Waits a b (map goal (map (fill_goal (λ k. cond (ltb k (slot_count arities hs)) (head_slot arities store hs is k) (Variable (made + (k - slot_count arities hs))))) gs) ++ waiting_of a) → Waits a b (map goal (body_for arities store r is made) ++ waiting_of a)
body_pushed arities store r is made hs gs a b e q w =
    subst (λ z. Waits a b (map goal (map (fill_goal (λ k. cond (ltb k (slot_count arities z)) (head_slot arities store z is k) (Variable (made + (k - slot_count arities z))))) r.body) ++ waiting_of a)) e
    (subst (λ z. Waits a b (map goal (map (fill_goal (λ k. cond (ltb k (slot_count arities hs)) (head_slot arities store hs is k) (Variable (made + (k - slot_count arities hs))))) z) ++ waiting_of a)) q w)
