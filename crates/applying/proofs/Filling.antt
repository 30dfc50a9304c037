-- Arguments filled one by one. Assumes nothing.
use Rattle.std.proofs.Common.{◌≡◌, ℕ, ◌+◌, ◌<◌, ◌≤◌, List, [], ◌∷◌, ◌++◌, map, length, get_or, take, vec_items, Vec, sym, ap, ◌∙◌, subst, arith}
use Rattle.std.specs.declared.alloc.Global.{Global}
use Rattle.std.proofs.lemmas.List.{take_more, take_all, map-append, length-map, length-take-le}
use Rattle.terms.specs.declared.Operand.{Operand}
use Rattle.terms.specs.declared.Term.{Term}
use Rattle.terms.specs.Lists.{All}
use Rattle.terms.specs.declared.Primitive.{Primitive}
use Rattle.terms.specs.Primitives.{TermValid, PrimitiveValid}
use Rattle.rules.specs.declared.Item.{Item}
use Rattle.rules.specs.declared.Item.TheVariants.{Tell, Add}
use Rattle.rules.specs.Books.{tell, add}
use Rattle.rules.specs.Valids.{GoalValid}
use Rattle.rules.specs.Views.{goal_of}
use Rattle.machine.specs.Matching.{fill, fill_primitive, fill_goal}

-- one more of at most four
pub one_more : {A B : Type 0} (f : A → B) (ts : List A) (i : ℕ) (d : A) (xs ys : List B) (x : B) → i < length ts → length ts ≤ 4 → xs ≡ map f (take i ts) → x ≡ f (get_or ts i d) → ys ≡ take 4 (xs ++ (x ∷ [])) → ys ≡ map f (take (i + 1) ts)
one_more f ts i d xs ys x l few e q z = z
    ∙ ap (λ zs. take 4 (zs ++ (x ∷ []))) e
    ∙ ap (λ y. take 4 (map f (take i ts) ++ (y ∷ []))) q
    ∙ ap (take 4) (sym (map-append f (take i ts) (get_or ts i d ∷ [])) ∙ ap (map f) (sym (take_more ts i d l)))
    ∙ take_all 4 (map f (take (i + 1) ts)) (omega (arith, length-map (take (i + 1) ts) f, length-take-le (i + 1) ts (omega (arith, l)), l, few))

-- a constraint of a body, by its filled arguments
pub constraint_filled : (arities : List ℕ) → ((c : ℕ) → get_or arities c 0 ≤ 4) → (at : ℕ → Operand) (n : ℕ) (item : Item) (s : ℕ) (v : Vec Term Global) → item ≡ Add s v → GoalValid arities n (goal_of item) → (ts : List Term) → ts ≡ vec_items v → (xs : List Operand) → (length ts ≤ 4 → All (TermValid n) ts → xs ≡ map (fill at) ts) → add s xs ≡ fill_goal at (goal_of item)
constraint_filled arities short at n item s v e valid ts q xs f =
    let h = subst (λ z. GoalValid arities n (goal_of z)) e valid in
    ap (add s) (f (omega (arith, ap length q, h.1, short s)) (subst (All (TermValid n)) (sym q) h.2) ∙ ap (map (fill at)) q)
    ∙ ap (λ z. fill_goal at (goal_of z)) (sym e)

-- a primitive of a body, filled
pub primitive_told : (arities : List ℕ) (n : ℕ) (at : ℕ → Operand) (item : Item) (p : Primitive Term) → item ≡ Tell p → GoalValid arities n (goal_of item) → (q : Primitive Operand) → (PrimitiveValid n p → q ≡ fill_primitive at p) → tell q ≡ fill_goal at (goal_of item)
primitive_told arities n at item p e valid q f = ap tell (f (subst (λ z. GoalValid arities n (goal_of z)) e valid)) ∙ ap (λ z. fill_goal at (goal_of z)) (sym e)
