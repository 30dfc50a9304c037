-- What an accepted posting is made of. Assumes nothing.
use Rattle.std.proofs.Common.{◌≡◌, ℕ, ◌<◌, Bool, true, false, cond, eqb, List, [], ◌∷◌, length, get_or, ℤ, Some, refl, ap, ◌∙◌, subst, arith}
use Rattle.std.proofs.lemmas.Bool.{eqb-true, le-ltb}
use Rattle.std.proofs.lemmas.Option.{none-some, same_Some}
use Rattle.terms.specs.declared.Operand.{Operand}
use Rattle.terms.specs.declared.Operand.TheVariants.{Value, Variable}
use Rattle.terms.specs.declared.Primitive.TheVariants.{Same, Least, Most}
use Rattle.terms.specs.Lists.{All}
use Rattle.terms.specs.Primitives.{EachPart}
use Rattle.rules.specs.Books.{Goal, tell, add, Book}
use Rattle.machine.specs.Refined.{operand_count, bounded, primitive_of, goal_of}

-- Q of each operand, N of the number of least and most; a constraint has a declared symbol and as many operands as that takes
abbrev pub PostingParts : (Operand → Type 0) → (ℤ → Type 0) → Book → Goal Operand → Type 0
PostingParts Q N book (tell p) = EachPart Q N p
PostingParts Q N book (add c xs) = (c < length book.arities) × (length xs ≡ get_or book.arities c 0) × All Q xs

module _ (Q : Operand → Type 0) (N : ℤ → Type 0) (number : (n : ℤ) → Q (Value n) → N n) (book : Book) where
  bound_parts : (c : Bool) (a b : Operand) (g : Goal Operand) → Q a → Q b → bounded (cond c Least Most) a b ≡ Some g → PostingParts Q N book g
  bound_parts true a (Value n) g p q e = subst (PostingParts Q N book) (same_Some _ _ e) (p, number n q)
  bound_parts false a (Value n) g p q e = subst (PostingParts Q N book) (same_Some _ _ e) (p, number n q)
  bound_parts true a (Variable x) g p q e = absurd (none-some _ e)
  bound_parts false a (Variable x) g p q e = absurd (none-some _ e)

  pair_parts : (s c : Bool) (a b : Operand) (g : Goal Operand) → Q a → Q b → cond s (Some (tell (Same a b))) (bounded (cond c Least Most) a b) ≡ Some g → PostingParts Q N book g
  pair_parts true c a b g p q e = subst (PostingParts Q N book) (same_Some _ _ e) (p, q)
  pair_parts false c a b g p q e = bound_parts c a b g p q e

  primitive_parts : (kind : ℕ) (xs : List Operand) (g : Goal Operand) → All Q xs → primitive_of kind xs ≡ Some g → PostingParts Q N book g
  primitive_parts kind [] g a e = absurd (none-some _ e)
  primitive_parts kind (x ∷ []) g a e = absurd (none-some _ e)
  primitive_parts kind (x ∷ (y ∷ [])) g a e = pair_parts (eqb kind 0) (eqb kind 1) x y g a.0 a.1.0 e
  primitive_parts kind (x ∷ (y ∷ (z ∷ xs))) g a e = absurd (none-some _ e)

  pub posting_parts : (kind symbol : ℕ) (xs : List Operand) (g : Goal Operand) → (kind ≡ 3 → symbol < length book.arities) → length xs ≡ operand_count book kind symbol → All Q xs → goal_of kind symbol xs ≡ Some g → PostingParts Q N book g
  posting_parts kind symbol xs g declared counted a e = go (eqb kind 3) refl e
    where
      go : (b : Bool) → eqb kind 3 ≡ b → cond b (Some (add symbol xs)) (primitive_of kind xs) ≡ Some g → PostingParts Q N book g
      go true q z = let k : kind ≡ 3 = eqb-true kind 3 q in subst (PostingParts Q N book) (same_Some _ _ z) (declared k, counted ∙ ap (λ b. cond b 2 (get_or book.arities symbol 0)) (le-ltb kind 3 (omega arith)), a)
      go false q z = primitive_parts kind xs g a z
