-- What was applied, found in a list of it. Assumes nothing.
use Rattle.std.proofs.Common.{◌≡◌, ℕ, Bool, true, false, ◌||◌, ◌&&◌, eqb, List, [], ◌∷◌, map, refl, sym, ap, ap₂, ◌∙◌, subst, inl, inr}
use Rattle.std.specs.List.{list_any}
use Rattle.std.specs.Cmp.Lexicographic.{pointwise}
use Rattle.std.proofs.lemmas.Bool.{and_parts, and_from, eqb-true, eq-eqb, both_ways}
use Rattle.std.proofs.lemmas.Cmp.{lists_equiv, nat_eq_equiv}
use Rattle.terms.specs.Answers.{Answers}
use Rattle.machine.specs.Lists.{◌∈◌, there}
use Rattle.machine.specs.Tuples.{ids, firing_of}
use Rattle.machine.specs.declared.tuple.firing.Firing as code
use Rattle.machine.proofs.Members.{mem_cases, mem_none, here_at}

-- lists whose numbers are the same in turn are the same
pub pointwise_same : (xs ys : List ℕ) → pointwise eqb xs ys ≡ true → xs ≡ ys
pointwise_same [] [] e = refl
pointwise_same [] (y ∷ ys) e = absurd (both_ways false refl e)
pointwise_same (x ∷ xs) [] e = absurd (both_ways false refl e)
pointwise_same (x ∷ xs) (y ∷ ys) e = let p = and_parts (eqb x y) (pointwise eqb xs ys) e in ap₂ ◌∷◌ (eqb-true x y p.0) (pointwise_same xs ys p.1)

-- whether two applications are of one rule to one tuple
abbrev pub same_firing : code.Firing → code.Firing → Bool
same_firing a b = eqb a.rule b.rule && pointwise eqb (ids a.tuple) (ids b.tuple)

firing_from : (a b : code.Firing) → same_firing a b ≡ true → firing_of a ≡ firing_of b
firing_from a b e = let p = and_parts (eqb a.rule b.rule) (pointwise eqb (ids a.tuple) (ids b.tuple)) e in ap₂ (λ k is. (k, is)) (eqb-true a.rule b.rule p.0) (pointwise_same (ids a.tuple) (ids b.tuple) p.1)

firing_to : (a b : code.Firing) → firing_of a ≡ firing_of b → same_firing a b ≡ true
firing_to a b e = and_from (eqb a.rule b.rule) (pointwise eqb (ids a.tuple) (ids b.tuple)) (eq-eqb a.rule b.rule (ap (λ f. f.0) e)) (ap (λ is. pointwise eqb is (ids b.tuple)) (ap (λ f. f.1) e) ∙ (lists_equiv nat_eq_equiv).refl (ids b.tuple))

-- whether an application stands in a list of them
pub answers_applied : (r : Bool) (x : code.Firing) (xs : List code.Firing) → r ≡ list_any (λ y. same_firing y x) xs → Answers r (firing_of x ∈ map firing_of xs)
answers_applied r x [] e = subst (λ b. Answers b (firing_of x ∈ [])) (sym e) mem_none
answers_applied r x (y ∷ ys) e = go (same_firing y x) refl r e (answers_applied (list_any (λ y. same_firing y x) ys) x ys refl)
  where
    Here : Type 0
    Here = firing_of x ∈ (firing_of y ∷ map firing_of ys)

    go : (b : Bool) → same_firing y x ≡ b → (r : Bool) → r ≡ (b || list_any (λ y. same_firing y x) ys) → Answers (list_any (λ y. same_firing y x) ys) (firing_of x ∈ map firing_of ys) → Answers r Here
    go true q r e rest = subst (λ b. Answers b Here) (sym e) (here_at (map firing_of ys) (sym (firing_from y x q)))
    go false q r e rest = later r (list_any (λ y. same_firing y x) ys) e rest
      where
        later : (r a : Bool) → r ≡ a → Answers a (firing_of x ∈ map firing_of ys) → Answers r Here
        later r true e m = subst (λ b. Answers b Here) (sym e) (there m)
        later r false e m = subst (λ b. Answers b Here) (sym e) (λ n. elim (mem_cases n) [ inl z ↦ both_ways (same_firing y x) q (firing_to y x (sym z)) | inr z ↦ m z ])
