-- The goals that wait, and lists that hold the same, each as often. Assumes nothing.
use Rattle.std.proofs.Common.{◌≡◌, ℕ, Bool, true, false, cond, ◌⊎◌, List, [], ◌∷◌, ◌++◌, map, sym, refl, ap, subst, inl, inr, append_assoc}
use Rattle.terms.specs.declared.Operand.{Operand}
use Rattle.rules.specs.Books.{Goal}
use Rattle.machine.specs.Lists.{◌∈◌, here, there, Shuffle, none, next}
use Rattle.machine.specs.Sheets.{Entry, goal, wake, active}
use Rattle.machine.specs.Abstract.{pending_of}
use Rattle.machine.proofs.Members.{mem_cases, mem_none}

pub pending_append : (v w : List Entry) → pending_of (v ++ w) ≡ pending_of v ++ pending_of w
pending_append [] w = refl
pending_append (goal g ∷ v) w = ap (λ l. g ∷ l) (pending_append v w)
pending_append (wake i ∷ v) w = pending_append v w
pending_append (active i j ∷ v) w = pending_append v w

pub pending_woken : (is : List ℕ) (w : List Entry) → pending_of (map wake is ++ w) ≡ pending_of w
pending_woken [] w = refl
pending_woken (i ∷ is) w = pending_woken is w

pub pending_goals : (gs : List (Goal Operand)) (w : List Entry) → pending_of (map goal gs ++ w) ≡ gs ++ pending_of w
pending_goals [] w = refl
pending_goals (g ∷ gs) w = ap (λ l. g ∷ l) (pending_goals gs w)

pub pending_kept : (b : Bool) (i j : ℕ) (w : List Entry) → pending_of (cond b (active i j ∷ w) w) ≡ pending_of w
pending_kept true i j w = refl
pending_kept false i j w = refl

pub pending_mem : (w : List Entry) (g : Goal Operand) → g ∈ pending_of w → goal g ∈ w
pending_mem [] g m = absurd (mem_none m)
pending_mem (goal h ∷ w) g m = go (λ n. pending_mem w g n) (mem_cases m)
  where
    go : (g ∈ pending_of w → goal g ∈ w) → (g ≡ h) ⊎ (g ∈ pending_of w) → goal g ∈ (goal h ∷ w)
    go ih (inl e) = subst (λ z. goal g ∈ (goal z ∷ w)) e here
    go ih (inr n) = there (ih n)
pending_mem (wake i ∷ w) g m = there (pending_mem w g m)
pending_mem (active i j ∷ w) g m = there (pending_mem w g m)

module _ {A : Type 0} where
  pub shuffle_take : {x : A} {xs ys : List A} → Shuffle (x ∷ xs) ys → (before : List A) × (later : List A) × (ys ≡ before ++ (x ∷ later)) × Shuffle xs (before ++ later)
  shuffle_take (next x ys zs s) = (ys, zs, refl, s)

  pub shuffle_front : (gs : List A) {xs ys : List A} → Shuffle xs ys → Shuffle (gs ++ xs) (gs ++ ys)
  shuffle_front [] s = s
  shuffle_front (g ∷ gs) {xs} {ys} s = next g [] (gs ++ ys) (shuffle_front gs s)

  pub shuffle_last : (g : A) {xs ys : List A} → Shuffle xs ys → Shuffle (xs ++ (g ∷ [])) (ys ++ (g ∷ []))
  shuffle_last g none = next g [] [] none
  shuffle_last g (next x ys zs {xs = xs} s) = subst (Shuffle (x ∷ (xs ++ (g ∷ [])))) (sym (append_assoc ys (x ∷ zs) (g ∷ []))) (next x ys (zs ++ (g ∷ [])) (subst (Shuffle (xs ++ (g ∷ []))) (append_assoc ys zs (g ∷ [])) (shuffle_last g s)))
