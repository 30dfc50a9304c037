-- Links are as they are in one way only, and of no rows there are none.
use Rattle.std.proofs.Common.{◌≡◌, ℕ, zero, suc, Bool, true, false, List, [], ◌∷◌, length, get_or, Some, None, Option, sym, refl, subst, arith}
use mathlib.Core.Bool.{Bool-set}
use mathlib.Core.HLevel.{Π_prop, ×_prop, ×₃_prop}
use mathlib.Core.Logic.{∥∥₁_elim}
use native.Mathlib.Bridge.{le_prop}
use native.Mathlib.Nat.{ℕ_set}
use Rattle.std.proofs.lemmas.Bool.{both_ways}
use Rattle.table.specs.Nexts.{Least}
use Rattle.table.specs.declared.row.Row.{Row}
use Rattle.chain.specs.Chains.{To, Linked}

least_prop : (p : ℕ → Bool) (low : ℕ) (o : Option ℕ) → IsProp (Least p low o)
least_prop p low None = Π_prop (λ i. Π_prop (λ l. Bool-set (p i) false))
least_prop p low (Some n) = ×₃_prop le_prop (Bool-set (p n) true) (Π_prop (λ i. Π_prop (λ l. Π_prop (λ m. Bool-set (p i) false))))

to_prop : (rows : List Row) (o : Option ℕ) (s low : ℕ) → IsProp (To rows o s low)
to_prop rows None s low = least_prop _ low None
to_prop rows (Some k) s low = ×_prop le_prop (Π_prop (λ d. least_prop _ low (Some (get_or rows k d).identifier)))

linked_prop : (rows : List Row) (links heads : List (Option ℕ)) → IsProp (Linked rows links heads)
linked_prop rows links heads x y = λ i. record {
  long = ℕ_set _ _ x.long y.long i;
  wide = ℕ_set _ _ x.wide y.wide i;
  firsts = Π_prop (λ s. Π_prop (λ l. to_prop rows (get_or heads s None) s 0)) x.firsts y.firsts i;
  others = Π_prop (λ k. Π_prop (λ l. Π_prop (λ d. to_prop rows (get_or links k None) (get_or rows k d).symbol (get_or rows k d).identifier))) x.others y.others i;
}

-- what a table's ghost field says
pub linked : {rows : List Row} {links heads : List (Option ℕ)} → ∥ Linked rows links heads ∥₁ → Linked rows links heads
linked {rows} {links} {heads} h = ∥∥₁_elim h (linked_prop rows links heads) (λ x. x)

abbrev pub all_none : List (Option ℕ) → Bool
all_none [] = true
all_none (None ∷ os) = all_none os
all_none (Some x ∷ os) = false

none_at : (os : List (Option ℕ)) (k : ℕ) → all_none os ≡ true → get_or os k None ≡ None
none_at [] k h = refl
none_at (None ∷ os) zero h = refl
none_at (None ∷ os) (suc k) h = none_at os k h
none_at (Some x ∷ os) k h = absurd (both_ways false refl h)

pub linked_none : (rows : List Row) (links heads : List (Option ℕ)) → rows ≡ [] → links ≡ [] → all_none heads ≡ true → length heads ≡ 32 → Linked rows links heads
linked_none rows links heads e f h w =
    subst (λ xs. Linked xs links heads) (sym e) (subst (λ ys. Linked [] ys heads) (sym f)
    (record {
      long = refl;
      wide = w;
      firsts = λ s l. subst (λ o. To [] o s 0) (sym (none_at heads s h)) (λ i a. refl);
      others = λ k l d. absurd (omega arith);
    }))
