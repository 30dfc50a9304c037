-- The least identifier of the rows that answer.
use Rattle.std.proofs.Common.{◌≡◌, ℕ, min, Bool, cond, ◌&&◌, List, [], ◌∷◌, map, ℤ, Some, None, Option, sym, refl, ap, ◌∙◌, subst, inl, inr, arith, append_assoc}
use Rattle.std.proofs.Math.Path.{fun_ext}
use Rattle.std.specs.Prelude.{nat_lt}
use Rattle.std.specs.List.{filter, fold, reduce}
use Rattle.std.proofs.lemmas.Bool.{cases_Bool, and_parts, ltb-true, lt-ltb}
use Rattle.std.proofs.lemmas.Bool.Decides.{nat_tests}
use Rattle.std.proofs.lemmas.List.{append-nil}
use Rattle.table.specs.Tables.{Table, both}
use Rattle.table.specs.Nexts.{NextOf, answers, lower}
use Rattle.table.specs.Rows.{record_of, look}
use Rattle.table.specs.declared.row.Row.{Row}
use Rattle.table.specs.TablesLemmas.{only}
use Rattle.table.specs.NextsLemmas.{next_both, next_only, next_both_not}
use Rattle.table.specs.Looks.{look_first}

-- the row stands above and answers
abbrev pub passes : Option ℕ → Option ℤ → ℕ → Row → Bool
passes s k low x = nat_lt low x.identifier && answers s k (record_of x)

-- the least of a number, if there is one, and those
abbrev pub least_with : Option ℕ → List ℕ → Option ℕ
least_with None ns = reduce min ns
least_with (Some m) ns = Some (fold min m ns)

lower_min : (m n : ℕ) → lower (Some m) (Some n) ≡ Some (min m n)
lower_min m n = grind (arith, nat_tests)

least_more : (o : Option ℕ) (n : ℕ) (ns : List ℕ) → least_with (lower o (Some n)) ns ≡ least_with o (n ∷ ns)
least_more None n ns = refl
least_more (Some m) n ns = ap (λ u. least_with u ns) (lower_min m n)

both_assoc : (t u v : Table) → both t (both u v) ≡ both (both t u) v
both_assoc t u v = fun_ext (λ i. sym (append_assoc (t i) (u i) (v i)))

least_none : (o : Option ℕ) → o ≡ least_with o []
least_none None = refl
least_none (Some m) = refl

module _ (s : Option ℕ) (k : Option ℤ) (low : ℕ) where
  least_both : (t : Table) (o : Option ℕ) (xs : List Row) → NextOf t s k low o → NextOf (both t (look xs)) s k low (least_with o (map (λ (x : Row). x.identifier) (filter (passes s k low) xs)))
  least_both t o [] h = subst (λ u. NextOf u s k low (least_with o [])) (fun_ext (λ i. sym (append-nil (t i)))) (subst (NextOf t s k low) (least_none o) h)
  least_both t o (x ∷ xs) h =
      let one = only x.identifier (record_of x) in
      let rest = filter (passes s k low) xs in
      subst (λ u. NextOf u s k low (least_with o (map (λ (y : Row). y.identifier) (cond (passes s k low x) (x ∷ rest) rest))))
      (sym (ap (both t) (look_first x xs) ∙ both_assoc t one (look xs)))
      (elim (cases_Bool (passes s k low x)) [
        | inl yes_x ↦
            let parts = and_parts _ _ yes_x in
            subst (λ b. NextOf (both (both t one) (look xs)) s k low (least_with o (map (λ (y : Row). y.identifier) (cond b (x ∷ rest) rest)))) (sym yes_x)
            (subst (NextOf (both (both t one) (look xs)) s k low) (least_more o x.identifier (map (λ (y : Row). y.identifier) rest))
            (least_both (both t one) (lower o (Some x.identifier)) xs
            (next_both t one s k low o (Some x.identifier) h (next_only x.identifier (record_of x) s k low (ltb-true low x.identifier parts.0) parts.1))))
        | inr no_x ↦
            subst (λ b. NextOf (both (both t one) (look xs)) s k low (least_with o (map (λ (y : Row). y.identifier) (cond b (x ∷ rest) rest)))) (sym no_x)
            (least_both (both t one) o xs
            (next_both_not t x.identifier (record_of x) s k low o h (λ l. sym (ap (λ b. b && answers s k (record_of x)) (lt-ltb low x.identifier l)) ∙ no_x)))
      ])

-- the least of those that answer among the rows
pub next_least : (xs : List Row) (s : Option ℕ) (k : Option ℤ) (low : ℕ) → NextOf (look xs) s k low (reduce min (map (λ (x : Row). x.identifier) (filter (passes s k low) xs)))
next_least xs s k low = least_both s k low (λ i. []) None xs (λ i l. refl)
