-- A visit to the records of a table, step by step. Assumes nothing.
use Rattle.std.proofs.Common.{◌≡◌, ℕ, ℤ, Option, ap, ◌∙◌, subst}
use Rattle.table.specs.declared.partner.PartnerTable as PartnerTable
use Rattle.table.specs.Nexts.{NextOf}
use Rattle.tablelaws.specs.declared.visits.Identifiers.{Identifiers}
use Rattle.tablelaws.specs.Steps.{StepsOn}

module _ {B : Type 0} where
  -- the visit is to that table, by that symbol and that key
  pub record VisitOf (t : B) (s : Option ℕ) (k : Option ℤ) (v : Identifiers B) : Type 0 where
    pub table : v.table.now ≡ t
    pub symbol : v.symbol ≡ s
    pub key : v.key ≡ k

  pub begun : {t : B} {s : Option ℕ} {k : Option ℤ} {v w : Identifiers B} → w ≡ v → v.table.now ≡ t → v.symbol ≡ s → v.key ≡ k → VisitOf t s k w
  begun e a b c = record { table = ap (λ v. v.table.now) e ∙ a; symbol = ap (λ v. v.symbol) e ∙ b; key = ap (λ v. v.key) e ∙ c }

  module _ (P : PartnerTable.Ghosts B) {t : B} {s : Option ℕ} {k : Option ℤ} {v : Identifiers B} {r : Option ℕ} (o : VisitOf t s k v) where
    pub gone_on : {w : Identifiers B} → StepsOn P v.table.now v.symbol v.key v.above r w.table.now w.symbol w.key w.above → VisitOf t s k w
    gone_on z = record { table = z.table ∙ o.table; symbol = z.symbol ∙ o.symbol; key = z.key ∙ o.key }

    -- what a step gives is next of that table, symbol and key
    pub next_step : {u : B} {x : Option ℕ} {y : Option ℤ} {n : ℕ} → StepsOn P v.table.now v.symbol v.key v.above r u x y n → NextOf (P.records t) s k v.above r
    next_step z =
        subst (λ x. NextOf (P.records t) s x v.above r) o.key
        (subst (λ x. NextOf (P.records t) x v.key v.above r) o.symbol
        (subst (λ x. NextOf (P.records x) v.symbol v.key v.above r) o.table z.next))
