-- Variables made and records removed one by one. Assumes nothing.
use Rattle.std.proofs.Common.{◌≡◌, ℕ, ◌+◌, ◌<◌, Bool, true, false, cond, eqb, List, [], ◌∷◌, ◌++◌, Some, None, Option, sym, refl, ap, ◌∙◌, arith}
use mathlib.Core.Path.{fun_ext}
use Rattle.terms.specs.Domains.{Domain}
use Rattle.theory.specs.Meanings.{Meaning, Made}
use Rattle.theory.specs.Says.{MakeSays}
use Rattle.table.specs.Lists.{memberb}
use Rattle.table.specs.Tables.{Table, without}

module _ {d : Domain} where
  pub made_none : (m : Meaning d) → Made m 0 m
  made_none m = (omega arith, λ v. ((λ a. a), (λ a. a)))

  pub made_more : (m n p : Meaning d) (i capacity : ℕ) (r : Option ℕ) → Made m i n → m.made + i < capacity → MakeSays capacity n r p → Made m (i + 1) p
  made_more m n p i capacity None a l s = absurd (omega (arith, a.0, s.0))
  made_more m n p i capacity (Some x) a l s = (omega (arith, a.0, s.2.0), λ v. ((λ z. (a.1 v).0 ((s.2.1 v).0 z)), (λ z. (s.2.1 v).1 ((a.1 v).1 z))))

memberb_push : (i : ℕ) (xs : List ℕ) (x : ℕ) → memberb i (xs ++ (x ∷ [])) ≡ cond (memberb i xs) true (memberb i (x ∷ []))
memberb_push i [] x = refl
memberb_push i (y ∷ xs) x = go (eqb i y) (memberb_push i xs x)
  where
    go : (b : Bool) → memberb i (xs ++ (x ∷ [])) ≡ cond (memberb i xs) true (memberb i (x ∷ [])) → cond b true (memberb i (xs ++ (x ∷ []))) ≡ cond (cond b true (memberb i xs)) true (memberb i (x ∷ []))
    go true e = refl
    go false e = e

pub without_more : (t u v : Table) (xs : List ℕ) (x : ℕ) → u ≡ without t xs → v ≡ without u (x ∷ []) → v ≡ without t (xs ++ (x ∷ []))
without_more t u v xs x e f = fun_ext (λ i. ap (λ (w : Table). w i) f ∙ ap (λ (w : Table). cond (memberb i (x ∷ [])) [] (w i)) e ∙ go i (memberb i (x ∷ [])) (memberb i xs) ∙ ap (λ b. cond b [] (t i)) (sym (memberb_push i xs x)))
  where
    go : (i : ℕ) (a b : Bool) → cond a [] (cond b [] (t i)) ≡ cond (cond b true a) [] (t i)
    go i true true = refl
    go i true false = refl
    go i false true = refl
    go i false false = refl
