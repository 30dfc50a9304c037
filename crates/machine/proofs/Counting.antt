-- A run counts the steps that it makes. Assumes nothing.
use Rattle.std.proofs.Common.{◌≡◌, ℕ, suc, ◌≤◌, List, length, refl, ap, arith}
use Rattle.terms.specs.Lists.{All}
use Rattle.theory.specs.declared.interface.Theory as Theory
use Rattle.table.specs.declared.partner.PartnerTable as PartnerTable
use Rattle.machine.specs.declared.answers.Limit.{Limit}
use Rattle.machine.specs.declared.answers.End.{End}
use Rattle.machine.specs.declared.answers.End.TheVariants as ended
use Rattle.machine.specs.Sheets.{Config, full, Event}
use Rattle.machine.specs.Refined as ref
use Rattle.machine.specs.Refined.{StepSays, RunSays}
use Rattle.machine.specs.Statements.{StepMade, RunsCount}

failed_stopped : ended.Failed ≡ ended.Stopped → ⊥
failed_stopped e = let z : ◌≡◌ {A = ℕ} 0 1 = cc in omega arith

done_stopped : ended.Done ≡ ended.Stopped → ⊥
done_stopped e = let z : ◌≡◌ {A = ℕ} 0 1 = cc in omega arith

full_stopped : (l : Limit) → ended.Full l ≡ ended.Stopped → ⊥
full_stopped l e = let z : ◌≡◌ {A = ℕ} 0 1 = cc in omega arith

failed_full : (l : Limit) → ended.Failed ≡ ended.Full l → ⊥
failed_full l e = let z : ◌≡◌ {A = ℕ} 0 1 = cc in omega arith

done_full : (l : Limit) → ended.Done ≡ ended.Full l → ⊥
done_full l e = let z : ◌≡◌ {A = ℕ} 0 1 = cc in omega arith

stopped_full : (l : Limit) → ended.Stopped ≡ ended.Full l → ⊥
stopped_full l e = let z : ◌≡◌ {A = ℕ} 0 1 = cc in omega arith

full_inj : (l m : Limit) → ended.Full l ≡ ended.Full m → l ≡ m
full_inj l m e = cc

module _ {A B : Type 0} (T : Theory.Ghosts A) (P : PartnerTable.Ghosts B) where
  few : {k : ℕ} {s t : Config A B} {es : List Event} {e : End} → RunSays T P k s es e t → length es ≤ k
  few (ref.run_failed f) = omega arith
  few (ref.run_done st w) = omega arith
  few (ref.run_stopped st w) = omega arith
  few (ref.run_full l x) = omega arith
  few (ref.run_more a p x r) = omega (arith, few r)

  steps : {k : ℕ} {s t : Config A B} {es : List Event} {e : End} → RunSays T P k s es e t → All StepMade es
  steps (ref.run_failed f) = tt
  steps (ref.run_done st w) = tt
  steps (ref.run_stopped st w) = tt
  steps (ref.run_full l x) = tt
  steps (ref.run_more a p x r) = (p, steps r)

  stopped : {k : ℕ} {s t : Config A B} {es : List Event} {e : End} → RunSays T P k s es e t → e ≡ ended.Stopped → length es ≡ k
  stopped (ref.run_failed f) q = absurd (failed_stopped q)
  stopped (ref.run_done st w) q = absurd (done_stopped q)
  stopped (ref.run_stopped st w) q = refl
  stopped (ref.run_full l x) q = absurd (full_stopped l q)
  stopped (ref.run_more a p x r) q = ap suc (stopped r q)

  limit : {k : ℕ} {s t : Config A B} {es : List Event} {e : End} → RunSays T P k s es e t → (l : Limit) → e ≡ ended.Full l → StepSays T P t (full l) t
  limit (ref.run_failed f) l q = absurd (failed_full l q)
  limit (ref.run_done st w) l q = absurd (done_full l q)
  limit (ref.run_stopped st w) l q = absurd (stopped_full l q)
  limit {s = s} (ref.run_full m x) l q = mathlib.Core.Path.subst (λ (z : Limit). StepSays T P s (full z) s) (full_inj m l q) x
  limit (ref.run_more a p x r) l q = limit r l q

  pub runs_count : RunsCount T P
  runs_count k s t a es (ref.at_run _ _ e r) = record { end = e; answer = refl; few = few r; steps = steps r; stopped = stopped r; limit = limit r }
