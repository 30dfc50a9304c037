-- Done is answered exactly when nothing waits and the theory stands. Assumes nothing.
use Rattle.std.proofs.Common.{◌≡◌, ℕ, ◌↔◌, List, [], ◌∷◌, sym, refl, ◌∙◌, arith}
use mathlib.Core.List.{cons≢nil}
use Rattle.theory.specs.declared.interface.Theory as Theory
use Rattle.table.specs.declared.partner.PartnerTable as PartnerTable
use Rattle.machine.specs.declared.answers.Limit.{Limit}
use Rattle.machine.specs.declared.answers.End.{End}
use Rattle.machine.specs.declared.answers.End.TheVariants as ended
use Rattle.machine.specs.Sheets as sheet
use Rattle.machine.specs.Sheets.{Config, Entry, StepAnswer, Event}
use Rattle.machine.specs.Refined as ref
use Rattle.machine.specs.Refined.{StepSays, RunSays, Stands}
use Rattle.machine.specs.Statements.{DoneIsExact}

-- another answer, while something waits
other : {A B : Type 0} (a : StepAnswer) (s : Config A B) (Q : Type 0) (e : Entry) (rest : List Entry) → (a ≡ sheet.done → ⊥) → s.waiting ≡ e ∷ rest → (a ≡ sheet.done) ↔ ((s.waiting ≡ []) × Q)
other a s Q e rest n top = (λ q. absurd (n q), λ z. absurd (cons≢nil (sym top ∙ z.0)))

pub full_not : (l : Limit) → sheet.full l ≡ sheet.done → ⊥
full_not l e = let z : ◌≡◌ {A = ℕ} 0 1 = cc in omega arith

applied_not : (k : ℕ) (is : List ℕ) → sheet.applied k is ≡ sheet.done → ⊥
applied_not k is e = let z : ◌≡◌ {A = ℕ} 0 1 = cc in omega arith

end_full_not : (l : Limit) → ended.Full l ≡ ended.Done → ⊥
end_full_not l e = let z : ◌≡◌ {A = ℕ} 0 1 = cc in omega arith

module _ {A B : Type 0} (T : Theory.Ghosts A) (P : PartnerTable.Ghosts B) where
  pub step_done : (s t : Config A B) (a : StepAnswer) → StepSays T P s a t → (a ≡ sheet.done) ↔ ((s.waiting ≡ []) × Stands T s)
  step_done s t a (ref.fails f) = (λ e. absurd (let z : ◌≡◌ {A = ℕ} 0 1 = cc in omega arith), λ z. absurd (z.1 f))
  step_done s t a (ref.ends st e) = (λ q. (e, st), λ z. refl)
  step_done s t a (ref.tells p rest is st top w l told table b) = other _ s _ _ rest (λ e. let z : ◌≡◌ {A = ℕ} 0 1 = cc in omega arith) top
  step_done s t a (ref.crowded p rest is st top w l) = other _ s _ _ rest (full_not _) top
  step_done s t a (ref.activates c xs rest st top l r e f b) = other _ s _ _ rest (λ e. let z : ◌≡◌ {A = ℕ} 0 1 = cc in omega arith) top
  step_done s t a (ref.spent c xs rest st top l) = other _ s _ _ rest (full_not _) top
  step_done s t a (ref.packed c xs rest st top l r) = other _ s _ _ rest (full_not _) top
  step_done s t a (ref.rises i rest r st top f b) = other _ s _ _ rest (λ e. let z : ◌≡◌ {A = ℕ} 0 1 = cc in omega arith) top
  step_done s t a (ref.late i rest st top f b) = other _ s _ _ rest (λ e. let z : ◌≡◌ {A = ℕ} 0 1 = cc in omega arith) top
  step_done s t a (ref.dead i j rest st top f b) = other _ s _ _ rest (λ e. let z : ◌≡◌ {A = ℕ} 0 1 = cc in omega arith) top
  step_done s t a (ref.over i j rest r st top f l b) = other _ s _ _ rest (λ e. let z : ◌≡◌ {A = ℕ} 0 1 = cc in omega arith) top
  step_done s t a (ref.passes rest i j k h turn nf b) = other _ s _ _ rest (λ e. let z : ◌≡◌ {A = ℕ} 0 1 = cc in omega arith) turn.top
  step_done s t a (ref.fires rest i j k h tuple turn first nh small room made table b) = other _ s _ _ rest (applied_not k tuple) turn.top
  step_done s t a (ref.full_history rest i j k h tuple turn first nh) = other _ s _ _ rest (full_not _) turn.top
  step_done s t a (ref.full_variables rest i j k h tuple turn first nh l) = other _ s _ _ rest (full_not _) turn.top
  step_done s t a (ref.full_waiting rest i j k h tuple turn first nh l m) = other _ s _ _ rest (full_not _) turn.top

  pub run_done_exact : (k : ℕ) (s t : Config A B) (more : List Event) (e : End) → RunSays T P k s more e t → (e ≡ ended.Done) ↔ ((t.waiting ≡ []) × Stands T t)
  run_done_exact k s t more e (ref.run_failed f) = (λ e. absurd (let z : ◌≡◌ {A = ℕ} 0 1 = cc in omega arith), λ z. absurd (z.1 f))
  run_done_exact k s t more e (ref.run_done st w) = (λ q. (w, st), λ z. refl)
  run_done_exact k s t more e (ref.run_stopped st n) = (λ e. absurd (let z : ◌≡◌ {A = ℕ} 0 1 = cc in omega arith), λ z. absurd (n z.0))
  run_done_exact k s t more e (ref.run_full l step) = (λ q. absurd (end_full_not l q), λ z. absurd (full_not l ((step_done s s (sheet.full l) step).1 z)))
  run_done_exact k s t more e (ref.run_more {k = n} {t = u} {more = rest} a p step run) = run_done_exact n u t rest e run

  pub done_is_exact : DoneIsExact T P
  done_is_exact = record { at_step = step_done; at_run = run_done_exact }
