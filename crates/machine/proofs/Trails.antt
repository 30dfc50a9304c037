-- Calls taken apart: a trail is a row of accepted calls and of steps, those of runs among them. Assumes nothing.
use Rattle.std.proofs.Common.{◌≡◌, ℕ, List, [], ◌∷◌, ◌++◌, Some, Ok, Err, sym, refl, ap, ◌∙◌, subst, append_assoc, append-nil}
use Rattle.terms.specs.declared.Operand.{Operand}
use Rattle.rules.specs.Books.{Goal}
use Rattle.theory.specs.declared.interface.Theory as Theory
use Rattle.table.specs.declared.partner.PartnerTable as PartnerTable
use Rattle.machine.specs.declared.answers.End.{End}
use Rattle.machine.specs.Sheets.{Config, StepAnswer, Call, Answer, made_variable, posted_goal, Event, took, stepped, telling}
use Rattle.machine.specs.Refined as ref
use Rattle.machine.specs.Refined.{StepSays, RunSays, VariableSays, PostSays, Says, Plays, goal_of, post_events}
use Rattle.machine.specs.Statements.{accepted, firings, fired, tellings, given, numbered}

module _ {A B : Type 0} (T : Theory.Ghosts A) (P : PartnerTable.Ghosts B) where
  -- what happened since a sheet was s
  pub data Trail (s : Config A B) : List Event → Config A B → Type 0 where
    begins : Trail s [] s
    makes : {es : List Event} {t u : Config A B} (x : ℕ) → Trail s es t → VariableSays T t (Ok x) u → Trail s (es ++ (took (made_variable x) ∷ [])) u
    posts : {es : List Event} {t u : Config A B} (kind symbol : ℕ) (xs : List Operand) (g : Goal Operand) → Trail s es t → PostSays T t kind symbol xs (Ok tt) u → goal_of kind symbol xs ≡ Some g → Trail s (es ++ (took (posted_goal g) ∷ [])) u
    steps : {es : List Event} {t u : Config A B} (a : StepAnswer) → Trail s es t → StepSays T P t a u → Trail s (es ++ (stepped a (telling t.waiting a) ∷ [])) u

  same_trail : {s t : Config A B} {es : List Event} → Trail s es t → Trail s (es ++ []) t
  same_trail {s} {t} {es} x = subst (λ z. Trail s z t) (sym (append-nil es)) x

  -- the steps of a run are steps
  run_trail : {s t u : Config A B} {es more : List Event} {e : End} (k : ℕ) → Trail s es t → RunSays T P k t more e u → Trail s (es ++ more) u
  run_trail k x (ref.run_failed f) = same_trail x
  run_trail k x (ref.run_done st w) = same_trail x
  run_trail k x (ref.run_stopped st w) = same_trail x
  run_trail k x (ref.run_full l y) = same_trail x
  run_trail {s} {t} {u} {es} k x (ref.run_more {k = n} {more = more} a p y r) = subst (λ z. Trail s z u) (append_assoc es (stepped a (telling t.waiting a) ∷ []) more) (run_trail n (steps a x y) r)

  -- a refused call leaves no trace
  says_trail : {s t u : Config A B} {es fs : List Event} {c : Call} {a : Answer} → Trail s es t → Says T P t c a fs u → Trail s (es ++ fs) u
  says_trail x (ref.at_variable (Ok n) v) = makes n x v
  says_trail x (ref.at_variable (Err e) (ref.no_variable c)) = same_trail x
  says_trail {s} {t} {u} {es} x (ref.at_post kind symbol xs (Ok w) (ref.posts g c ps l e y)) = subst (λ z. Trail s (es ++ post_events (Ok tt) z) u) (sym e) (posts kind symbol xs g x (ref.posts g c ps l e y) e)
  says_trail x (ref.at_post kind symbol xs (Err r) (ref.has_failed f)) = same_trail x
  says_trail x (ref.at_post kind symbol xs (Err r) (ref.bad_kind st l)) = same_trail x
  says_trail x (ref.at_post kind symbol xs (Err r) (ref.bad_symbol st k l)) = same_trail x
  says_trail x (ref.at_post kind symbol xs (Err r) (ref.bad_count st k l n)) = same_trail x
  says_trail x (ref.at_post kind symbol xs (Err r) (ref.bad_operand c n)) = same_trail x
  says_trail x (ref.at_post kind symbol xs (Err r) (ref.no_room c g l)) = same_trail x
  says_trail x (ref.at_step a v) = steps a x v
  says_trail x (ref.at_run k made e r) = run_trail k x r

  -- any list of calls
  pub plays_trail : {s t : Config A B} {log : List (Call × Answer)} {es : List Event} → Plays T P s log es t → Trail s es t
  plays_trail ref.no_call = begins
  plays_trail (ref.then c a p v) = says_trail (plays_trail p) v

pub accepted_more : (es fs : List Event) → accepted (es ++ fs) ≡ accepted es ++ accepted fs
accepted_more [] fs = refl
accepted_more (took a ∷ es) fs = ap (λ l. a ∷ l) (accepted_more es fs)
accepted_more (stepped a ps ∷ es) fs = accepted_more es fs

-- a step is no call
pub accepted_step : (es : List Event) (e : StepAnswer) (ps : List _) → accepted (es ++ (stepped e ps ∷ [])) ≡ accepted es
accepted_step es e ps = accepted_more es (stepped e ps ∷ []) ∙ append-nil (accepted es)

pub firings_more : (es fs : List Event) → firings (es ++ fs) ≡ firings es ++ firings fs
firings_more [] fs = refl
firings_more (took a ∷ es) fs = firings_more es fs
firings_more (stepped a ps ∷ es) fs = ap (λ l. fired a ++ l) (firings_more es fs) ∙ sym (append_assoc (fired a) (firings es) (firings fs))

pub tellings_more : (es fs : List Event) → tellings (es ++ fs) ≡ tellings es ++ tellings fs
tellings_more [] fs = refl
tellings_more (took a ∷ es) fs = tellings_more es fs
tellings_more (stepped a ps ∷ es) fs = ap (λ l. ps ++ l) (tellings_more es fs) ∙ sym (append_assoc ps (tellings es) (tellings fs))

pub given_more : (es fs : List Event) → given (es ++ fs) ≡ given es ++ given fs
given_more [] fs = refl
given_more (took a ∷ es) fs = given_more es fs
given_more (stepped a ps ∷ es) fs = ap (λ l. numbered a ++ l) (given_more es fs) ∙ sym (append_assoc (numbered a) (given es) (given fs))
