-- Runs from a state of which everything is known. Assumes nothing.
use Rattle.std.proofs.Common.{◌≡◌, ℕ, suc, ◌+◌, List, [], ◌∷◌, ◌++◌, pos, None, sym, refl, ap, ◌∙◌, subst, inr, arith}
use Rattle.std.proofs.lemmas.Option.{same_Some}
use lib.Signed.{le_z_yes}
use Rattle.terms.specs.Domains.{Domain}
use Rattle.rules.specs.Books.{add, Book}
use Rattle.theory.specs.declared.interface.Theory as Theory
use Rattle.theory.specs.Meanings.{Meaning, SameMeaning}
use Rattle.table.specs.declared.partner.PartnerTable as PartnerTable
use Rattle.table.specs.Tables.{Table, nothing}
use Rattle.machine.specs.declared.answers.End.{End}
use Rattle.machine.specs.declared.answers.End.TheVariants as ended
use Rattle.machine.specs.Matching.{Firing}
use Rattle.machine.specs.Sheets as sheet
use Rattle.machine.specs.Sheets.{Entry, goal, Config, StepAnswer, Event, stepped, telling, Progress}
use Rattle.machine.specs.Refined as ref
use Rattle.machine.specs.Refined.{meaning, Stands, StepSays, RunSays, Opened}
use Rattle.machine.specs.Samples.{PostedA}
use Rattle.machine.proofs.Meanings.{same_back, failed_same}
use Rattle.machine.proofs.Done.{step_done, full_not}
use Rattle.machine.proofs.Unique.{Change, kept, told_one, made_some, Outcome, Item, Decided, decided_one}
use Rattle.machine.proofs.Stepping.{Changed, Fulfils, At, Outcomes, outcomes, same_theory}
use Rattle.machine.proofs.Calling.{ending, Tail, Leading, leading}

-- the theory means the same after
abbrev pub Quiet : Change → Type 0
Quiet kept = Unit {0}
Quiet (told_one p) = ⊥
Quiet (made_some k) = k ≡ 0

quiet_same : {d : Domain} (m n : Meaning d) (c : Change) → Quiet c → Changed m c n → SameMeaning m n
quiet_same m n kept q x = x
quiet_same m n (told_one p) q x = absurd q
quiet_same m n (made_some k) q x = (x.0 ∙ ap (λ (z : ℕ). m.made + z) q ∙ (omega arith), x.1)

module _ {A B : Type 0} (T : Theory.Ghosts A) (P : PartnerTable.Ghosts B) where
  -- everything of a sheet whose theory stands and has no variable
  pub record Is (book : Book) (w : List Entry) (h : List Firing) (n : ℕ) (q : Table) (s : Config A B) : Type 0 where
    pub book_is : s.book ≡ book
    pub waiting_is : s.waiting ≡ w
    pub history_is : s.history ≡ h
    pub next_is : s.next ≡ n
    pub stands_is : Stands T s
    pub made_is : (meaning T s).made ≡ 0
    pub table_is : P.records s.table ≡ q

  -- what the top item decides there
  abbrev pub Tops : Book → List Entry → List Firing → ℕ → Table → Config A B → Outcome → Type 0
  Tops book w h n q s o = Item T.domain T.capacity P.limit book w h n 0 q (meaning T s) w o

  step_is : (book : Book) (w : List Entry) (h : List Firing) (n : ℕ) (q : Table) (s t : Config A B) (a : StepAnswer) (o : Outcome) → Quiet o.4 → Is book w h n q s → Tops book w h n q s o → StepSays T P s a t → (a ≡ o.0) × Is book o.1 o.2 o.3 o.5 t
  step_is book w h n q s t a o quiet is top x = go (outcomes T P s t a x)
    where
      path : ◌≡◌ {A = Book × List Entry × List Firing × ℕ × ℕ × Table} (s.book, s.waiting, s.history, s.next, (meaning T s).made, P.records s.table) (book, w, h, n, 0, q)
      path = λ i. (is.book_is i, is.waiting_is i, is.history_is i, is.next_is i, is.made_is i, is.table_is i)

      moved : (p : Outcome) → At T P s p → Decided T.domain T.capacity P.limit book w h n 0 q (meaning T s) p
      moved p y = subst (λ (z : Book × List Entry × List Firing × ℕ × ℕ × Table). Decided T.domain T.capacity P.limit z.0 z.1 z.2 z.3 z.4 z.5 (meaning T s) p) path y

      left : Fulfils T P s o a t → (a ≡ o.0) × Is book o.1 o.2 o.3 o.5 t
      left f = let e = quiet_same (meaning T s) (meaning T t) o.4 quiet f.theory in (f.answer, record { book_is = f.book ∙ is.book_is; waiting_is = f.waiting; history_is = f.history; next_is = f.next; stands_is = λ z. is.stands_is (failed_same (meaning T t) (meaning T s) (same_back (meaning T s) (meaning T t) e) z); made_is = e.0 ∙ is.made_is; table_is = f.table })

      go : Outcomes T P s a t → (a ≡ o.0) × Is book o.1 o.2 o.3 o.5 t
      go y = left (subst (λ (z : Outcome). Fulfils T P s z a t) (decided_one T.domain T.capacity P.limit book w h n 0 q (meaning T s) y.0 o (moved y.0 y.2) (inr (is.stands_is, top))) y.1)

  -- the rest of a run after a step
  abbrev pub Goes : ℕ → Book → Outcome → List Event → End → Config A B → Type 0
  Goes k book o es e t = (v : Config A B) × (more : List Event) × (es ≡ stepped o.0 [] ∷ more) × RunSays T P k v more e t × Is book o.1 o.2 o.3 o.5 v

  pub run_is : (k : ℕ) (book : Book) (w : List Entry) (h : List Firing) (n : ℕ) (q : Table) (s t : Config A B) (o : Outcome) (es : List Event) (e : End) → ending o.0 ≡ None → ((z : List Entry) → telling z o.0 ≡ []) → Quiet o.4 → Is book w h n q s → Tops book w h n q s o → RunSays T P (suc k) s es e t → Goes k book o es e t
  run_is k book w h n q s t o es e none silent quiet is top x = go (leading T P k s t es e x)
    where
      on : (a : StepAnswer) (v : Config A B) → a ≡ o.0 → Is book o.1 o.2 o.3 o.5 v → Tail T P k s a v es e t None → Goes k book o es e t
      on a v f i y = (v, y.0, y.1 ∙ (λ j. stepped (f j) (telling s.waiting (f j)) ∷ y.0) ∙ ap (λ z. stepped o.0 z ∷ y.0) (silent s.waiting), y.2, i)

      go : Leading T P k s es e t → Goes k book o es e t
      go y = let r = step_is book w h n q s y.1 y.0 o quiet is top y.2 in on y.0 y.1 r.0 r.1 (subst (λ z. Tail T P k s y.0 y.1 es e t z) (ap ending r.0 ∙ none) y.3)

  -- a run where nothing waits
  pub run_rests : (k : ℕ) (book : Book) (h : List Firing) (n : ℕ) (q : Table) (s t : Config A B) (es : List Event) (e : End) → Is book [] h n q s → RunSays T P k s es e t → (e ≡ ended.Done) × (es ≡ [])
  run_rests k book h n q s t es e is (ref.run_failed f) = absurd (is.stands_is f)
  run_rests k book h n q s t es e is (ref.run_done st w) = (refl, refl)
  run_rests k book h n q s t es e is (ref.run_stopped st w) = absurd (w is.waiting_is)
  run_rests k book h n q s t es e is (ref.run_full l x) = absurd (full_not l ((step_done T P s s (sheet.full l) x).1 (is.waiting_is, is.stands_is)))
  run_rests k book h n q s t es e is (ref.run_more {t = v} a p x r) = absurd (subst Progress ((step_done T P s v a x).1 (is.waiting_is, is.stands_is)) p)

  -- a run that may make no step, where something waits
  pub run_stops : (book : Book) (w : Entry) (ws : List Entry) (h : List Firing) (n : ℕ) (q : Table) (s t : Config A B) (es : List Event) (e : End) → Is book (w ∷ ws) h n q s → RunSays T P 0 s es e t → (e ≡ ended.Stopped) × (es ≡ [])
  run_stops book w ws h n q s t es e is (ref.run_failed f) = absurd (is.stands_is f)
  run_stops book w ws h n q s t es e is (ref.run_done st z) = absurd (mathlib.Core.List.cons≢nil (sym is.waiting_is ∙ z))
  run_stops book w ws h n q s t es e is (ref.run_stopped st z) = (refl, refl)

  -- an opened sheet
  pub opened_is : (book : Book) (s : Config A B) → Opened T P book s → Is book [] [] 1 nothing s
  opened_is book s o = record { book_is = o.opened; waiting_is = o.waiting; history_is = o.history; next_is = o.next; stands_is = λ f. f (λ x. T.domain.number (pos 0)) ((o.clear.1 (λ x. T.domain.number (pos 0))).1 (λ x. T.domain.proper (pos 0) (le_z_yes tt, le_z_yes tt))); made_is = o.clear.0; table_is = o.empty }

  -- and one where a was posted
  pub posted_is : (book : Book) (w : List Entry) (h : List Firing) (n : ℕ) (q : Table) (s t : Config A B) → Is book w h n q s → PostedA T P s t → Is book (w ++ (goal (add 0 []) ∷ [])) h n q t
  posted_is book w h n q s t is (es, ref.at_post _ _ _ _ (ref.posts g c ps l e y)) = record { book_is = y.becomes.book ∙ is.book_is; waiting_is = y.becomes.waiting ∙ (λ i. is.waiting_is i ++ (goal (sym (same_Some _ _ e) i) ∷ [])); history_is = y.becomes.history ∙ is.history_is; next_is = y.becomes.next ∙ is.next_is; stands_is = λ z. is.stands_is (failed_same (meaning T t) (meaning T s) (same_back (meaning T s) (meaning T t) (same_theory T P s t y.theory)) z); made_is = (same_theory T P s t y.theory).0 ∙ is.made_is; table_is = ap P.records y.table ∙ is.table_is }
