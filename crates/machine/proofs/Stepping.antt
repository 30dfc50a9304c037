-- A step has one answer and one outcome, on a sheet and on any that no call can tell apart from it. Assumes nothing.
use Rattle.std.proofs.Common.{◌≡◌, ℕ, suc, List, [], ◌∷◌, ◌++◌, map, sym, refl, ap, ◌∙◌, subst, inl, inr}
use mathlib.Core.Logic.Iff
use Rattle.terms.specs.Domains.{Domain}
use Rattle.rules.specs.Books.{tell, add, Book}
use Rattle.theory.specs.declared.interface.Theory as Theory
use Rattle.theory.specs.Meanings.{Meaning, SameMeaning, Told, Made}
use Rattle.table.specs.declared.partner.PartnerTable as PartnerTable
use Rattle.table.specs.Records.{recorded}
use Rattle.table.specs.Tables.{Table, with_record, without}
use Rattle.machine.specs.declared.answers.Limit.TheVariants as limit
use Rattle.machine.specs.Matching.{Firing, gone}
use Rattle.machine.specs.Sheets as sheet
use Rattle.machine.specs.Sheets.{Entry, goal, wake, active, Config, StepAnswer}
use Rattle.machine.specs.Refined as ref
use Rattle.machine.specs.Refined.{meaning, rule_of, Stands, Fits, FirstFit, Turn, Becomes, Waits, StepSays, waiting_after, history_after}
use Rattle.machine.specs.Statements.{Alike}
use Rattle.machine.proofs.Meanings.{same_back, same_then, told_same, made_same}
use Rattle.machine.proofs.Unique.{Change, kept, told_one, made_some, Outcome, Fit, FirstOf, Tries, Item, Decided, decided_same, decided_one}

-- how the theory changes
abbrev pub Changed : {d : Domain} → Meaning d → Change → Meaning d → Type 0
Changed m kept n = SameMeaning m n
Changed m (told_one p) n = Told m p n
Changed m (made_some k) n = Made m k n

changed_same : {d : Domain} (m n m' n' : Meaning d) (c : Change) → SameMeaning m n → Changed m c m' → Changed n c n' → SameMeaning m' n'
changed_same m n m' n' kept e a b = same_then m' m n' (same_back m m' a) (same_then m n n' e b)
changed_same m n m' n' (told_one p) e a b = told_same m n m' n' p e a b
changed_same m n m' n' (made_some k) e a b = made_same m n m' n' k e a b

module _ {A B : Type 0} (T : Theory.Ghosts A) (P : PartnerTable.Ghosts B) where
  -- the step was answered and left what the outcome says
  pub record Fulfils (s : Config A B) (o : Outcome) (a : StepAnswer) (t : Config A B) : Type 0 where
    pub answer : a ≡ o.0
    pub book : t.book ≡ s.book
    pub waiting : t.waiting ≡ o.1
    pub history : t.history ≡ o.2
    pub posted : t.posted ≡ s.posted
    pub next : t.next ≡ o.3
    pub theory : Changed (meaning T s) o.4 (meaning T t)
    pub table : P.records t.table ≡ o.5

  abbrev pub At : Config A B → Outcome → Type 0
  At s o = Decided T.domain T.capacity P.limit s.book s.waiting s.history s.next (meaning T s).made (P.records s.table) (meaning T s) o

  abbrev Top : Config A B → List Entry → Outcome → Type 0
  Top s w o = Item T.domain T.capacity P.limit s.book s.waiting s.history s.next (meaning T s).made (P.records s.table) (meaning T s) w o

  abbrev pub Outcomes : Config A B → StepAnswer → Config A B → Type 0
  Outcomes s a t = (o : Outcome) × Fulfils s o a t × At s o

  pub same_theory : (s t : Config A B) → t.theory ≡ s.theory → SameMeaning (meaning T s) (meaning T t)
  same_theory s t e = subst (λ (x : A). SameMeaning (meaning T s) (T.means x)) (sym e) (refl, λ v. Iff.rfl)

  abbrev staying : Config A B → StepAnswer → Outcome
  staying s a = (a, s.waiting, s.history, s.next, kept, P.records s.table)

  stays : (s : Config A B) (a : StepAnswer) → Fulfils s (staying s a) a s
  stays s a = record { answer = refl; book = refl; waiting = refl; history = refl; posted = refl; next = refl; theory = (refl, λ v. Iff.rfl); table = refl }

  leaves : (s t : Config A B) (a : StepAnswer) (w : List Entry) (h : List Firing) (n : ℕ) (c : Change) (q : Table) → Becomes s t w h n → Changed (meaning T s) c (meaning T t) → P.records t.table ≡ q → Fulfils s (a, w, h, n, c, q) a t
  leaves s t a w h n c q b th ta = record { answer = refl; book = b.book; waiting = b.waiting; history = b.history; posted = b.posted; next = b.next; theory = th; table = ta }

  waits : (s t : Config A B) (a : StepAnswer) (w : List Entry) → Waits s t w → Fulfils s (a, w, s.history, s.next, kept, P.records s.table) a t
  waits s t a w b = leaves s t a w s.history s.next kept (P.records s.table) b.becomes (same_theory s t b.theory) (ap P.records b.table)

  at_top : (s : Config A B) (w : List Entry) (o : Outcome) → Stands T s → s.waiting ≡ w → Top s w o → At s o
  at_top s w o st e x = inr (st, subst (λ z. Top s z o) (sym e) x)

  fit_of : (s : Config A B) (k h i : ℕ) (tuple : List ℕ) → Fits T P s k h i tuple → Fit T.domain T.capacity P.limit s.book s.waiting s.history s.next (meaning T s).made (P.records s.table) (meaning T s) k h i tuple
  fit_of s k h i tuple f = (f.applies, f.at, f.new)

  fits_of : (s : Config A B) (k h i : ℕ) (tuple : List ℕ) → Fit T.domain T.capacity P.limit s.book s.waiting s.history s.next (meaning T s).made (P.records s.table) (meaning T s) k h i tuple → Fits T P s k h i tuple
  fits_of s k h i tuple f = record { applies = f.0; at = f.1; new = f.2 }

  first_of : (s : Config A B) (k h i : ℕ) (tuple : List ℕ) → FirstFit T P s k h i tuple → FirstOf T.domain T.capacity P.limit s.book s.waiting s.history s.next (meaning T s).made (P.records s.table) (meaning T s) k h i tuple
  first_of s k h i tuple f = (fit_of s k h i tuple f.fits, λ other g. f.before other (fits_of s k h i other g))

  turned : (s : Config A B) (rest : List Entry) (i j k h : ℕ) (o : Outcome) → Turn T P s rest i j k h → Tries T.domain T.capacity P.limit s.book s.waiting s.history s.next (meaning T s).made (P.records s.table) (meaning T s) rest i j k h o → At s o
  turned s rest i j k h o turn x = at_top s (active i j ∷ rest) o turn.stands turn.top (inr (turn.record_of, turn.alive, inr ((turn.occurs.0, turn.occurs.1), (k, h, turn.occurs.2, x))))

  -- what a step says is what its top item decides
  pub outcomes : (s t : Config A B) (a : StepAnswer) → StepSays T P s a t → Outcomes s a t
  outcomes s t a (ref.fails f) = (staying s sheet.failed, stays s sheet.failed, inl (f, refl))
  outcomes s t a (ref.ends st e) = (staying s sheet.done, stays s sheet.done, at_top s [] _ st e refl)
  outcomes s t a (ref.tells p rest is st top w l tl ta b) = (_, leaves s t sheet.told (map wake is ++ rest) s.history s.next (told_one p) (P.records s.table) b tl (ap P.records ta), at_top s (goal (tell p) ∷ rest) _ st top (is, w, inr (l, refl)))
  outcomes s t a (ref.crowded p rest is st top w l) = (staying s (sheet.full limit.Waiting), stays s (sheet.full limit.Waiting), at_top s (goal (tell p) ∷ rest) _ st top (is, w, inl (l, refl)))
  outcomes s t a (ref.activates c xs rest st top l r e f b) = (_, leaves s t (sheet.activated s.next) (active s.next 1 ∷ rest) s.history (suc s.next) kept (with_record (P.records s.table) s.next (recorded c xs)) b (same_theory s t e) f, at_top s (goal (add c xs) ∷ rest) _ st top (inr (l, inl (r, refl))))
  outcomes s t a (ref.spent c xs rest st top l) = (staying s (sheet.full limit.Identifiers), stays s (sheet.full limit.Identifiers), at_top s (goal (add c xs) ∷ rest) _ st top (inl (l, refl)))
  outcomes s t a (ref.packed c xs rest st top l r) = (staying s (sheet.full limit.Table), stays s (sheet.full limit.Table), at_top s (goal (add c xs) ∷ rest) _ st top (inr (l, inr (r, refl))))
  outcomes s t a (ref.rises i rest r st top f b) = (_, waits s t (sheet.woken i) (active i 1 ∷ rest) b, at_top s (wake i ∷ rest) _ st top (inr (r, f, refl)))
  outcomes s t a (ref.late i rest st top f b) = (_, waits s t (sheet.dropped i) rest b, at_top s (wake i ∷ rest) _ st top (inl (f, refl)))
  outcomes s t a (ref.dead i j rest st top f b) = (_, waits s t (sheet.dropped i) rest b, at_top s (active i j ∷ rest) _ st top (inl (f, refl)))
  outcomes s t a (ref.over i j rest r st top f l b) = (_, waits s t (sheet.dropped i) rest b, at_top s (active i j ∷ rest) _ st top (inr (r, f, inl (l, refl))))
  outcomes s t a (ref.passes rest i j k h turn nf b) = (_, waits s t (sheet.passed i) (active i (suc j) ∷ rest) b, turned s rest i j k h _ turn (inl (λ tuple f. nf tuple (fits_of s k h i tuple f), refl)))
  outcomes s t a (ref.fires rest i j k h tuple turn first nh small fit made ta b) = (_, leaves s t (sheet.applied k tuple) (waiting_after T P s (rule_of s k) tuple rest i j h) (history_after s k (rule_of s k) tuple) s.next (made_some (rule_of s k).fresh) (without (P.records s.table) (gone (rule_of s k) tuple)) b made ta, turned s rest i j k h _ turn (inr (tuple, first_of s k h i tuple first, inr (nh, inr (small, inr (fit, refl))))))
  outcomes s t a (ref.full_history rest i j k h tuple turn first nh) = (staying s (sheet.full limit.History), stays s (sheet.full limit.History), turned s rest i j k h _ turn (inr (tuple, first_of s k h i tuple first, inl (nh, refl))))
  outcomes s t a (ref.full_variables rest i j k h tuple turn first nh l) = (staying s (sheet.full limit.Variables), stays s (sheet.full limit.Variables), turned s rest i j k h _ turn (inr (tuple, first_of s k h i tuple first, inr (nh, inl (l, refl)))))
  outcomes s t a (ref.full_waiting rest i j k h tuple turn first nh l m) = (staying s (sheet.full limit.Waiting), stays s (sheet.full limit.Waiting), turned s rest i j k h _ turn (inr (tuple, first_of s k h i tuple first, inr (nh, inr (l, inl (m, refl))))))

  -- what is decided on a sheet is decided on one that is alike
  alike_at : (s s' : Config A B) → Alike T P s s' → (o : Outcome) → At s' o → At s o
  alike_at s s' e o x = subst (λ (z : Book × List Entry × List Firing × ℕ × ℕ × Table). Decided T.domain T.capacity P.limit z.0 z.1 z.2 z.3 z.4 z.5 (meaning T s) o) (sym path) (decided_same T.domain T.capacity P.limit s'.book s'.waiting s'.history s'.next (meaning T s').made (P.records s'.table) (meaning T s') (meaning T s) (same_back (meaning T s) (meaning T s') e.theory) o x)
    where
      path : ◌≡◌ {A = Book × List Entry × List Firing × ℕ × ℕ × Table} (s.book, s.waiting, s.history, s.next, (meaning T s).made, P.records s.table) (s'.book, s'.waiting, s'.history, s'.next, (meaning T s').made, P.records s'.table)
      path = λ i. (e.book i, e.waiting i, e.history i, e.next i, sym e.theory.0 i, e.table i)

  alike_after : (s s' t u : Config A B) (o : Outcome) (a b : StepAnswer) → Alike T P s s' → Fulfils s o a t → Fulfils s' o b u → (a ≡ b) × Alike T P t u
  alike_after s s' t u o a b e f g = (f.answer ∙ sym g.answer, record { book = f.book ∙ e.book ∙ sym g.book; waiting = f.waiting ∙ sym g.waiting; history = f.history ∙ sym g.history; posted = f.posted ∙ e.posted ∙ sym g.posted; next = f.next ∙ sym g.next; theory = changed_same (meaning T s) (meaning T s') (meaning T t) (meaning T u) o.4 e.theory f.theory g.theory; table = f.table ∙ sym g.table })

  pub one_step : (s s' t u : Config A B) (a b : StepAnswer) → Alike T P s s' → StepSays T P s a t → StepSays T P s' b u → (a ≡ b) × Alike T P t u
  one_step s s' t u a b e x y = go (outcomes s t a x) (outcomes s' u b y)
    where
      go : Outcomes s a t → Outcomes s' b u → (a ≡ b) × Alike T P t u
      go f g = alike_after s s' t u f.0 a b e f.1 (subst (λ (z : Outcome). Fulfils s' z b u) (sym (decided_one T.domain T.capacity P.limit s.book s.waiting s.history s.next (meaning T s).made (P.records s.table) (meaning T s) f.0 g.0 f.2 (alike_at s s' e g.0 g.2))) g.1)
