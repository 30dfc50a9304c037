-- A call has one answer and one outcome. Assumes nothing.
use Rattle.std.proofs.Common.{◌≡◌, ℕ, zero, suc, ◌<◌, ◌≤◌, List, [], ◌∷◌, ◌++◌, length, Some, None, Ok, Err, Option, Result, sym, refl, ap, ◌∙◌, subst, inl, inr, arith}
use Rattle.std.proofs.lemmas.Option.{none-some, same_Some}
use mathlib.Core.Logic.Iff
use Rattle.terms.specs.declared.Operand.{Operand}
use Rattle.rules.specs.Books.{Goal, Book}
use Rattle.theory.specs.declared.interface.Theory as Theory
use Rattle.theory.specs.Meanings.{Failed}
use Rattle.table.specs.declared.partner.PartnerTable as PartnerTable
use Rattle.machine.specs.declared.answers.End.{End}
use Rattle.machine.specs.declared.answers.End.TheVariants as ended
use Rattle.machine.specs.declared.answers.VariableRefusal.{VariableRefusal}
use Rattle.machine.specs.declared.answers.PostRefusal.{PostRefusal}
use Rattle.machine.specs.declared.answers.PostRefusal.TheVariants.{TheoryFailed, NoSuchKind, NoSuchSymbol, WrongCount, WrongOperand, TooMany}
use Rattle.machine.specs.Sheets as sheet
use Rattle.machine.specs.Sheets.{Entry, goal, Config, StepAnswer, Event, stepped, telling, Progress, Call, Answer}
use Rattle.machine.specs.Refined as ref
use Rattle.machine.specs.Refined.{meaning, Stands, StepSays, RunSays, VariableSays, PostSays, Says, Waits, GoodOperands, goal_of, operand_count, made_events, post_events}
use Rattle.machine.specs.Statements.{Alike, OneAnswer, Exactly}
use Rattle.machine.proofs.Meanings.{same_back, same_then, failed_same, made_same}
use Rattle.machine.proofs.Unique.{Split, split_one, over_not}
use Rattle.machine.proofs.Stepping.{one_step, same_theory}

-- how a step ends a run, if it does
abbrev pub ending : StepAnswer → Option End
ending sheet.failed = Some ended.Failed
ending sheet.done = Some ended.Done
ending sheet.told = None
ending (sheet.activated i) = None
ending (sheet.woken i) = None
ending (sheet.dropped i) = None
ending (sheet.passed i) = None
ending (sheet.applied k is) = None
ending (sheet.full l) = Some (ended.Full l)

progress_none : (a : StepAnswer) → Progress a → ending a ≡ None
progress_none sheet.failed p = absurd p
progress_none sheet.done p = absurd p
progress_none sheet.told p = refl
progress_none (sheet.activated i) p = refl
progress_none (sheet.woken i) p = refl
progress_none (sheet.dropped i) p = refl
progress_none (sheet.passed i) p = refl
progress_none (sheet.applied k is) p = refl
progress_none (sheet.full l) p = absurd p

abbrev Reply : Type 0
Reply = Result (Unit {0}) PostRefusal × List Entry

-- what a posting is answered, and the waiting list after it
abbrev Accepts : ℕ → ℕ → List Operand → Book → List Entry → List ℕ → Reply → Type 0
Accepts kind symbol xs book w posted o = Split (3 < kind) (kind ≤ 3) (o ≡ (Err NoSuchKind, w)) (Split ((kind ≡ 3) × (length book.arities ≤ symbol)) (kind ≡ 3 → symbol < length book.arities) (o ≡ (Err NoSuchSymbol, w)) (Split (length xs ≡ operand_count book kind symbol → ⊥) (length xs ≡ operand_count book kind symbol) (o ≡ (Err WrongCount, w)) (Split (GoodOperands posted kind symbol xs → ⊥) (GoodOperands posted kind symbol xs) (o ≡ (Err WrongOperand, w)) (Split (512 ≤ length w) (length w < 512) (o ≡ (Err TooMany, w)) ((g : Goal Operand) × (goal_of kind symbol xs ≡ Some g) × (o ≡ (Ok tt, w ++ (goal g ∷ []))))))))

module _ {A B : Type 0} (T : Theory.Ghosts A) (P : PartnerTable.Ghosts B) where
  -- a run that may make no step
  abbrev Resting : Config A B → List Event → End → Config A B → Type 0
  Resting s es e t = (es ≡ []) × (s ≡ t) × Split (Failed (meaning T s)) (Stands T s) (e ≡ ended.Failed) (Split (s.waiting ≡ []) (s.waiting ≡ [] → ⊥) (e ≡ ended.Done) (e ≡ ended.Stopped))

  -- what follows a step that ends the run, or does not
  abbrev pub Tail : ℕ → Config A B → StepAnswer → Config A B → List Event → End → Config A B → Option End → Type 0
  Tail n s a v es e t None = (more : List Event) × (es ≡ stepped a (telling s.waiting a) ∷ more) × RunSays T P n v more e t
  Tail n s a v es e t (Some x) = (es ≡ []) × (s ≡ t) × (e ≡ x)

  abbrev pub Leading : ℕ → Config A B → List Event → End → Config A B → Type 0
  Leading n s es e t = (a : StepAnswer) × (v : Config A B) × StepSays T P s a v × Tail n s a v es e t (ending a)

  resting : (s t : Config A B) (es : List Event) (e : End) → RunSays T P 0 s es e t → Resting s es e t
  resting s t es e (ref.run_failed f) = (refl, refl, inl (f, refl))
  resting s t es e (ref.run_done st w) = (refl, refl, inr (st, inl (w, refl)))
  resting s t es e (ref.run_stopped st w) = (refl, refl, inr (st, inr (w, refl)))

  pub leading : (n : ℕ) (s t : Config A B) (es : List Event) (e : End) → RunSays T P (suc n) s es e t → Leading n s es e t
  leading n s t es e (ref.run_failed f) = (sheet.failed, s, ref.fails f, (refl, refl, refl))
  leading n s t es e (ref.run_done st w) = (sheet.done, s, ref.ends st w, (refl, refl, refl))
  leading n s t es e (ref.run_full l x) = (sheet.full l, s, x, (refl, refl, refl))
  leading n s t es e (ref.run_more {t = v} {more = more} a p x r) = (a, v, x, subst (λ z. Tail n s a v es e t z) (sym (progress_none a p)) (more, refl, r))

  abbrev Same : (t u : Config A B) (e f : End) (es fs : List Event) → Type 0
  Same t u e f es fs = (e ≡ f) × (es ≡ fs) × Alike T P t u

  alike_ends : (s s' t u : Config A B) → s ≡ t → s' ≡ u → Alike T P s s' → Alike T P t u
  alike_ends s s' t u p q al = subst (λ (z : Config A B). Alike T P t z) q (subst (λ (z : Config A B). Alike T P z s') p al)

  stands_alike : (s s' : Config A B) → Alike T P s s' → Stands T s' → Stands T s
  stands_alike s s' al st f = st (failed_same (meaning T s) (meaning T s') al.theory f)

  failed_alike : (s s' : Config A B) → Alike T P s s' → Failed (meaning T s') → Failed (meaning T s)
  failed_alike s s' al = failed_same (meaning T s') (meaning T s) (same_back (meaning T s) (meaning T s') al.theory)

  pub one_run : (k : ℕ) (s s' t u : Config A B) (e f : End) (es fs : List Event) → Alike T P s s' → RunSays T P k s es e t → RunSays T P k s' fs f u → Same t u e f es fs
  one_run zero s s' t u e f es fs al x y = go (resting s t es e x) (resting s' u fs f y)
    where
      here : Split (Failed (meaning T s')) (Stands T s') (f ≡ ended.Failed) (Split (s'.waiting ≡ []) (s'.waiting ≡ [] → ⊥) (f ≡ ended.Done) (f ≡ ended.Stopped)) → Split (Failed (meaning T s)) (Stands T s) (f ≡ ended.Failed) (Split (s.waiting ≡ []) (s.waiting ≡ [] → ⊥) (f ≡ ended.Done) (f ≡ ended.Stopped))
      here (inl a) = inl (failed_alike s s' al a.0, a.1)
      here (inr (st, inl a)) = inr (stands_alike s s' al st, inl (al.waiting ∙ a.0, a.1))
      here (inr (st, inr a)) = inr (stands_alike s s' al st, inr (λ w. a.0 (sym al.waiting ∙ w), a.1))

      both : {g : End} → e ≡ g → f ≡ g → e ≡ f
      both p q = p ∙ sym q

      go : Resting s es e t → Resting s' fs f u → Same t u e f es fs
      go a b = (split_one (λ q n. n q) both (split_one (λ q n. n q) both both) a.2 (here b.2), a.0 ∙ sym b.0, alike_ends s s' t u a.1 b.1 al)
  one_run (suc k) s s' t u e f es fs al x y = go (λ v w more rest. one_run k v w t u e f more rest) (leading k s t es e x) (leading k s' u fs f y)
    where
      fin : ((v w : Config A B) (more rest : List Event) → Alike T P v w → RunSays T P k v more e t → RunSays T P k w rest f u → Same t u e f more rest) → (a : StepAnswer) (v w : Config A B) → Alike T P v w → (o : Option End) → Tail k s a v es e t o → Tail k s' a w fs f u o → Same t u e f es fs
      fin ih a v w av None p q = let r = ih v w p.0 q.0 av p.2 q.2 in (r.0, p.1 ∙ (λ i. stepped a (telling (al.waiting i) a) ∷ r.1 i) ∙ sym q.1, r.2)
      fin ih a v w av (Some z) p q = (p.2 ∙ sym q.2, p.0 ∙ sym q.0, alike_ends s s' t u p.1 q.1 al)

      go : ((v w : Config A B) (more rest : List Event) → Alike T P v w → RunSays T P k v more e t → RunSays T P k w rest f u → Same t u e f more rest) → Leading k s es e t → Leading k s' fs f u → Same t u e f es fs
      go ih a b = let r = one_step T P s s' a.1 b.1 a.0 b.0 al a.2 b.2 in fin ih a.0 a.1 b.1 r.1 (ending a.0) a.3 (subst (λ (z : StepAnswer). Tail k s' z b.1 fs f u (ending z)) (sym r.0) b.3)

  pub one_variable : (s s' t u : Config A B) (x y : Result ℕ VariableRefusal) → Alike T P s s' → VariableSays T s x t → VariableSays T s' y u → (x ≡ y) × Alike T P t u
  one_variable s s' t u x y al (ref.makes l m ta bo wa hi po ne) (ref.makes l' m' ta' bo' wa' hi' po' ne') = (ap (λ (z : ℕ). Ok z) (sym al.theory.0), record { book = bo ∙ al.book ∙ sym bo'; waiting = wa ∙ al.waiting ∙ sym wa'; history = hi ∙ al.history ∙ sym hi'; posted = po ∙ (λ i. al.posted i ++ (sym al.theory.0 i ∷ [])) ∙ sym po'; next = ne ∙ al.next ∙ sym ne'; theory = made_same (meaning T s) (meaning T s') (meaning T t) (meaning T u) 1 al.theory m m'; table = ap P.records ta ∙ al.table ∙ sym (ap P.records ta') })
  one_variable s s' t u x y al (ref.makes l m ta bo wa hi po ne) (ref.no_variable c) = absurd (omega (arith, l, c, al.theory.0))
  one_variable s s' t u x y al (ref.no_variable c) (ref.makes l m ta bo wa hi po ne) = absurd (omega (arith, l, c, al.theory.0))
  one_variable s s' t u x y al (ref.no_variable c) (ref.no_variable c') = (refl, al)

  abbrev Judged : Config A B → ℕ → ℕ → List Operand → Reply → Type 0
  Judged s kind symbol xs o = Split (Failed (meaning T s)) (Stands T s) (o ≡ (Err TheoryFailed, s.waiting)) (Accepts kind symbol xs s.book s.waiting s.posted o)

  abbrev Replied : Config A B → Config A B → ℕ → ℕ → List Operand → Result (Unit {0}) PostRefusal → Type 0
  Replied s t kind symbol xs x = (o : Reply) × (x ≡ o.0) × Waits s t o.1 × Judged s kind symbol xs o

  stays : (s : Config A B) → Waits s s s.waiting
  stays s = record { becomes = record { book = refl; waiting = refl; history = refl; posted = refl; next = refl }; theory = refl; table = refl }

  replied : (s t : Config A B) (kind symbol : ℕ) (xs : List Operand) (x : Result (Unit {0}) PostRefusal) → PostSays T s kind symbol xs x t → Replied s t kind symbol xs x
  replied s t kind symbol xs x (ref.has_failed f) = ((Err TheoryFailed, s.waiting), refl, stays s, inl (f, refl))
  replied s t kind symbol xs x (ref.bad_kind st l) = ((Err NoSuchKind, s.waiting), refl, stays s, inr (st, inl (l, refl)))
  replied s t kind symbol xs x (ref.bad_symbol st e l) = ((Err NoSuchSymbol, s.waiting), refl, stays s, inr (st, inr (omega arith, inl ((e, l), refl))))
  replied s t kind symbol xs x (ref.bad_count st l d n) = ((Err WrongCount, s.waiting), refl, stays s, inr (st, inr (l, inr (d, inl (n, refl)))))
  replied s t kind symbol xs x (ref.bad_operand c n) = ((Err WrongOperand, s.waiting), refl, stays s, inr (c.stands, inr (c.kinds, inr (c.declared, inr (c.counted, inl (n, refl))))))
  replied s t kind symbol xs x (ref.no_room c g l) = ((Err TooMany, s.waiting), refl, stays s, inr (c.stands, inr (c.kinds, inr (c.declared, inr (c.counted, inr (g, inl (l, refl)))))))
  replied s t kind symbol xs x (ref.posts g c ps l e w) = ((Ok tt, s.waiting ++ (goal g ∷ [])), refl, w, inr (c.stands, inr (c.kinds, inr (c.declared, inr (c.counted, inr ((ps, λ n. none-some _ (sym n ∙ e)), inr (l, (g, e, refl))))))))

  judged_one : (s : Config A B) (kind symbol : ℕ) (xs : List Operand) (o p : Reply) → Judged s kind symbol xs o → Judged s kind symbol xs p → o ≡ p
  judged_one s kind symbol xs o p = split_one (λ f n. n f) both (split_one over_not both (split_one (λ a f. over_not (f a.0) a.1) both (split_one (λ n a. n a) both (split_one (λ n a. n a) both (split_one (λ a b. over_not b a) both goals)))))
    where
      both : {z : Reply} → o ≡ z → p ≡ z → o ≡ p
      both a b = a ∙ sym b

      goals : ((g : Goal Operand) × (goal_of kind symbol xs ≡ Some g) × (o ≡ (Ok tt, s.waiting ++ (goal g ∷ [])))) → ((g : Goal Operand) × (goal_of kind symbol xs ≡ Some g) × (p ≡ (Ok tt, s.waiting ++ (goal g ∷ [])))) → o ≡ p
      goals a b = a.2 ∙ ap (λ (g : Goal Operand). (Ok tt, s.waiting ++ (goal g ∷ []))) (same_Some _ _ (sym a.1 ∙ b.1)) ∙ sym b.2

  pub one_post : (s s' t u : Config A B) (kind symbol : ℕ) (xs : List Operand) (x y : Result (Unit {0}) PostRefusal) → Alike T P s s' → PostSays T s kind symbol xs x t → PostSays T s' kind symbol xs y u → (x ≡ y) × Alike T P t u
  one_post s s' t u kind symbol xs x y al a b = go (replied s t kind symbol xs x a) (replied s' u kind symbol xs y b)
    where
      here : (o : Reply) → Judged s' kind symbol xs o → Judged s kind symbol xs o
      here o (inl p) = inl (failed_alike s s' al p.0, subst (λ z. o ≡ (Err TheoryFailed, z)) (sym al.waiting) p.1)
      here o (inr p) = inr (stands_alike s s' al p.0, subst (λ (z : Book × List Entry × List ℕ). Accepts kind symbol xs z.0 z.1 z.2 o) (λ i. (sym al.book i, sym al.waiting i, sym al.posted i)) p.1)

      same : (o p : Reply) → o ≡ p → Waits s t o.1 → Waits s' u p.1 → Alike T P t u
      same o p e v w = record { book = v.becomes.book ∙ al.book ∙ sym w.becomes.book; waiting = v.becomes.waiting ∙ ap (λ (z : Reply). z.1) e ∙ sym w.becomes.waiting; history = v.becomes.history ∙ al.history ∙ sym w.becomes.history; posted = v.becomes.posted ∙ al.posted ∙ sym w.becomes.posted; next = v.becomes.next ∙ al.next ∙ sym w.becomes.next; theory = same_then (meaning T t) (meaning T s) (meaning T u) (same_back (meaning T s) (meaning T t) (same_theory T P s t v.theory)) (same_then (meaning T s) (meaning T s') (meaning T u) al.theory (same_theory T P s' u w.theory)); table = ap P.records v.table ∙ al.table ∙ sym (ap P.records w.table) }

      go : Replied s t kind symbol xs x → Replied s' u kind symbol xs y → (x ≡ y) × Alike T P t u
      go p q = let e = judged_one s kind symbol xs p.0 q.0 p.3 (here q.0 q.3) in (p.1 ∙ ap (λ (z : Reply). z.0) e ∙ sym q.1, same p.0 q.0 e p.2 q.2)

  pub one_answer : OneAnswer T P
  one_answer s s' t u c a b es fs al (ref.at_variable x v) (ref.at_variable y w) = let r = one_variable s s' t u x y al v w in (ap sheet.by_variable r.0, ap made_events r.0, r.1)
  one_answer s s' t u c a b es fs al (ref.at_post kind symbol xs x v) (ref.at_post _ _ _ y w) = let r = one_post s s' t u kind symbol xs x y al v w in (ap sheet.by_post r.0, ap (λ z. post_events z (goal_of kind symbol xs)) r.0, r.1)
  one_answer s s' t u c a b es fs al (ref.at_step x v) (ref.at_step y w) = let r = one_step T P s s' t u x y al v w in (ap sheet.by_step r.0, λ i. stepped (r.0 i) (telling (al.waiting i) (r.0 i)) ∷ [], r.1)
  one_answer s s' t u c a b es fs al (ref.at_run k made e v) (ref.at_run _ made' f w) = let r = one_run k s s' t u e f made made' al v w in (λ i. sheet.by_run (r.0 i) (length (r.1 i)), r.1, r.2)

  alike_self : (s : Config A B) → Alike T P s s
  alike_self s = record { book = refl; waiting = refl; history = refl; posted = refl; next = refl; theory = (refl, λ v. Iff.rfl); table = refl }

  -- what a call says is all that it can say
  pub exactly : (s t : Config A B) (c : Call) (a : Answer) (es : List Event) → Says T P s c a es t → Exactly T P s c a t
  exactly s t c a es x = record { says = (es, x); only = λ b fs u y. let r = one_answer s s u t c b a fs es (alike_self s) y x in (r.0, r.2) }
