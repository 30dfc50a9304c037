-- What the postings mean is what a sheet still holds, across each call and step. Assumes nothing.
use Rattle.std.proofs.Common.{◌≡◌, ℕ, suc, ◌+◌, ◌-◌, ◌<◌, ◌≤◌, Bool, true, false, cond, eqb, ltb, ◌↔◌, ◌⊎◌, inl, inr, List, [], ◌∷◌, ◌++◌, map, length, Some, None, Ok, sym, refl, ap, ◌∙◌, subst, append-nil, arith}
use mathlib.Core.Logic.Iff
use Rattle.std.proofs.lemmas.Bool.{eqb-true, eq-eqb, cond-true, cond-false}
use Rattle.std.proofs.lemmas.Option.{none-some, same_Some}
use Rattle.terms.specs.declared.Operand.{Operand}
use Rattle.terms.specs.declared.Operand.TheVariants.{Value, Variable}
use Rattle.terms.specs.declared.Primitive.{Primitive}
use Rattle.terms.specs.Lists.{All}
use Rattle.terms.specs.Domains.{Valuation, Sensible, worth, TrueIn}
use Rattle.rules.specs.Books.{Goal, tell, add, Rule, Book, heads}
use Rattle.rules.specs.Valids.{RuleValid}
use Rattle.theory.specs.declared.interface.Theory as Theory
use Rattle.theory.specs.Meanings.{Lawful, Told, Made}
use Rattle.table.specs.declared.partner.PartnerTable as PartnerTable
use Rattle.table.specs.Lists.{first, memberb}
use Rattle.table.specs.Records.{Record, recorded}
use Rattle.table.specs.Tables.{with_record, without}
use Rattle.machine.specs.Lists.{◌∈◌, here}
use Rattle.machine.specs.Matching.{no_rule, body_for, gone}
use Rattle.machine.specs.Sheets.{Entry, goal, wake, active, Config, StepAnswer, Accepted, made_variable, posted_goal, Event, took, stepped}
use Rattle.machine.specs.Refined as ref
use Rattle.machine.specs.Refined.{rule_of, Becomes, Waits, meaning, living, Turn, FirstFit, waiting_after, StepSays, Opened, VariableSays, Postable, goal_of, PostSays}
use Rattle.machine.specs.Abstract.{pending_of}
use Rattle.machine.specs.Readings.{Reading, Obeys, ObeysRule, GoalHolds, RecordHolds}
use Rattle.machine.specs.Statements.{accepted, postings, Held}
use Rattle.machine.proofs.Members.{mem_cases, mem_none, mem_left, mem_append, get_or_mem, all_map, all_append, all_parts, all_mem, all_from, memberb_in, memberb_not}
use Rattle.machine.proofs.Trails.{accepted_more, accepted_step}
use Rattle.machine.proofs.Stores.{living_with, living_without}
use Rattle.machine.proofs.Good.{Good, rule_valid, turn_bounds}
use Rattle.machine.proofs.Pending.{pending_append, pending_woken, pending_goals, pending_kept, pending_mem}
use Rattle.machine.proofs.Holding.{EachOperand, each_operand, posting_operands, goal_same, good_same, put, put_below, put_new, put_sensible, body_holds, gone_hold}

pub postings_more : (xs ys : List Accepted) → postings (xs ++ ys) ≡ postings xs ++ postings ys
postings_more [] ys = refl
postings_more (made_variable x ∷ xs) ys = postings_more xs ys
postings_more (posted_goal g ∷ xs) ys = ap (λ l. g ∷ l) (postings_more xs ys)

module _ {A B : Type 0} (T : Theory.Ghosts A) (P : PartnerTable.Ghosts B) where
  -- in any reading that obeys the rules, the postings hold exactly when what the sheet still holds does
  abbrev pub MeantAt : List Event → Config A B → Type 0
  MeantAt es s = (R : Reading T.domain) → Obeys T.domain R s.book → (v : Valuation T.domain) → Sensible T.domain v → All (GoalHolds T.domain R v) (postings (accepted es)) ↔ ((w : Valuation T.domain) × Held T P s R v w)

  abbrev SomeHeld : Config A B → Reading T.domain → Valuation T.domain → Type 0
  SomeHeld s R v = (w : Valuation T.domain) × Held T P s R v w

  -- the same is held before as after
  abbrev HeldToo : Config A B → Config A B → Type 0
  HeldToo s t = (R : Reading T.domain) → Obeys T.domain R s.book → (v : Valuation T.domain) → Sensible T.domain v → SomeHeld s R v ↔ SomeHeld t R v

  carried : (s t : Config A B) (es fs : List Event) → t.book ≡ s.book → postings (accepted fs) ≡ postings (accepted es) → HeldToo s t → MeantAt es s → MeantAt fs t
  carried s t es fs b p same m R o v sv = let o' = subst (Obeys T.domain R) b o in subst (λ l. All (GoalHolds T.domain R v) l ↔ SomeHeld t R v) (sym p) (Iff.trans (m R o' v sv) (same R o' v sv))

  same_living : (s t : Config A B) → t.table ≡ s.table → (i : ℕ) → living P t i ≡ living P s i
  same_living s t e i = ap (λ z. first (P.records z i)) e

  -- the posted variables, what is admitted, what is pending and what lives stay
  held_same : (s t : Config A B) → t.posted ≡ s.posted → ((w : Valuation T.domain) → (meaning T s).admits w → (meaning T t).admits w) → pending_of t.waiting ≡ pending_of s.waiting → ((i : ℕ) → living P t i ≡ living P s i) → (R : Reading T.domain) (v : Valuation T.domain) → SomeHeld s R v → SomeHeld t R v
  held_same s t p a q l R v h = (h.0, record { agrees = λ x e. h.1.agrees x (subst (λ l. x ∈ l) p e); admitted = a h.0 h.1.admitted; pending = subst (All (GoalHolds T.domain R h.0)) (sym q) h.1.pending; alive = λ i r e. h.1.alive i r (sym (l i) ∙ e) })

  -- what holds of known goals and constraints holds where the made variables have the same values
  still_pending : (s : Config A B) → Good T P s → (R : Reading T.domain) (w u : Valuation T.domain) → ((x : ℕ) → x < (meaning T s).made → w x ≡ u x) → All (GoalHolds T.domain R w) (pending_of s.waiting) → All (GoalHolds T.domain R u) (pending_of s.waiting)
  still_pending s good R w u f a = all_from (GoalHolds T.domain R u) (pending_of s.waiting) (λ g k. good_same T.domain R s.book (meaning T s).made w u f g (good.goals g (pending_mem s.waiting g k)) (all_mem (GoalHolds T.domain R w) a k))

  still_alive : (s : Config A B) → Good T P s → (R : Reading T.domain) (w u : Valuation T.domain) → ((x : ℕ) → x < (meaning T s).made → w x ≡ u x) → ((i : ℕ) (r : Record) → living P s i ≡ Some r → RecordHolds T.domain R w r) → (i : ℕ) (r : Record) → living P s i ≡ Some r → RecordHolds T.domain R u r
  still_alive s good R w u f a i r e = good_same T.domain R s.book (meaning T s).made w u f (add r.symbol r.arguments) (good.records i r e) (a i r e)

  pub meant_opened : (book : Book) (s : Config A B) → Opened T P book s → MeantAt [] s
  meant_opened book s o R ob v sv = (λ a. (v, record { agrees = λ x e. refl; admitted = (o.clear.1 v).1 sv; pending = subst (λ w. All (GoalHolds T.domain R v) (pending_of w)) (sym o.waiting) tt; alive = λ i r e. absurd (none-some _ (sym (ap (λ q. first (q i)) o.empty) ∙ e)) }), λ h. tt)

  -- a variable more, which has the value that it was given
  made_held : (s t : Config A B) → Lawful T.means T.capacity → Good T P s → ((y : ℕ) → y ∈ s.posted → y < (meaning T s).made) → Made (meaning T s) 1 (meaning T t) → t.table ≡ s.table → t.waiting ≡ s.waiting → t.posted ≡ s.posted ++ ((meaning T s).made ∷ []) → HeldToo s t
  made_held s t lawful good known made table waiting posted R o v sv = (to, from)
    where
      n : ℕ
      n = (meaning T s).made

      to : SomeHeld s R v → SomeHeld t R v
      to h = (u, record { agrees = agrees'; admitted = (made.1 u).1 (lawful.local s.theory h.0 u keeps sense h.1.admitted); pending = subst (λ w. All (GoalHolds T.domain R u) (pending_of w)) (sym waiting) (still_pending s good R h.0 u keeps h.1.pending); alive = λ i r e. still_alive s good R h.0 u keeps h.1.alive i r (sym (same_living s t table i) ∙ e) })
        where
          u : Valuation T.domain
          u = put T.domain h.0 n (v n ∷ [])

          sense : Sensible T.domain u
          sense = put_sensible T.domain h.0 n (v n ∷ []) (lawful.sensible s.theory h.0 h.1.admitted) (sv n, tt)

          keeps : (x : ℕ) → x < n → h.0 x ≡ u x
          keeps = put_below T.domain h.0 n (v n ∷ [])

          new : u n ≡ v n
          new = let z : n + 0 ≡ n = omega arith in subst (λ (k : ℕ). u k ≡ v n) z (put_new T.domain h.0 n (v n ∷ []) (v n) 0 (omega arith))

          pass : (x : ℕ) → (x ∈ s.posted) ⊎ (x ∈ (n ∷ [])) → u x ≡ v x
          pass x (inl k) = sym (keeps x (known x k)) ∙ h.1.agrees x k
          pass x (inr k) = elim (mem_cases k) [ inl q ↦ subst (λ z. u z ≡ v z) (sym q) new | inr z ↦ absurd (mem_none z) ]

          agrees' : (x : ℕ) → x ∈ t.posted → u x ≡ v x
          agrees' x e = pass x (mem_append s.posted (subst (λ l. x ∈ l) posted e))

      from : SomeHeld t R v → SomeHeld s R v
      from h = (h.0, record { agrees = λ x e. h.1.agrees x (subst (λ l. x ∈ l) (sym posted) (mem_left (n ∷ []) e)); admitted = (made.1 h.0).0 h.1.admitted; pending = subst (λ w. All (GoalHolds T.domain R h.0) (pending_of w)) waiting h.1.pending; alive = λ i r e. h.1.alive i r (same_living s t table i ∙ e) })

  pub meant_variable : (s t : Config A B) (es : List Event) (x : ℕ) → Lawful T.means T.capacity → Good T P s → ((y : ℕ) → y ∈ s.posted → y < (meaning T s).made) → VariableSays T s (Ok x) t → MeantAt es s → MeantAt (es ++ (took (made_variable x) ∷ [])) t
  meant_variable s t es x lawful good known (ref.makes less made table book waiting history posted next) m = carried s t es (es ++ (took (made_variable (meaning T s).made) ∷ [])) book (ap postings (accepted_more es (took (made_variable (meaning T s).made) ∷ [])) ∙ postings_more (accepted es) (made_variable (meaning T s).made ∷ []) ∙ append-nil (postings (accepted es))) (made_held s t lawful good known made table waiting posted) m

  -- a posted variable has its value in every valuation that agrees on those
  posted_same : (s : Config A B) (v w : Valuation T.domain) → ((x : ℕ) → x ∈ s.posted → w x ≡ v x) → (a : Operand) → Postable s.posted a → worth T.domain w a ≡ worth T.domain v a
  posted_same s v w f (Value n) k = refl
  posted_same s v w f (Variable x) k = f x k

  pub meant_post : (s t : Config A B) (es : List Event) (kind symbol : ℕ) (xs : List Operand) (g : Goal Operand) → PostSays T s kind symbol xs (Ok tt) t → goal_of kind symbol xs ≡ Some g → MeantAt es s → MeantAt (es ++ (took (posted_goal g) ∷ [])) t
  meant_post s t es kind symbol xs g (ref.posts f counted good space e w) e' m R o v sv = subst (λ l. All (GoalHolds T.domain R v) l ↔ SomeHeld t R v) (sym more) (to, from)
    where
      o' : Obeys T.domain R s.book
      o' = subst (Obeys T.domain R) w.becomes.book o

      more : postings (accepted (es ++ (took (posted_goal g) ∷ []))) ≡ postings (accepted es) ++ (g ∷ [])
      more = ap postings (accepted_more es (took (posted_goal g) ∷ [])) ∙ postings_more (accepted es) (posted_goal g ∷ [])

      pends : pending_of t.waiting ≡ pending_of s.waiting ++ (g ∷ [])
      pends = ap pending_of w.becomes.waiting ∙ pending_append s.waiting (goal f ∷ []) ∙ ap (λ z. pending_of s.waiting ++ (z ∷ [])) (same_Some _ _ (sym e ∙ e'))

      same : (u : Valuation T.domain) → ((x : ℕ) → x ∈ s.posted → u x ≡ v x) → EachOperand (λ a. worth T.domain u a ≡ worth T.domain v a) g
      same u h = posting_operands (λ a. worth T.domain u a ≡ worth T.domain v a) s.book kind symbol xs g counted.declared counted.counted (all_map (Postable s.posted) (λ a. worth T.domain u a ≡ worth T.domain v a) (posted_same s v u h) xs good) e'

      to : All (GoalHolds T.domain R v) (postings (accepted es) ++ (g ∷ [])) → SomeHeld t R v
      to a = put_last (all_parts (GoalHolds T.domain R v) (postings (accepted es)) (g ∷ []) a)
        where
          put_last : All (GoalHolds T.domain R v) (postings (accepted es)) × All (GoalHolds T.domain R v) (g ∷ []) → SomeHeld t R v
          put_last q = let h = (m R o' v sv).0 q.0 in (h.0, record { agrees = λ x k. h.1.agrees x (subst (λ z. x ∈ z) w.becomes.posted k); admitted = subst (λ z. (T.means z).admits h.0) (sym w.theory) h.1.admitted; pending = subst (All (GoalHolds T.domain R h.0)) (sym pends) (all_append (GoalHolds T.domain R h.0) (pending_of s.waiting) (g ∷ []) h.1.pending (goal_same T.domain R v h.0 g (each_operand _ (λ a. worth T.domain v a ≡ worth T.domain h.0 a) (λ a k. sym k) g (same h.0 h.1.agrees)) q.1.0, tt)); alive = λ i r k. h.1.alive i r (sym (same_living s t w.table i) ∙ k) })

      from : SomeHeld t R v → All (GoalHolds T.domain R v) (postings (accepted es) ++ (g ∷ []))
      from h = take_last (all_parts (GoalHolds T.domain R h.0) (pending_of s.waiting) (g ∷ []) (subst (All (GoalHolds T.domain R h.0)) pends h.1.pending))
        where
          agrees' : (x : ℕ) → x ∈ s.posted → h.0 x ≡ v x
          agrees' x k = h.1.agrees x (subst (λ z. x ∈ z) (sym w.becomes.posted) k)

          take_last : All (GoalHolds T.domain R h.0) (pending_of s.waiting) × All (GoalHolds T.domain R h.0) (g ∷ []) → All (GoalHolds T.domain R v) (postings (accepted es) ++ (g ∷ []))
          take_last q = all_append (GoalHolds T.domain R v) (postings (accepted es)) (g ∷ []) ((m R o' v sv).1 (h.0, record { agrees = agrees'; admitted = subst (λ z. (T.means z).admits h.0) w.theory h.1.admitted; pending = q.0; alive = λ i r k. h.1.alive i r (same_living s t w.table i ∙ k) })) (goal_same T.domain R h.0 v g (same h.0 agrees') q.1.0, tt)

  -- nothing is altered
  stays : (s : Config A B) → HeldToo s s
  stays s R o v sv = (λ h. h, λ h. h)

  -- only the waiting list is, and no goal of it
  waits_held : (s t : Config A B) (w : List Entry) → Waits s t w → pending_of w ≡ pending_of s.waiting → HeldToo s t
  waits_held s t w x p R o v sv = (held_same s t x.becomes.posted (λ u a. subst (λ z. (T.means z).admits u) (sym x.theory) a) (ap pending_of x.becomes.waiting ∙ p) (same_living s t x.table) R v, held_same t s (sym x.becomes.posted) (λ u a. subst (λ z. (T.means z).admits u) x.theory a) (sym (ap pending_of x.becomes.waiting ∙ p)) (same_living t s (sym x.table)) R v)

  -- a primitive that was pending is told
  told_held : (s t : Config A B) (p : Primitive Operand) (rest : List Entry) (is : List ℕ) → Good T P s → s.waiting ≡ goal (tell p) ∷ rest → Told (meaning T s) p (meaning T t) → t.table ≡ s.table → Becomes s t (map wake is ++ rest) s.history s.next → HeldToo s t
  told_held s t p rest is good top told table b R o v sv = (to, from)
    where
      same : (u : Valuation T.domain) → (meaning T t).admits u ↔ ((meaning T s).admits u × TrueIn T.domain u p)
      same = told.1 (good.goals (tell p) (subst (λ l. goal (tell p) ∈ l) (sym top) here))

      pends : pending_of t.waiting ≡ pending_of rest
      pends = ap pending_of b.waiting ∙ pending_woken is rest

      to : SomeHeld s R v → SomeHeld t R v
      to h = let q = subst (λ l. All (GoalHolds T.domain R h.0) (pending_of l)) top h.1.pending in (h.0, record { agrees = λ x k. h.1.agrees x (subst (λ z. x ∈ z) b.posted k); admitted = (same h.0).1 (h.1.admitted, q.0); pending = subst (All (GoalHolds T.domain R h.0)) (sym pends) q.1; alive = λ i r k. h.1.alive i r (sym (same_living s t table i) ∙ k) })

      from : SomeHeld t R v → SomeHeld s R v
      from h = let a = (same h.0).0 h.1.admitted in (h.0, record { agrees = λ x k. h.1.agrees x (subst (λ z. x ∈ z) (sym b.posted) k); admitted = a.0; pending = subst (λ l. All (GoalHolds T.domain R h.0) (pending_of l)) (sym top) (a.1, subst (All (GoalHolds T.domain R h.0)) pends h.1.pending); alive = λ i r k. h.1.alive i r (same_living s t table i ∙ k) })

  -- a constraint that was pending lives
  added_held : (s t : Config A B) (c : ℕ) (xs : List Operand) (rest : List Entry) → P.records s.table s.next ≡ [] → s.waiting ≡ goal (add c xs) ∷ rest → t.theory ≡ s.theory → P.records t.table ≡ with_record (P.records s.table) s.next (recorded c xs) → t.posted ≡ s.posted → pending_of t.waiting ≡ pending_of rest → HeldToo s t
  added_held s t c xs rest fresh top theory table posted pends R o v sv = (to, from)
    where
      lives : (i : ℕ) → living P t i ≡ cond (eqb s.next i) (Some (recorded c xs)) (living P s i)
      lives i = ap (λ z. z i) (living_with P s t s.next (recorded c xs) fresh table)

      to : SomeHeld s R v → SomeHeld t R v
      to h = (h.0, record { agrees = λ x k. h.1.agrees x (subst (λ z. x ∈ z) posted k); admitted = subst (λ z. (T.means z).admits h.0) (sym theory) h.1.admitted; pending = subst (All (GoalHolds T.domain R h.0)) (sym pends) q.1; alive = λ i r k. each i r (eqb s.next i) (sym (lives i) ∙ k) })
        where
          q : All (GoalHolds T.domain R h.0) (add c xs ∷ pending_of rest)
          q = subst (λ l. All (GoalHolds T.domain R h.0) (pending_of l)) top h.1.pending

          each : (i : ℕ) (r : Record) (b : Bool) → cond b (Some (recorded c xs)) (living P s i) ≡ Some r → RecordHolds T.domain R h.0 r
          each i r true e = subst (RecordHolds T.domain R h.0) (same_Some _ _ e) q.0
          each i r false e = h.1.alive i r e

      from : SomeHeld t R v → SomeHeld s R v
      from h = (h.0, record { agrees = λ x k. h.1.agrees x (subst (λ z. x ∈ z) (sym posted) k); admitted = subst (λ z. (T.means z).admits h.0) theory h.1.admitted; pending = subst (λ l. All (GoalHolds T.domain R h.0) (pending_of l)) (sym top) (new, subst (All (GoalHolds T.domain R h.0)) pends h.1.pending); alive = λ i r k. each i r (eqb s.next i) refl k })
        where
          new : RecordHolds T.domain R h.0 (recorded c xs)
          new = h.1.alive s.next (recorded c xs) (lives s.next ∙ cond-true (eqb s.next s.next) (Some (recorded c xs)) (living P s s.next) (eq-eqb s.next s.next refl))

          each : (i : ℕ) (r : Record) (b : Bool) → eqb s.next i ≡ b → living P s i ≡ Some r → RecordHolds T.domain R h.0 r
          each i r true e k = absurd (none-some _ (sym (ap first fresh) ∙ ap (living P s) (eqb-true s.next i e) ∙ k))
          each i r false e k = h.1.alive i r (lives i ∙ cond-false (eqb s.next i) (Some (recorded c xs)) (living P s i) e ∙ k)

  -- a rule is applied
  fired_held : (s t : Config A B) (rest : List Entry) (i j k h : ℕ) (tuple : List ℕ) → Lawful T.means T.capacity → Good T P s → ((y : ℕ) → y ∈ s.posted → y < (meaning T s).made) → Turn T P s rest i j k h → FirstFit T P s k h i tuple → Made (meaning T s) (rule_of s k).fresh (meaning T t) → P.records t.table ≡ without (P.records s.table) (gone (rule_of s k) tuple) → t.posted ≡ s.posted → t.waiting ≡ waiting_after T P s (rule_of s k) tuple rest i j h → HeldToo s t
  fired_held s t rest i j k h tuple lawful good known turn fit made table posted waiting R o v sv = (to, from)
    where
      r : Rule
      r = rule_of s k

      out : List ℕ
      out = gone (rule_of s k) tuple

      body : List (Goal Operand)
      body = body_for s.book.arities (living P s) (rule_of s k) tuple (meaning T s).made

      bounds : (1 ≤ k) × (k ≤ length s.book.rules) × (h < length (heads (rule_of s k)))
      bounds = turn_bounds T P s rest i j k h turn

      valid : RuleValid s.book.arities (rule_of s k)
      valid = rule_valid s.book good.valid k bounds.0 bounds.1

      obeys : ObeysRule T.domain R s.book.arities (rule_of s k)
      obeys = all_mem (ObeysRule T.domain R s.book.arities) o (get_or_mem s.book.rules (k - 1) no_rule (omega (arith, bounds.0, bounds.1)))

      before : pending_of s.waiting ≡ pending_of rest
      before = ap pending_of turn.top

      pends : pending_of t.waiting ≡ body ++ pending_of s.waiting
      pends = ap pending_of waiting ∙ pending_goals body (cond (ltb h (length r.kept)) (active i j ∷ rest) rest) ∙ ap (λ l. body ++ l) (pending_kept (ltb h (length r.kept)) i j rest ∙ sym before)

      lives : (x : ℕ) → living P t x ≡ cond (memberb x out) None (living P s x)
      lives x = ap (λ z. z x) (living_without P s t out table)

      to : SomeHeld s R v → SomeHeld t R v
      to y = filled (body_holds T.domain s.book (meaning T s).made (living P s) good.records R r tuple (meaning T s) valid obeys fit.fits.applies y.0 (lawful.sensible s.theory y.0 y.1.admitted) y.1.admitted y.1.alive)
        where
          filled : ((fs : List T.domain.Worth) × All T.domain.Proper fs × All (GoalHolds T.domain R (put T.domain y.0 (meaning T s).made fs)) body) → SomeHeld t R v
          filled f = (u, record { agrees = λ x e. let e' = subst (λ z. x ∈ z) posted e in sym (keeps x (known x e')) ∙ y.1.agrees x e'; admitted = (made.1 u).1 (lawful.local s.theory y.0 u keeps sense y.1.admitted); pending = subst (All (GoalHolds T.domain R u)) (sym pends) (all_append (GoalHolds T.domain R u) body (pending_of s.waiting) f.2 (still_pending s good R y.0 u keeps y.1.pending)); alive = λ x z e. still_alive s good R y.0 u keeps y.1.alive x z (each x z (memberb x out) (sym (lives x) ∙ e)) })
            where
              u : Valuation T.domain
              u = put T.domain y.0 (meaning T s).made f.0

              sense : Sensible T.domain u
              sense = put_sensible T.domain y.0 (meaning T s).made f.0 (lawful.sensible s.theory y.0 y.1.admitted) f.1

              keeps : (x : ℕ) → x < (meaning T s).made → y.0 x ≡ u x
              keeps = put_below T.domain y.0 (meaning T s).made f.0

              each : (x : ℕ) (z : Record) (b : Bool) → cond b None (living P s x) ≡ Some z → living P s x ≡ Some z
              each x z true e = absurd (none-some _ e)
              each x z false e = e

      from : SomeHeld t R v → SomeHeld s R v
      from y = (y.0, record { agrees = λ x e. y.1.agrees x (subst (λ z. x ∈ z) (sym posted) e); admitted = admitted'; pending = goals.1; alive = λ x z e. each x z (memberb x out) refl e })
        where
          admitted' : (meaning T s).admits y.0
          admitted' = (made.1 y.0).0 y.1.admitted

          goals : All (GoalHolds T.domain R y.0) body × All (GoalHolds T.domain R y.0) (pending_of s.waiting)
          goals = all_parts (GoalHolds T.domain R y.0) body (pending_of s.waiting) (subst (All (GoalHolds T.domain R y.0)) pends y.1.pending)

          kept : (x : ℕ) (z : Record) → memberb x out ≡ false → living P s x ≡ Some z → RecordHolds T.domain R y.0 z
          kept x z n e = y.1.alive x z (lives x ∙ cond-false (memberb x out) None (living P s x) n ∙ e)

          each : (x : ℕ) (z : Record) (b : Bool) → memberb x out ≡ b → living P s x ≡ Some z → RecordHolds T.domain R y.0 z
          each x z true n e = gone_hold T.domain s.book (meaning T s).made (living P s) good.records R r tuple (meaning T s) valid obeys fit.fits.applies y.0 (lawful.sensible s.theory y.0 admitted') admitted' goals.0 (λ a q f. kept a q (memberb_not a out f)) x z (memberb_in x out n) e
          each x z false n e = kept x z n e

  -- every step
  step_held : (s t : Config A B) (a : StepAnswer) → Lawful T.means T.capacity → Good T P s → ((y : ℕ) → y ∈ s.posted → y < (meaning T s).made) → P.records s.table s.next ≡ [] → StepSays T P s a t → (t.book ≡ s.book) × HeldToo s t
  step_held s t a lawful good known fresh (ref.fails f) = (refl, stays s)
  step_held s t a lawful good known fresh (ref.ends st w) = (refl, stays s)
  step_held s t a lawful good known fresh (ref.tells p rest is st top w l told table b) = (b.book, told_held s t p rest is good top told table b)
  step_held s t a lawful good known fresh (ref.crowded p rest is st top w l) = (refl, stays s)
  step_held s t a lawful good known fresh (ref.activates c xs rest st top l m theory table b) = (b.book, added_held s t c xs rest fresh top theory table b.posted (ap pending_of b.waiting))
  step_held s t a lawful good known fresh (ref.spent c xs rest st top l) = (refl, stays s)
  step_held s t a lawful good known fresh (ref.packed c xs rest st top l m) = (refl, stays s)
  step_held s t a lawful good known fresh (ref.rises i rest r st top e w) = (w.becomes.book, waits_held s t (active i 1 ∷ rest) w (sym (ap pending_of top)))
  step_held s t a lawful good known fresh (ref.late i rest st top e w) = (w.becomes.book, waits_held s t rest w (sym (ap pending_of top)))
  step_held s t a lawful good known fresh (ref.dead i j rest st top e w) = (w.becomes.book, waits_held s t rest w (sym (ap pending_of top)))
  step_held s t a lawful good known fresh (ref.over i j rest r st top e n w) = (w.becomes.book, waits_held s t rest w (sym (ap pending_of top)))
  step_held s t a lawful good known fresh (ref.passes rest i j k h turn none w) = (w.becomes.book, waits_held s t (active i (suc j) ∷ rest) w (sym (ap pending_of turn.top)))
  step_held s t a lawful good known fresh (ref.fires rest i j k h tuple turn fit room l m made table b) = (b.book, fired_held s t rest i j k h tuple lawful good known turn fit made table b.posted b.waiting)
  step_held s t a lawful good known fresh (ref.full_history rest i j k h tuple turn fit f) = (refl, stays s)
  step_held s t a lawful good known fresh (ref.full_variables rest i j k h tuple turn fit f l) = (refl, stays s)
  step_held s t a lawful good known fresh (ref.full_waiting rest i j k h tuple turn fit f l m) = (refl, stays s)

  pub meant_step : (s t : Config A B) (es : List Event) (a : StepAnswer) (ps : List (Primitive Operand)) → Lawful T.means T.capacity → Good T P s → ((y : ℕ) → y ∈ s.posted → y < (meaning T s).made) → P.records s.table s.next ≡ [] → StepSays T P s a t → MeantAt es s → MeantAt (es ++ (stepped a ps ∷ [])) t
  meant_step s t es a ps lawful good known fresh x m = let r = step_held s t a lawful good known fresh x in carried s t es (es ++ (stepped a ps ∷ [])) r.0 (ap postings (accepted_step es a ps)) r.1 m
