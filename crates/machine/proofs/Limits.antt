-- The limits of a sheet hold after every call and step. Assumes nothing.
use Rattle.std.proofs.Common.{◌≡◌, ℕ, suc, ◌<◌, ◌≤◌, Bool, true, false, cond, not, eqb, ◌⊎◌, List, [], ◌∷◌, ◌++◌, map, length, Some, Ok, filter, sym, refl, ap, ◌∙◌, subst, inl, inr, append-nil, arith, length-append}
use lib.ListN.{length-map}
use Rattle.std.proofs.lemmas.Bool.{both_ways, eqb-true, eq-eqb}
use Rattle.std.proofs.lemmas.Option.{none-some}
use Rattle.terms.specs.declared.Operand.{Operand}
use Rattle.terms.specs.declared.Primitive.{Primitive}
use Rattle.rules.specs.Books.{Goal, Book}
use Rattle.theory.specs.declared.interface.Theory as Theory
use Rattle.table.specs.declared.partner.PartnerTable as PartnerTable
use Rattle.table.specs.Lists.{is_none, first, memberb}
use Rattle.table.specs.Records.{Record, recorded}
use Rattle.table.specs.Tables.{Table, with_record, without}
use Rattle.machine.specs.Lists.{◌∈◌, there, Distinct}
use Rattle.machine.specs.Matching.{Firing, gone}
use Rattle.machine.specs.Sheets.{Entry, goal, wake, active, Config, StepAnswer, activated, Accepted, made_variable, posted_goal, Event, took, stepped}
use Rattle.machine.specs.Refined as ref
use Rattle.machine.specs.Refined.{meaning, living, rule_of, removes_nothing, names_any, Becomes, Waits, HistoryFull, Opened, StepSays, VariableSays, PostSays}
use Rattle.machine.specs.Statements.{accepted, variables_of, given, Within}
use Rattle.machine.proofs.Members.{mem_cases, mem_none, mem_left, mem_right, mem_append, here_at}
use Rattle.machine.proofs.Stores.{added_cases, living_with}
use Rattle.machine.proofs.Trails.{Trail, accepted_more, given_more}
use Rattle.machine.proofs.Trails as trail

pub distinct_push : {A : Type 0} (xs : List A) (x : A) → Distinct xs → (x ∈ xs → ⊥) → Distinct (xs ++ (x ∷ []))
distinct_push [] x a n = (mem_none, tt)
distinct_push (y ∷ xs) x a n = (λ m. go (mem_append xs m), distinct_push xs x a.1 (λ m. n (there m)))
  where
    go : (y ∈ xs) ⊎ (y ∈ (x ∷ [])) → ⊥
    go (inl m) = a.0 m
    go (inr m) = elim (mem_cases m) [ inl e ↦ n (here_at xs (sym e)) | inr q ↦ mem_none q ]

kept_short : {A : Type 0} (p : A → Bool) (xs : List A) → length (filter p xs) ≤ length xs
kept_short p [] = omega arith
kept_short p (x ∷ xs) = go (kept_short p xs) (p x)
  where
    go : length (filter p xs) ≤ length xs → (b : Bool) → length (cond b (x ∷ filter p xs) (filter p xs)) ≤ suc (length xs)
    go l true = omega arith
    go l false = omega arith

pub variables_more : (as' bs : List Accepted) → variables_of (as' ++ bs) ≡ variables_of as' ++ variables_of bs
variables_more [] bs = refl
variables_more (made_variable x ∷ as') bs = ap (λ l. x ∷ l) (variables_more as' bs)
variables_more (posted_goal g ∷ as') bs = variables_more as' bs

no_record : (rs : List Record) → ((r : Record) → first rs ≡ Some r → ⊥) → rs ≡ []
no_record [] f = refl
no_record (r ∷ rs) f = absurd (f r refl)

module _ {A B : Type 0} (T : Theory.Ghosts A) (P : PartnerTable.Ghosts B) where
  -- the next identifier is free
  pub free : (es : List Event) (s : Config A B) → Within T P es s → P.records s.table s.next ≡ []
  free es s w = no_record (P.records s.table s.next) (λ r e. omega (arith, (w.below s.next (w.lives s.next r e)).1))

  pub limits_opened : (book : Book) (s : Config A B) → Opened T P book s → Within T P [] s
  limits_opened book s o = record {
    few_wait = subst (λ (z : List Entry). length z ≤ 512) (sym o.waiting) (omega arith);
    few_tuples = subst (λ (z : List Firing). length z ≤ 512) (sym o.history) (omega arith);
    from_one = omega (arith, o.next);
    to_last = omega (arith, o.next);
    once = tt;
    below = λ i m. absurd (mem_none m);
    lives = λ i r e. absurd (none-some _ (sym (ap (λ (t : Table). first (t i)) o.empty) ∙ e));
    one_each = λ i. subst (λ (t : Table). length (t i) ≤ 1) (sym o.empty) (omega arith);
    variables = o.posted;
    made = λ x m. absurd (mem_none (subst (λ l. x ∈ l) o.posted m));
  }

  -- nothing is added to the table, and no identifier or variable is given to the caller
  limits_kept : (es fs : List Event) (s t : Config A B) → Within T P es s → given fs ≡ [] → variables_of (accepted fs) ≡ [] → length t.waiting ≤ 512 → length t.history ≤ 512 → t.posted ≡ s.posted → t.next ≡ s.next → (meaning T s).made ≤ (meaning T t).made → ((i : ℕ) → (P.records t.table i ≡ P.records s.table i) ⊎ (P.records t.table i ≡ [])) → Within T P (es ++ fs) t
  limits_kept es fs s t w no_given no_made few_wait few_tuples posted next made fewer = record {
    few_wait = few_wait;
    few_tuples = few_tuples;
    from_one = omega (arith, next, w.from_one);
    to_last = omega (arith, next, w.to_last);
    once = subst Distinct (sym ids) w.once;
    below = λ i m. let l = w.below i (subst (λ z. i ∈ z) ids m) in (l.0, omega (arith, next, l.1));
    lives = λ i r e. subst (λ z. i ∈ z) (sym ids) (lived i r e (fewer i));
    one_each = λ i. short i (fewer i);
    variables = posted ∙ w.variables ∙ sym vars;
    made = λ x m. omega (arith, made, w.made x (subst (λ l. x ∈ l) posted m));
  }
    where
      ids : given (es ++ fs) ≡ given es
      ids = given_more es fs ∙ ap (λ z. given es ++ z) no_given ∙ append-nil (given es)

      vars : variables_of (accepted (es ++ fs)) ≡ variables_of (accepted es)
      vars = ap variables_of (accepted_more es fs) ∙ variables_more (accepted es) (accepted fs) ∙ ap (λ z. variables_of (accepted es) ++ z) no_made ∙ append-nil (variables_of (accepted es))

      lived : (i : ℕ) (r : Record) → living P t i ≡ Some r → (P.records t.table i ≡ P.records s.table i) ⊎ (P.records t.table i ≡ []) → i ∈ given es
      lived i r e (inl q) = w.lives i r (ap first (sym q) ∙ e)
      lived i r e (inr q) = absurd (none-some _ (sym (ap first q) ∙ e))

      short : (i : ℕ) → (P.records t.table i ≡ P.records s.table i) ⊎ (P.records t.table i ≡ []) → length (P.records t.table i) ≤ 1
      short i (inl q) = subst (λ z. length z ≤ 1) (sym q) (w.one_each i)
      short i (inr q) = subst (λ (z : List Record). length z ≤ 1) (sym q) (omega arith)

  -- only the waiting list changes
  limits_waits : (es fs : List Event) (s t : Config A B) (w : List Entry) → Within T P es s → given fs ≡ [] → variables_of (accepted fs) ≡ [] → Waits s t w → length w ≤ 512 → Within T P (es ++ fs) t
  limits_waits es fs s t w x g v b l = limits_kept es fs s t x g v (subst (λ z. length z ≤ 512) (sym b.becomes.waiting) l) (subst (λ z. length z ≤ 512) (sym b.becomes.history) x.few_tuples) b.becomes.posted b.becomes.next (omega (arith, ap (λ z. (T.means z).made) b.theory)) (λ i. inl (ap (λ z. P.records z i) b.table))

  -- nothing changes
  limits_stay : (es fs : List Event) (s : Config A B) → Within T P es s → given fs ≡ [] → variables_of (accepted fs) ≡ [] → Within T P (es ++ fs) s
  limits_stay es fs s w g v = limits_kept es fs s s w g v w.few_wait w.few_tuples refl refl (omega arith) (λ i. inl refl)

  limits_added : (es : List Event) (s t : Config A B) (r : Record) (rest : List Entry) (ps : List (Primitive Operand)) → Within T P es s → s.next ≤ 1000000 → length s.waiting ≡ suc (length rest) → t.theory ≡ s.theory → P.records t.table ≡ with_record (P.records s.table) s.next r → Becomes s t (active s.next 1 ∷ rest) s.history (suc s.next) → Within T P (es ++ (stepped (activated s.next) ps ∷ [])) t
  limits_added es s t r rest ps w l size e f b = record {
    few_wait = subst (λ z. length z ≤ 512) (sym b.waiting) (omega (arith, size, w.few_wait));
    few_tuples = subst (λ z. length z ≤ 512) (sym b.history) w.few_tuples;
    from_one = omega (arith, b.next);
    to_last = omega (arith, b.next, l);
    once = subst Distinct (sym ids) (distinct_push (given es) s.next w.once (λ m. omega (arith, (w.below s.next m).1)));
    below = λ i m. low i (mem_append (given es) (subst (λ z. i ∈ z) ids m));
    lives = λ i x q. subst (λ z. i ∈ z) (sym ids) (lived i x (added_cases s.next r (living P s) i x (sym (ap (λ z. z i) store) ∙ q)));
    one_each = λ i. subst (λ (z : Table). length (z i) ≤ 1) (sym f) (short i (eqb s.next i) (P.records s.table i) (w.one_each i));
    variables = b.posted ∙ w.variables ∙ sym vars;
    made = λ x m. omega (arith, ap (λ z. (T.means z).made) e, w.made x (subst (λ l. x ∈ l) b.posted m));
  }
    where
      ids : given (es ++ (stepped (activated s.next) ps ∷ [])) ≡ given es ++ (s.next ∷ [])
      ids = given_more es (stepped (activated s.next) ps ∷ [])

      vars : variables_of (accepted (es ++ (stepped (activated s.next) ps ∷ []))) ≡ variables_of (accepted es)
      vars = ap variables_of (trail.accepted_step es (activated s.next) ps)

      store : living P t ≡ Rattle.machine.proofs.Stores.adding s.next r (living P s)
      store = living_with P s t s.next r (free es s w) f

      low : (i : ℕ) → (i ∈ given es) ⊎ (i ∈ (s.next ∷ [])) → (1 ≤ i) × (i < t.next)
      low i (inl m) = let x = w.below i m in (x.0, omega (arith, b.next, x.1))
      low i (inr m) = elim (mem_cases m) [ inl q ↦ (omega (arith, q, w.from_one), omega (arith, q, b.next)) | inr z ↦ absurd (mem_none z) ]

      lived : (i : ℕ) (x : Record) → ((s.next ≡ i) × (r ≡ x)) ⊎ (living P s i ≡ Some x) → i ∈ (given es ++ (s.next ∷ []))
      lived i x (inl q) = mem_right (given es) (here_at [] (sym q.0))
      lived i x (inr q) = mem_left (s.next ∷ []) (w.lives i x q)

      short : (i : ℕ) (c : Bool) (rs : List Record) → length rs ≤ 1 → length (cond c (cond (is_none (P.records s.table s.next)) (r ∷ []) (P.records s.table s.next)) rs) ≤ 1
      short i true rs k = subst (λ (z : List Record). length (cond (is_none z) (r ∷ []) z) ≤ 1) (sym (free es s w)) (omega arith)
      short i false rs k = k

  gone_or_not : (s t : Config A B) (out : List ℕ) → P.records t.table ≡ without (P.records s.table) out → (i : ℕ) → (P.records t.table i ≡ P.records s.table i) ⊎ (P.records t.table i ≡ [])
  gone_or_not s t out e i = go (memberb i out) refl
    where
      go : (b : Bool) → memberb i out ≡ b → (P.records t.table i ≡ P.records s.table i) ⊎ (P.records t.table i ≡ [])
      go true q = inr (ap (λ (z : Table). z i) e ∙ ap (λ c. cond c [] (P.records s.table i)) q)
      go false q = inl (ap (λ (z : Table). z i) e ∙ ap (λ c. cond c [] (P.records s.table i)) q)

  history_few : (s : Config A B) (k : ℕ) (tuple : List ℕ) → length s.history ≤ 512 → (HistoryFull s (rule_of s k) → ⊥) → length (ref.history_after s k (rule_of s k) tuple) ≤ 512
  history_few s k tuple l n = go (removes_nothing (rule_of s k)) refl
    where
      go : (b : Bool) → removes_nothing (rule_of s k) ≡ b → length (cond b (s.history ++ ((k, tuple) ∷ [])) (filter (λ f. not (names_any (gone (rule_of s k) tuple) f.1)) s.history)) ≤ 512
      go true q = few (Rattle.std.proofs.lemmas.Bool.cases_lt (length s.history) 512)
        where
          few : (length s.history < 512) ⊎ (512 ≤ length s.history) → length (s.history ++ ((k, tuple) ∷ [])) ≤ 512
          few (inl z) = omega (arith, z, length-append s.history ((k, tuple) ∷ []))
          few (inr z) = absurd (n (q, z))
      go false q = omega (arith, l, kept_short (λ (f : Firing). not (names_any (gone (rule_of s k) tuple) f.1)) s.history)

  pub limits_step : (es : List Event) (s t : Config A B) (a : StepAnswer) (ps : List (Primitive Operand)) → Within T P es s → StepSays T P s a t → Within T P (es ++ (stepped a ps ∷ [])) t
  limits_step es s t a ps w (ref.fails f) = limits_stay es _ s w refl refl
  limits_step es s t a ps w (ref.ends st e) = limits_stay es _ s w refl refl
  limits_step es s t a ps w (ref.tells p rest is st top wk l tl ta b) = limits_kept es _ s t w refl refl (subst (λ (z : List Entry). length z ≤ 512) (sym b.waiting) (omega (arith, l, length-append (map wake is) rest, length-map is wake))) (subst (λ (z : List Firing). length z ≤ 512) (sym b.history) w.few_tuples) b.posted b.next (omega (arith, tl.0)) (λ i. inl (ap (λ z. P.records z i) ta))
  limits_step es s t a ps w (ref.crowded p rest is st top wk l) = limits_stay es _ s w refl refl
  limits_step es s t a ps w (ref.activates c xs rest st top l r e f b) = limits_added es s t (recorded c xs) rest ps w l (ap length top) e f b
  limits_step es s t a ps w (ref.spent c xs rest st top l) = limits_stay es _ s w refl refl
  limits_step es s t a ps w (ref.packed c xs rest st top l r) = limits_stay es _ s w refl refl
  limits_step es s t a ps w (ref.rises i rest r st top f b) = limits_waits es _ s t (active i 1 ∷ rest) w refl refl b (omega (arith, ap length top, w.few_wait))
  limits_step es s t a ps w (ref.late i rest st top f b) = limits_waits es _ s t rest w refl refl b (omega (arith, ap length top, w.few_wait))
  limits_step es s t a ps w (ref.dead i j rest st top f b) = limits_waits es _ s t rest w refl refl b (omega (arith, ap length top, w.few_wait))
  limits_step es s t a ps w (ref.over i j rest r st top f l b) = limits_waits es _ s t rest w refl refl b (omega (arith, ap length top, w.few_wait))
  limits_step es s t a ps w (ref.passes rest i j k h turn nf b) = limits_waits es _ s t (active i (suc j) ∷ rest) w refl refl b (omega (arith, ap length turn.top, w.few_wait))
  limits_step es s t a ps w (ref.fires rest i j k h tuple turn first nh small fit made ta b) = limits_kept es _ s t w refl refl (subst (λ (z : List Entry). length z ≤ 512) (sym b.waiting) fit) (subst (λ (z : List Firing). length z ≤ 512) (sym b.history) (history_few s k tuple w.few_tuples nh)) b.posted b.next (omega (arith, made.0)) (gone_or_not s t (gone (rule_of s k) tuple) ta)
  limits_step es s t a ps w (ref.full_history rest i j k h tuple turn first nh) = limits_stay es _ s w refl refl
  limits_step es s t a ps w (ref.full_variables rest i j k h tuple turn first nh l) = limits_stay es _ s w refl refl
  limits_step es s t a ps w (ref.full_waiting rest i j k h tuple turn first nh l m) = limits_stay es _ s w refl refl

  pub limits_variable : (es : List Event) (s t : Config A B) (x : ℕ) → Within T P es s → VariableSays T s (Ok x) t → Within T P (es ++ (took (made_variable x) ∷ [])) t
  limits_variable es s t x w (ref.makes l m ta bo wa hi po ne) = record {
    few_wait = subst (λ (z : List Entry). length z ≤ 512) (sym wa) w.few_wait;
    few_tuples = subst (λ (z : List Firing). length z ≤ 512) (sym hi) w.few_tuples;
    from_one = omega (arith, ne, w.from_one);
    to_last = omega (arith, ne, w.to_last);
    once = subst Distinct (sym ids) w.once;
    below = λ i k. let z = w.below i (subst (λ z. i ∈ z) ids k) in (z.0, omega (arith, ne, z.1));
    lives = λ i r e. subst (λ z. i ∈ z) (sym ids) (w.lives i r (ap (λ z. first (P.records z i)) (sym ta) ∙ e));
    one_each = λ i. subst (λ z. length (P.records z i) ≤ 1) (sym ta) (w.one_each i);
    variables = po ∙ ap (λ l. l ++ ((meaning T s).made ∷ [])) w.variables ∙ sym vars;
    made = λ y k. low y (mem_append s.posted (subst (λ l. y ∈ l) po k));
  }
    where
      ids : given (es ++ (took (made_variable (meaning T s).made) ∷ [])) ≡ given es
      ids = given_more es (took (made_variable (meaning T s).made) ∷ []) ∙ append-nil (given es)

      vars : variables_of (accepted (es ++ (took (made_variable (meaning T s).made) ∷ []))) ≡ variables_of (accepted es) ++ ((meaning T s).made ∷ [])
      vars = ap variables_of (accepted_more es (took (made_variable (meaning T s).made) ∷ [])) ∙ variables_more (accepted es) (made_variable (meaning T s).made ∷ [])

      low : (y : ℕ) → (y ∈ s.posted) ⊎ (y ∈ ((meaning T s).made ∷ [])) → y < (meaning T t).made
      low y (inl k) = omega (arith, m.0, w.made y k)
      low y (inr k) = elim (mem_cases k) [ inl q ↦ omega (arith, m.0, q) | inr z ↦ absurd (mem_none z) ]

  pub limits_post : (es : List Event) (s t : Config A B) (kind symbol : ℕ) (xs : List Operand) (g : Goal Operand) → Within T P es s → PostSays T s kind symbol xs (Ok tt) t → Within T P (es ++ (took (posted_goal g) ∷ [])) t
  limits_post es s t kind symbol xs g w (ref.posts h c ps l e b) = limits_waits es _ s t (s.waiting ++ (goal h ∷ [])) w refl refl b (omega (arith, l, length-append s.waiting (goal h ∷ [])))

  -- the limits hold after any trail that begins with an opening
  pub limits : (book : Book) {s t : Config A B} {es : List Event} → Opened T P book s → Trail T P s es t → Within T P es t
  limits book o trail.begins = limits_opened book _ o
  limits book o (trail.makes {es = es} {t = t} {u = u} x p v) = limits_variable es t u x (limits book o p) v
  limits book o (trail.posts {es = es} {t = t} {u = u} kind symbol xs g p v e) = limits_post es t u kind symbol xs g (limits book o p) v
  limits book o (trail.steps {es = es} {t = t} {u = u} a p v) = limits_step es t u a _ (limits book o p) v
