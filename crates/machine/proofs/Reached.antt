-- The abstract machine follows each call and each step of a sheet. Assumes nothing.
use Rattle.std.proofs.Common.{◌≡◌, ℕ, suc, ◌+◌, ◌<◌, ◌≤◌, true, cond, ltb, ◌⊎◌, ◌↔◌, List, [], ◌∷◌, ◌++◌, map, length, Some, Ok, sym, refl, ap, ◌∙◌, subst, inl, inr, append-nil, add-one, arith}
use Rattle.std.proofs.lemmas.Option.{same_Some}
use Rattle.terms.specs.declared.Operand.{Operand}
use Rattle.terms.specs.declared.Operand.TheVariants.{Value, Variable}
use Rattle.terms.specs.declared.Primitive.{Primitive}
use Rattle.terms.specs.Values.{IsValue}
use Rattle.terms.specs.Domains.{Valuation, TrueIn}
use Rattle.rules.specs.Books.{Goal, tell, add, Rule, Book, heads}
use Rattle.theory.specs.declared.interface.Theory as Theory
use Rattle.theory.specs.Meanings.{SameMeaning, Told, Made, Lawful}
use Rattle.table.specs.declared.partner.PartnerTable as PartnerTable
use Rattle.table.specs.Lists.{first}
use Rattle.table.specs.Records.{Record, recorded}
use Rattle.table.specs.Tables.{Table, with_record, without}
use Rattle.machine.specs.Lists.{◌∈◌, here, Distinct, Shuffle, none}
use Rattle.machine.specs.Matching.{Store, Firing, Applies, rule_at, body_for, gone}
use Rattle.machine.specs.Sheets.{Entry, goal, wake, active, Config, StepAnswer, applied, Accepted, made_variable, posted_goal, Event, took, stepped}
use Rattle.machine.specs.Refined as ref
use Rattle.machine.specs.Refined.{meaning, living, rule_of, removes_nothing, Stands, Becomes, Waits, Turn, FirstFit, Postable, Opened, StepSays, VariableSays, PostSays, goal_of, waiting_after, history_after}
use Rattle.machine.specs.Abstract as abst
use Rattle.machine.specs.Abstract.{State, Reaches, Shows, Nameable, GoodPosting, pending_of, meaning_of, AllLive}
use Rattle.machine.specs.Statements.{accepted, variables_of, firings, fired, Within}
use Rattle.machine.proofs.Members.{mem_none, mem_append, mem_cases, all_from, all_mem, here_at}
use Rattle.machine.proofs.Meanings.{follows_same}
use Rattle.machine.proofs.Stores.{survivors, adding, living_with, living_without}
use Rattle.machine.proofs.Cover.{firing}
use Rattle.machine.proofs.Trails.{accepted_more, accepted_step, firings_more}
use Rattle.machine.proofs.Limits.{distinct_push, free}
use Rattle.machine.proofs.Good.{Good, turn_bounds}
use Rattle.machine.proofs.Postings.{PostingParts, posting_parts}
use Rattle.machine.proofs.Pending.{pending_append, pending_woken, pending_goals, pending_kept, shuffle_take, shuffle_front, shuffle_last}
use Rattle.machine.proofs.Past.{Remembers, Past, fired_remembers, added_remembers, never_again, fired_past, added_past}

variable_called : (x : ℕ) (as' : List Accepted) → x ∈ variables_of as' → made_variable x ∈ as'
variable_called x [] m = absurd (mem_none m)
variable_called x (made_variable y ∷ as') m = go (λ n. variable_called x as' n) (mem_cases m)
  where
    go : (x ∈ variables_of as' → made_variable x ∈ as') → (x ≡ y) ⊎ (x ∈ variables_of as') → made_variable x ∈ (made_variable y ∷ as')
    go ih (inl e) = here_at as' (ap made_variable e)
    go ih (inr n) = Rattle.machine.specs.Lists.there (ih n)
variable_called x (posted_goal g ∷ as') m = Rattle.machine.specs.Lists.there (variable_called x as' m)

parts_posting : (book : Book) (calls : List Accepted) (g : Goal Operand) → PostingParts (Nameable calls) IsValue book g → GoodPosting book calls g
parts_posting book calls (tell p) k = k
parts_posting book calls (add c xs) k = k

module _ {A B : Type 0} (T : Theory.Ghosts A) (P : PartnerTable.Ghosts B) where
  -- a state of the abstract machine that the sheet shows, with what was applied on the way there
  pub record ReachedAt (es : List Event) (s : Config A B) : Type 0 where
    pub state : State
    pub reaches : Reaches T.domain s.book (accepted es) state
    pub shows : Shows T P s state
    pub past : Past s.book state
    pub known : (f : Firing) → f ∈ firings es → f ∈ state.applied
    pub once : Distinct (firings es)

  -- the abstract state stands where the theory does
  open_too : (s : Config A B) (a : State) → Shows T P s a → Stands T s → abst.Open T.domain a
  open_too s a sh st f = st (λ v av. f v ((sh.admitted v).0 av))

  same_meaning : (s : Config A B) (a : State) → Shows T P s a → SameMeaning (meaning T s) (meaning_of T.domain a)
  same_meaning s a sh = (sym sh.made, λ v. ((sh.admitted v).1, (sh.admitted v).0))

  same_store : (s : Config A B) (a : State) → Shows T P s a → living P s ≡ a.alive
  same_store s a sh = λ j i. sh.alive i j

  pub reached_opened : (book : Book) (s : Config A B) → Opened T P book s → ReachedAt [] s
  reached_opened book s o = record {
    state = abst.empty;
    reaches = abst.start;
    shows = record { pending = subst (λ (w : List Entry). Shuffle (pending_of w) []) (sym o.waiting) none; alive = λ i. ap (λ (t : Table). first (t i)) o.empty; admitted = λ v. (λ av. ((o.clear.1 v).0 av, tt), λ y. (o.clear.1 v).1 y.0); made = o.clear.0; next = o.next; history = λ k t. (λ m. absurd (mem_none (subst (λ (h : List Firing). firing k t ∈ h) o.history m)), λ y. absurd (mem_none y.0)) };
    past = record { below = λ k t m i c. absurd (mem_none m); dead = λ k t m i c. absurd (mem_none m) };
    known = λ f m. absurd (mem_none m);
    once = tt;
  }

  -- nothing was accepted or applied, and the sheet shows the next state of a machine that went on from the same calls
  reached_on : (es fs : List Event) (s t : Config A B) (a : State) → ReachedAt es s → t.book ≡ s.book → accepted (es ++ fs) ≡ accepted es → firings (es ++ fs) ≡ firings es → Reaches T.domain s.book (accepted es) a → Shows T P t a → Past s.book a → ((f : Firing) → f ∈ firings es → f ∈ a.applied) → ReachedAt (es ++ fs) t
  reached_on es fs s t a x book calls fires reaches shows past known = record {
    state = a;
    reaches = subst (λ (z : Book × List Accepted). Reaches T.domain z.0 z.1 a) (λ i. (sym book i, sym calls i)) reaches;
    shows = shows;
    past = subst (λ (b : Book). Past b a) (sym book) past;
    known = λ f m. known f (subst (λ z. f ∈ z) fires m);
    once = subst Distinct (sym fires) x.once;
  }

  -- the sheet shows the same state as before
  reached_still : (es fs : List Event) (s t : Config A B) → ReachedAt es s → t.book ≡ s.book → accepted (es ++ fs) ≡ accepted es → firings (es ++ fs) ≡ firings es → ((a : State) → Shows T P s a → Shows T P t a) → ReachedAt (es ++ fs) t
  reached_still es fs s t x book calls fires shows = reached_on es fs s t x.state x book calls fires x.reaches (shows x.state x.shows) x.past x.known

  -- only the waiting list changes, and the same goals wait
  shows_waits : (s t : Config A B) (w : List Entry) → Waits s t w → pending_of s.waiting ≡ pending_of w → (a : State) → Shows T P s a → Shows T P t a
  shows_waits s t w b e a sh = record {
    pending = subst (λ z. Shuffle z a.pending) (e ∙ ap pending_of (sym b.becomes.waiting)) sh.pending;
    alive = λ i. ap (λ z. first (P.records z i)) b.table ∙ sh.alive i;
    admitted = λ v. subst (λ (z : A). (T.means z).admits v ↔ (meaning_of T.domain a).admits v) (sym b.theory) (sh.admitted v);
    made = ap (λ z. (T.means z).made) b.theory ∙ sh.made;
    next = b.becomes.next ∙ sh.next;
    history = subst (λ (z : Book × List Firing). (k : ℕ) (tuple : List ℕ) → (firing k tuple ∈ z.1) ↔ ((firing k tuple ∈ a.applied) × (removes_nothing (rule_at z.0 k) ≡ true) × AllLive a.alive tuple)) (λ i. (sym b.becomes.book i, sym b.becomes.history i)) sh.history;
  }

  reached_told : (es fs : List Event) (s t : Config A B) (p : Primitive Operand) (rest : List Entry) (is : List ℕ) → Good T P s → accepted (es ++ fs) ≡ accepted es → firings (es ++ fs) ≡ firings es → Stands T s → s.waiting ≡ goal (tell p) ∷ rest → Told (meaning T s) p (meaning T t) → t.table ≡ s.table → Becomes s t (map wake is ++ rest) s.history s.next → ReachedAt es s → ReachedAt (es ++ fs) t
  reached_told es fs s t p rest is good calls fires st top told ta b x = reached_on es fs s t (abst.told_after a (taken.0 ++ taken.1) p) x b.book calls fires (abst.move x.reaches (abst.tells p taken.0 taken.1 (open_too s a x.shows st) taken.2)) shown (record { below = x.past.below; dead = x.past.dead }) x.known
    where
      a : State
      a = x.state

      taken : (before : List (Goal Operand)) × (later : List (Goal Operand)) × (x.state.pending ≡ before ++ (tell p ∷ later)) × Shuffle (pending_of rest) (before ++ later)
      taken = shuffle_take (subst (λ z. Shuffle (pending_of z) x.state.pending) top x.shows.pending)

      same : (v : Valuation T.domain) → (meaning T t).admits v ↔ ((meaning T s).admits v × TrueIn T.domain v p)
      same = told.1 (good.goals (tell p) (subst (λ z. goal (tell p) ∈ z) (sym top) here))

      shown : Shows T P t (abst.told_after x.state (taken.0 ++ taken.1) p)
      shown = record {
        pending = subst (λ z. Shuffle z (taken.0 ++ taken.1)) (sym (pending_woken is rest) ∙ ap pending_of (sym b.waiting)) taken.3;
        alive = λ i. ap (λ z. first (P.records z i)) ta ∙ x.shows.alive i;
        admitted = λ v. (λ av. let q = (same v).0 av in let y = (x.shows.admitted v).0 q.0 in (y.0, (q.1, y.1)), λ y. (same v).1 ((x.shows.admitted v).1 (y.0, y.1.1), y.1.0));
        made = told.0 ∙ x.shows.made;
        next = b.next ∙ x.shows.next;
        history = subst (λ (z : Book × List Firing). (k : ℕ) (tuple : List ℕ) → (firing k tuple ∈ z.1) ↔ ((firing k tuple ∈ a.applied) × (removes_nothing (rule_at z.0 k) ≡ true) × AllLive a.alive tuple)) (λ i. (sym b.book i, sym b.history i)) x.shows.history;
      }

  reached_added : (es fs : List Event) (s t : Config A B) (c : ℕ) (xs : List Operand) (rest : List Entry) → P.records s.table s.next ≡ [] → accepted (es ++ fs) ≡ accepted es → firings (es ++ fs) ≡ firings es → Stands T s → s.waiting ≡ goal (add c xs) ∷ rest → t.theory ≡ s.theory → P.records t.table ≡ with_record (P.records s.table) s.next (recorded c xs) → Becomes s t (active s.next 1 ∷ rest) s.history (suc s.next) → ReachedAt es s → ReachedAt (es ++ fs) t
  reached_added es fs s t c xs rest empty calls fires st top e f b x = reached_on es fs s t (abst.added_after a (taken.0 ++ taken.1) c xs) x b.book calls fires (abst.move x.reaches (abst.adds c xs taken.0 taken.1 (open_too s a x.shows st) taken.2)) shown (added_past s.book a (taken.0 ++ taken.1) c xs x.past) x.known
    where
      a : State
      a = x.state

      taken : (before : List (Goal Operand)) × (later : List (Goal Operand)) × (x.state.pending ≡ before ++ (add c xs ∷ later)) × Shuffle (pending_of rest) (before ++ later)
      taken = shuffle_take (subst (λ z. Shuffle (pending_of z) x.state.pending) top x.shows.pending)

      shown : Shows T P t (abst.added_after x.state (taken.0 ++ taken.1) c xs)
      shown = record {
        pending = subst (λ z. Shuffle (pending_of z) (taken.0 ++ taken.1)) (sym b.waiting) taken.3;
        alive = λ i. ap (λ z. z i) (living_with P s t s.next (recorded c xs) empty f) ∙ (λ j. adding (x.shows.next j) (recorded c xs) (same_store s a x.shows j) i);
        admitted = λ v. subst (λ (z : A). (T.means z).admits v ↔ (meaning_of T.domain a).admits v) (sym e) (x.shows.admitted v);
        made = ap (λ z. (T.means z).made) e ∙ x.shows.made;
        next = b.next ∙ ap suc x.shows.next;
        history = subst (λ (z : Book × List Firing). Remembers z.0 z.1 a.applied (adding a.next (recorded c xs) a.alive)) (λ i. (sym b.book i, sym b.history i)) (added_remembers s.book s.history a.applied a.alive a.next (recorded c xs) x.past.below x.shows.history);
      }

  reached_fired : (es : List Event) (s t : Config A B) (ps : List (Primitive Operand)) (rest : List Entry) (i j k h : ℕ) (tuple : List ℕ) → Lawful T.means T.capacity → Within T P es s → Turn T P s rest i j k h → FirstFit T P s k h i tuple → (meaning T s).made + (rule_of s k).fresh ≤ T.capacity → Made (meaning T s) (rule_of s k).fresh (meaning T t) → P.records t.table ≡ without (P.records s.table) (gone (rule_of s k) tuple) → Becomes s t (waiting_after T P s (rule_of s k) tuple rest i j h) (history_after s k (rule_of s k) tuple) s.next → ReachedAt es s → ReachedAt (es ++ (stepped (applied k tuple) ps ∷ [])) t
  reached_fired es s t ps rest i j k h tuple lawful within turn fit small made ta b x = record {
    state = abst.applied_after s.book a k tuple;
    reaches = subst (λ (z : Book × List Accepted). Reaches T.domain z.0 z.1 (abst.applied_after s.book a k tuple)) (λ q. (sym b.book q, sym (accepted_step es (applied k tuple) ps) q)) (abst.move x.reaches (abst.applies k tuple (open_too s a x.shows turn.stands) bounds.0 bounds.1 there unseen enough));
    shows = record {
      pending = subst (λ z. Shuffle z (body' ++ a.pending)) (sym waits) (shuffle_front body' (subst (λ z. Shuffle (pending_of z) a.pending) turn.top x.shows.pending));
      alive = λ y. ap (λ z. z y) (living_without P s t (gone r tuple) ta) ∙ (λ q. survivors (gone r tuple) (same_store s a x.shows q) y);
      admitted = λ v. (λ av. (x.shows.admitted v).0 ((made.1 v).0 av), λ av. (made.1 v).1 ((x.shows.admitted v).1 av));
      made = made.0 ∙ ap (λ (z : ℕ). z + r.fresh) x.shows.made;
      next = b.next ∙ x.shows.next;
      history = subst (λ (z : Book × List Firing). Remembers z.0 z.1 (firing k tuple ∷ a.applied) (survivors (gone r tuple) a.alive)) (λ q. (sym b.book q, sym b.history q)) (fired_remembers s.book s.history a.applied a.alive k tuple there.matches x.shows.history);
    };
    past = subst (λ (z : Book). Past z (abst.applied_after s.book a k tuple)) (sym b.book) (fired_past s.book a k tuple low there.matches x.past);
    known = λ f m. seen f (mem_append (firings es) (subst (λ z. f ∈ z) fires m));
    once = subst Distinct (sym fires) (distinct_push (firings es) (firing k tuple) x.once (λ m. unseen (x.known (firing k tuple) m)));
  }
    where
      a : State
      a = x.state

      r : Rule
      r = rule_at s.book k

      body' : List (Goal Operand)
      body' = body_for s.book.arities x.state.alive (rule_at s.book k) tuple x.state.made

      bounds : (1 ≤ k) × (k ≤ length s.book.rules) × (h < length (heads (rule_at s.book k)))
      bounds = turn_bounds T P s rest i j k h turn

      moved : (store : Store) → living P s ≡ store → Applies (meaning_of T.domain x.state) s.book.arities store (rule_at s.book k) tuple
      moved store e = subst (λ (z : Store). Applies (meaning_of T.domain x.state) s.book.arities z (rule_at s.book k) tuple) e (record { matches = fit.fits.applies.matches; distinct = fit.fits.applies.distinct; guarded = all_from _ (rule_at s.book k).guards (λ g m. follows_same (meaning T s) (meaning_of T.domain x.state) (same_meaning s x.state x.shows) _ (all_mem _ fit.fits.applies.guarded m)) })

      there : Applies (meaning_of T.domain x.state) s.book.arities x.state.alive (rule_at s.book k) tuple
      there = moved x.state.alive (same_store s x.state x.shows)

      unseen : firing k tuple ∈ x.state.applied → ⊥
      unseen = never_again s.book s.history x.state k tuple x.past x.shows.history there.matches fit.fits.new

      enough : x.state.made + (rule_at s.book k).fresh ≤ 256
      enough = omega (arith, small, lawful.small, x.shows.made)

      low : (y : ℕ) (w : Record) → x.state.alive y ≡ Some w → y < x.state.next
      low y w e = omega (arith, (within.below y (within.lives y w (x.shows.alive y ∙ e))).1, x.shows.next)

      fires : firings (es ++ (stepped (applied k tuple) ps ∷ [])) ≡ firings es ++ (firing k tuple ∷ [])
      fires = firings_more es (stepped (applied k tuple) ps ∷ [])

      seen : (f : Firing) → (f ∈ firings es) ⊎ (f ∈ (firing k tuple ∷ [])) → f ∈ (firing k tuple ∷ x.state.applied)
      seen f (inl m) = Rattle.machine.specs.Lists.there (x.known f m)
      seen f (inr m) = elim (mem_cases m) [ inl q ↦ here_at x.state.applied q | inr z ↦ absurd (mem_none z) ]

      waits : pending_of t.waiting ≡ body_for s.book.arities x.state.alive (rule_at s.book k) tuple x.state.made ++ pending_of rest
      waits = ap pending_of b.waiting ∙ pending_goals (body_for s.book.arities (living P s) (rule_at s.book k) tuple (meaning T s).made) (cond (ltb h (length (rule_at s.book k).kept)) (active i j ∷ rest) rest) ∙ (λ q. body_for s.book.arities (same_store s x.state x.shows q) (rule_at s.book k) tuple (x.shows.made q) ++ pending_kept (ltb h (length (rule_at s.book k).kept)) i j rest q)

  -- the step told nothing, added nothing and applied nothing
  quiet_fires : (es : List Event) (a : StepAnswer) (ps : List (Primitive Operand)) → fired a ≡ [] → firings (es ++ (stepped a ps ∷ [])) ≡ firings es
  quiet_fires es a ps e = firings_more es (stepped a ps ∷ []) ∙ ap (λ z. firings es ++ (z ++ [])) e ∙ append-nil (firings es)

  reached_stays : (es : List Event) (s : Config A B) (a : StepAnswer) (ps : List (Primitive Operand)) → fired a ≡ [] → ReachedAt es s → ReachedAt (es ++ (stepped a ps ∷ [])) s
  reached_stays es s a ps e x = reached_still es (stepped a ps ∷ []) s s x refl (accepted_step es a ps) (quiet_fires es a ps e) (λ z sh. sh)

  reached_waits : (es : List Event) (s t : Config A B) (a : StepAnswer) (ps : List (Primitive Operand)) (w : List Entry) → fired a ≡ [] → Waits s t w → pending_of s.waiting ≡ pending_of w → ReachedAt es s → ReachedAt (es ++ (stepped a ps ∷ [])) t
  reached_waits es s t a ps w e b q x = reached_still es (stepped a ps ∷ []) s t x b.becomes.book (accepted_step es a ps) (quiet_fires es a ps e) (shows_waits s t w b q)

  pub reached_step : (es : List Event) (s t : Config A B) (a : StepAnswer) (ps : List (Primitive Operand)) → Lawful T.means T.capacity → Within T P es s → Good T P s → StepSays T P s a t → ReachedAt es s → ReachedAt (es ++ (stepped a ps ∷ [])) t
  reached_step es s t a ps lawful within good (ref.fails f) x = reached_stays es s _ ps refl x
  reached_step es s t a ps lawful within good (ref.ends st e) x = reached_stays es s _ ps refl x
  reached_step es s t a ps lawful within good (ref.tells p rest is st top w l tl ta b) x = reached_told es _ s t p rest is good (accepted_step es _ ps) (quiet_fires es _ ps refl) st top tl ta b x
  reached_step es s t a ps lawful within good (ref.crowded p rest is st top w l) x = reached_stays es s _ ps refl x
  reached_step es s t a ps lawful within good (ref.activates c xs rest st top l r e f b) x = reached_added es _ s t c xs rest (free T P es s within) (accepted_step es _ ps) (quiet_fires es _ ps refl) st top e f b x
  reached_step es s t a ps lawful within good (ref.spent c xs rest st top l) x = reached_stays es s _ ps refl x
  reached_step es s t a ps lawful within good (ref.packed c xs rest st top l r) x = reached_stays es s _ ps refl x
  reached_step es s t a ps lawful within good (ref.rises i rest r st top f b) x = reached_waits es s t _ ps (active i 1 ∷ rest) refl b (ap pending_of top) x
  reached_step es s t a ps lawful within good (ref.late i rest st top f b) x = reached_waits es s t _ ps rest refl b (ap pending_of top) x
  reached_step es s t a ps lawful within good (ref.dead i j rest st top f b) x = reached_waits es s t _ ps rest refl b (ap pending_of top) x
  reached_step es s t a ps lawful within good (ref.over i j rest r st top f l b) x = reached_waits es s t _ ps rest refl b (ap pending_of top) x
  reached_step es s t a ps lawful within good (ref.passes rest i j k h turn nf b) x = reached_waits es s t _ ps (active i (suc j) ∷ rest) refl b (ap pending_of turn.top) x
  reached_step es s t a ps lawful within good (ref.fires rest i j k h tuple turn fit nh small room made ta b) x = reached_fired es s t ps rest i j k h tuple lawful within turn fit small made ta b x
  reached_step es s t a ps lawful within good (ref.full_history rest i j k h tuple turn fit nh) x = reached_stays es s _ ps refl x
  reached_step es s t a ps lawful within good (ref.full_variables rest i j k h tuple turn fit nh l) x = reached_stays es s _ ps refl x
  reached_step es s t a ps lawful within good (ref.full_waiting rest i j k h tuple turn fit nh l m) x = reached_stays es s _ ps refl x

  no_firing : (es : List Event) (c : Accepted) → firings (es ++ (took c ∷ [])) ≡ firings es
  no_firing es c = firings_more es (took c ∷ []) ∙ append-nil (firings es)

  pub reached_variable : (es : List Event) (s t : Config A B) (n : ℕ) → Lawful T.means T.capacity → VariableSays T s (Ok n) t → ReachedAt es s → ReachedAt (es ++ (took (made_variable n) ∷ [])) t
  reached_variable es s t n lawful (ref.makes l m ta bo wa hi po ne) x = record {
    state = abst.one_more a;
    reaches = subst (λ (z : Book × List Accepted). Reaches T.domain z.0 z.1 (abst.one_more a)) (λ i. (sym bo i, calls i)) (abst.variable (omega (arith, l, lawful.small, x.shows.made)) x.reaches);
    shows = record {
      pending = subst (λ z. Shuffle (pending_of z) a.pending) (sym wa) x.shows.pending;
      alive = λ i. ap (λ z. first (P.records z i)) ta ∙ x.shows.alive i;
      admitted = λ v. (λ av. (x.shows.admitted v).0 ((m.1 v).0 av), λ av. (m.1 v).1 ((x.shows.admitted v).1 av));
      made = m.0 ∙ add-one (meaning T s).made ∙ ap suc x.shows.made;
      next = ne ∙ x.shows.next;
      history = subst (λ (z : Book × List Firing). Remembers z.0 z.1 a.applied a.alive) (λ i. (sym bo i, sym hi i)) x.shows.history;
    };
    past = subst (λ (z : Book). Past z (abst.one_more a)) (sym bo) (record { below = x.past.below; dead = x.past.dead });
    known = λ f k. x.known f (subst (λ z. f ∈ z) (no_firing es _) k);
    once = subst Distinct (sym (no_firing es _)) x.once;
  }
    where
      a : State
      a = x.state

      calls : accepted es ++ (made_variable x.state.made ∷ []) ≡ accepted (es ++ (took (made_variable (meaning T s).made) ∷ []))
      calls = ap (λ (z : ℕ). accepted es ++ (made_variable z ∷ [])) (sym x.shows.made) ∙ sym (accepted_more es (took (made_variable (meaning T s).made) ∷ []))

  pub reached_post : (es : List Event) (s t : Config A B) (kind symbol : ℕ) (xs : List Operand) (g : Goal Operand) → Within T P es s → PostSays T s kind symbol xs (Ok tt) t → goal_of kind symbol xs ≡ Some g → ReachedAt es s → ReachedAt (es ++ (took (posted_goal g) ∷ [])) t
  reached_post es s t kind symbol xs g within (ref.posts h c ps l e b) e' x = record {
    state = abst.posted_after a g;
    reaches = subst (λ (z : Book × List Accepted). Reaches T.domain z.0 z.1 (abst.posted_after a g)) (λ i. (sym b.becomes.book i, sym (accepted_more es (took (posted_goal g) ∷ [])) i)) (abst.post g (open_too s a x.shows c.stands) fine x.reaches);
    shows = record {
      pending = subst (λ z. Shuffle z (a.pending ++ (g ∷ []))) (sym pend) (shuffle_last g x.shows.pending);
      alive = λ i. ap (λ z. first (P.records z i)) b.table ∙ x.shows.alive i;
      admitted = λ v. subst (λ (z : A). (T.means z).admits v ↔ (meaning_of T.domain a).admits v) (sym b.theory) (x.shows.admitted v);
      made = ap (λ z. (T.means z).made) b.theory ∙ x.shows.made;
      next = b.becomes.next ∙ x.shows.next;
      history = subst (λ (z : Book × List Firing). Remembers z.0 z.1 a.applied a.alive) (λ i. (sym b.becomes.book i, sym b.becomes.history i)) x.shows.history;
    };
    past = subst (λ (z : Book). Past z (abst.posted_after a g)) (sym b.becomes.book) (record { below = x.past.below; dead = x.past.dead });
    known = λ f k. x.known f (subst (λ z. f ∈ z) (no_firing es _) k);
    once = subst Distinct (sym (no_firing es _)) x.once;
  }
    where
      a : State
      a = x.state

      nameable : (o : Operand) → Postable s.posted o → Nameable (accepted es) o
      nameable (Value n) k = k
      nameable (Variable y) k = variable_called y (accepted es) (subst (λ l. y ∈ l) within.variables k)

      fine : GoodPosting s.book (accepted es) g
      fine = parts_posting s.book (accepted es) g (posting_parts (Nameable (accepted es)) IsValue (λ n k. k) s.book kind symbol xs g c.declared c.counted (all_from (Nameable (accepted es)) xs (λ o k. nameable o (all_mem (Postable s.posted) ps k))) e')

      pend : pending_of t.waiting ≡ pending_of s.waiting ++ (g ∷ [])
      pend = ap pending_of b.becomes.waiting ∙ pending_append s.waiting (goal h ∷ []) ∙ ap (λ z. pending_of s.waiting ++ (z ∷ [])) (same_Some _ _ (sym e ∙ e'))
