-- What lives and what waits on a sheet is in order: every variable is made, and every constraint has as many arguments as its symbol takes. Assumes nothing.
use Rattle.std.proofs.Common.{◌≡◌, ℕ, suc, ◌+◌, ◌-◌, ◌<◌, ◌≤◌, Bool, true, false, cond, ltb, ◌⊎◌, List, [], ◌∷◌, ◌++◌, map, length, get_or, Some, None, Ok, Option, sym, refl, ap, ◌∙◌, subst, inl, inr, arith}
use lib.ListN.{length-map}
use Rattle.std.proofs.lemmas.Bool.{ltb-false}
use Rattle.std.proofs.lemmas.Option.{none-some}
use Rattle.terms.specs.declared.Operand.{Operand}
use Rattle.terms.specs.declared.Operand.TheVariants.{Value, Variable}
use Rattle.terms.specs.declared.Term.{Term}
use Rattle.terms.specs.declared.Term.TheVariants as term
use Rattle.terms.specs.declared.Primitive.{Primitive}
use Rattle.terms.specs.declared.Primitive.TheVariants.{Same, Least, Most}
use Rattle.terms.specs.Lists.{All}
use Rattle.terms.specs.Values.{IsValue}
use Rattle.terms.specs.Primitives.{TermValid}
use Rattle.rules.specs.Books.{Goal, tell, add, Rule, Book, heads, slot_count}
use Rattle.rules.specs.Valids.{GoalValid, RuleValid, Valid}
use Rattle.theory.specs.declared.interface.Theory as Theory
use Rattle.theory.specs.Meanings.{Known, KnownAll}
use Rattle.table.specs.declared.partner.PartnerTable as PartnerTable
use Rattle.table.specs.Lists.{first}
use Rattle.table.specs.Records.{Record, recorded}
use Rattle.table.specs.Tables.{Table}
use Rattle.machine.specs.Lists.{◌∈◌, here, there}
use Rattle.machine.specs.Matching.{Store, no_rule, rule_at, fill, fill_goal, arguments_of, head_slot, body_slot, body_for, gone}
use Rattle.machine.specs.Sheets.{Entry, goal, wake, active, Config, StepAnswer}
use Rattle.machine.specs.Refined as ref
use Rattle.machine.specs.Refined.{meaning, living, Waits, Turn, Postable, Opened, StepSays, VariableSays, PostSays}
use Rattle.machine.proofs.Members.{mem_cases, mem_none, mem_append, mem_map_back, all_from, all_mem, get_or_mem}
use Rattle.machine.proofs.Places.{occurs_bounds}
use Rattle.machine.proofs.Stores.{survivor, added_cases, living_with, living_without, slot_all}
use Rattle.machine.proofs.Guards.{zero_is_value}
use Rattle.machine.proofs.Cover.{goal_wake, goal_active}
use Rattle.machine.proofs.Postings.{PostingParts, posting_parts}

-- as many arguments as the symbol takes, all of them known
abbrev pub GoodArguments : Book → ℕ → ℕ → List Operand → Type 0
GoodArguments book made c xs = (length xs ≡ get_or book.arities c 0) × All (Known made) xs

abbrev pub GoodRecord : Book → ℕ → Record → Type 0
GoodRecord book made r = GoodArguments book made r.symbol r.arguments

abbrev pub GoodGoal : Book → ℕ → Goal Operand → Type 0
GoodGoal book made (tell p) = KnownAll made p
GoodGoal book made (add c xs) = GoodArguments book made c xs

module _ {A B : Type 0} (T : Theory.Ghosts A) (P : PartnerTable.Ghosts B) where
  pub record Good (s : Config A B) : Type 0 where
    pub valid : Valid s.book
    pub records : (i : ℕ) (r : Record) → living P s i ≡ Some r → GoodRecord s.book (meaning T s).made r
    pub goals : (g : Goal Operand) → goal g ∈ s.waiting → GoodGoal s.book (meaning T s).made g

pub known_more : (m n : ℕ) → m ≤ n → (x : Operand) → Known m x → Known n x
known_more m n l (Value v) k = k
known_more m n l (Variable x) k = omega arith

all_known_more : (m n : ℕ) → m ≤ n → (xs : List Operand) → All (Known m) xs → All (Known n) xs
all_known_more m n l [] a = tt
all_known_more m n l (x ∷ xs) a = (known_more m n l x a.0, all_known_more m n l xs a.1)

primitive_more : (m n : ℕ) → m ≤ n → (p : Primitive Operand) → KnownAll m p → KnownAll n p
primitive_more m n l (Same a b) k = (known_more m n l a k.0, known_more m n l b k.1)
primitive_more m n l (Least a v) k = (known_more m n l a k.0, k.1)
primitive_more m n l (Most a v) k = (known_more m n l a k.0, k.1)

-- what is in order stays so while more variables are made
good_record_more : (book : Book) (m n : ℕ) → m ≤ n → (r : Record) → GoodRecord book m r → GoodRecord book n r
good_record_more book m n l r k = (k.0, all_known_more m n l r.arguments k.1)

good_goal_more : (book : Book) (m n : ℕ) → m ≤ n → (g : Goal Operand) → GoodGoal book m g → GoodGoal book n g
good_goal_more book m n l (tell p) k = primitive_more m n l p k
good_goal_more book m n l (add c xs) k = (k.0, all_known_more m n l xs k.1)

-- a rule of a valid book is valid
pub rule_valid : (book : Book) → Valid book → (k : ℕ) → 1 ≤ k → k ≤ length book.rules → RuleValid book.arities (rule_at book k)
rule_valid book valid k a b = all_mem (RuleValid book.arities) valid.rules (get_or_mem book.rules (k - 1) no_rule (omega arith))

module _ (book : Book) (made n : ℕ) (at : ℕ → Operand) (known : (k : ℕ) → k < n → Known made (at k)) where
  good_term : (t : Term) → TermValid n t → Known made (fill at t)
  good_term (term.Value v) k = k
  good_term (term.Slot i) k = known i k

  good_terms : (ts : List Term) → All (TermValid n) ts → All (Known made) (map (fill at) ts)
  good_terms [] k = tt
  good_terms (t ∷ ts) k = (good_term t k.0, good_terms ts k.1)

  -- a valid body item, filled with what is known, is in order
  good_item : (g : Goal Term) → GoalValid book.arities n g → GoodGoal book made (fill_goal at g)
  good_item (tell (Same s t)) k = (good_term s k.0, good_term t k.1)
  good_item (tell (Least s v)) k = (good_term s k.0, k.1)
  good_item (tell (Most s v)) k = (good_term s k.0, k.1)
  good_item (add c ts) k = (length-map ts (fill at) ∙ k.1, good_terms ts k.2)

-- what a living constraint's arguments all are
arguments_all : (Q : Operand → Type 0) (o : Option Record) → ((r : Record) → o ≡ Some r → All Q r.arguments) → All Q (arguments_of o)
arguments_all Q None f = tt
arguments_all Q (Some r) f = f r refl

-- what stands in the slots of living constraints is known
pub known_slots : (book : Book) (made : ℕ) (store : Store) → ((i : ℕ) (r : Record) → store i ≡ Some r → GoodRecord book made r) → (hs is : List ℕ) (k : ℕ) → Known made (head_slot book.arities store hs is k)
known_slots book made store good hs is = slot_all (Known made) zero_is_value book.arities store hs is (λ i c. arguments_all (Known made) (store i) (λ r e. (good i r e).1))

known_body : (book : Book) (made : ℕ) (store : Store) → ((i : ℕ) (r : Record) → store i ≡ Some r → GoodRecord book made r) → (r : Rule) (tuple : List ℕ) (k : ℕ) → k < slot_count book.arities (heads r) + r.fresh → Known (made + r.fresh) (body_slot book.arities store r tuple made k)
known_body book made store good r tuple k l = go (ltb k (slot_count book.arities (heads r))) refl
  where
    go : (b : Bool) → ltb k (slot_count book.arities (heads r)) ≡ b → Known (made + r.fresh) (cond b (head_slot book.arities store (heads r) tuple k) (Variable (made + (k - slot_count book.arities (heads r)))))
    go true q = known_more made (made + r.fresh) (omega arith) (head_slot book.arities store (heads r) tuple k) (known_slots book made store good (heads r) tuple k)
    go false q = omega (arith, l, ltb-false k (slot_count book.arities (heads r)) q)

pub good_body : (book : Book) (made : ℕ) (store : Store) → ((i : ℕ) (r : Record) → store i ≡ Some r → GoodRecord book made r) → (r : Rule) → RuleValid book.arities r → (tuple : List ℕ) (g : Goal Operand) → g ∈ body_for book.arities store r tuple made → GoodGoal book (made + r.fresh) g
good_body book made store good r valid tuple g m = let b = mem_map_back (fill_goal (body_slot book.arities store r tuple made)) r.body m in subst (GoodGoal book (made + r.fresh)) (sym b.2) (good_item book (made + r.fresh) (slot_count book.arities (heads r) + r.fresh) (body_slot book.arities store r tuple made) (known_body book made store good r tuple) b.0 (all_mem (GoalValid book.arities (slot_count book.arities (heads r) + r.fresh)) valid.body b.1))

goal_inj : {g h : Goal Operand} → goal g ≡ goal h → g ≡ h
goal_inj e = cc

-- the goals among woken constraints and the rest are those of the rest
goal_past_woken : (is : List ℕ) (rest : List Entry) (g : Goal Operand) → goal g ∈ (map wake is ++ rest) → goal g ∈ rest
goal_past_woken is rest g m = go (mem_append (map wake is) m)
  where
    go : (goal g ∈ map wake is) ⊎ (goal g ∈ rest) → goal g ∈ rest
    go (inl k) = absurd (goal_wake (sym (mem_map_back wake is k).2))
    go (inr k) = k

goal_past_active : (i j : ℕ) (rest : List Entry) (g : Goal Operand) → goal g ∈ (active i j ∷ rest) → goal g ∈ rest
goal_past_active i j rest g m = go (mem_cases m)
  where
    go : (goal g ≡ active i j) ⊎ (goal g ∈ rest) → goal g ∈ rest
    go (inl k) = absurd (goal_active (sym k))
    go (inr k) = k

module _ {A B : Type 0} (T : Theory.Ghosts A) (P : PartnerTable.Ghosts B) where
  -- the turn's rule is one of the book, and its head one of the rule's
  pub turn_bounds : (s : Config A B) (rest : List Entry) (i j k h : ℕ) → Turn T P s rest i j k h → (1 ≤ k) × (k ≤ length s.book.rules) × (h < length (heads (rule_at s.book k)))
  turn_bounds s rest i j k h turn = occurs_bounds s.book turn.record_of.symbol j k h turn.occurs.0 turn.occurs.1 turn.occurs.2

  pub good_opened : (book : Book) (s : Config A B) → Valid book → Opened T P book s → Good T P s
  good_opened book s valid o = record {
    valid = subst Valid (sym o.opened) valid;
    records = λ i r e. absurd (none-some _ (sym (ap (λ (t : Table). first (t i)) o.empty) ∙ e));
    goals = λ g m. absurd (mem_none (subst (λ (z : List Entry). goal g ∈ z) o.waiting m));
  }

  -- the book stays, what lives lived before, and the goals that wait did so before or are in order
  good_kept : (s t : Config A B) → Good T P s → t.book ≡ s.book → (meaning T s).made ≤ (meaning T t).made → ((i : ℕ) (r : Record) → living P t i ≡ Some r → (living P s i ≡ Some r) ⊎ GoodRecord s.book (meaning T s).made r) → ((g : Goal Operand) → goal g ∈ t.waiting → (goal g ∈ s.waiting) ⊎ GoodGoal s.book (meaning T t).made g) → Good T P t
  good_kept s t x book made lived waited = record {
    valid = subst Valid (sym book) x.valid;
    records = λ i r e. subst (λ (b : Book). GoodRecord b (meaning T t).made r) (sym book) (record_good i r (lived i r e));
    goals = λ g m. subst (λ (b : Book). GoodGoal b (meaning T t).made g) (sym book) (goal_good g (waited g m));
  }
    where
      record_good : (i : ℕ) (r : Record) → (living P s i ≡ Some r) ⊎ GoodRecord s.book (meaning T s).made r → GoodRecord s.book (meaning T t).made r
      record_good i r (inl e) = good_record_more s.book (meaning T s).made (meaning T t).made made r (x.records i r e)
      record_good i r (inr k) = good_record_more s.book (meaning T s).made (meaning T t).made made r k

      goal_good : (g : Goal Operand) → (goal g ∈ s.waiting) ⊎ GoodGoal s.book (meaning T t).made g → GoodGoal s.book (meaning T t).made g
      goal_good g (inl m) = good_goal_more s.book (meaning T s).made (meaning T t).made made g (x.goals g m)
      goal_good g (inr k) = k

  -- only the waiting list changes, and no goal is new
  good_waits : (s t : Config A B) (w : List Entry) → Good T P s → Waits s t w → ((g : Goal Operand) → goal g ∈ w → goal g ∈ s.waiting) → Good T P t
  good_waits s t w x b f = good_kept s t x b.becomes.book (omega (arith, ap (λ z. (T.means z).made) b.theory)) (λ i r e. inl (ap (λ z. first (P.records z i)) (sym b.table) ∙ e)) (λ g m. inl (f g (subst (λ z. goal g ∈ z) b.becomes.waiting m)))

  below_top : (s : Config A B) (e : Entry) (rest : List Entry) → s.waiting ≡ e ∷ rest → (g : Goal Operand) → goal g ∈ rest → goal g ∈ s.waiting
  below_top s e rest top g m = subst (λ z. goal g ∈ z) (sym top) (there m)

  pub good_step : (s t : Config A B) (a : StepAnswer) → P.records s.table s.next ≡ [] → Good T P s → StepSays T P s a t → Good T P t
  good_step s t a free x (ref.fails f) = x
  good_step s t a free x (ref.ends st e) = x
  good_step s t a free x (ref.tells p rest is st top w l tl ta b) = good_kept s t x b.book (omega (arith, tl.0)) (λ i r e. inl (ap (λ z. first (P.records z i)) (sym ta) ∙ e)) (λ g m. inl (below_top s (goal (tell p)) rest top g (goal_past_woken is rest g (subst (λ z. goal g ∈ z) b.waiting m))))
  good_step s t a free x (ref.crowded p rest is st top w l) = x
  good_step s t a free x (ref.activates c xs rest st top l r e f b) = good_kept s t x b.book (omega (arith, ap (λ z. (T.means z).made) e)) (λ i y q. old i y (added_cases s.next (recorded c xs) (living P s) i y (sym (ap (λ z. z i) (living_with P s t s.next (recorded c xs) free f)) ∙ q))) (λ g m. inl (below_top s (goal (add c xs)) rest top g (goal_past_active s.next 1 rest g (subst (λ z. goal g ∈ z) b.waiting m))))
    where
      old : (i : ℕ) (y : Record) → ((s.next ≡ i) × (recorded c xs ≡ y)) ⊎ (living P s i ≡ Some y) → (living P s i ≡ Some y) ⊎ GoodRecord s.book (meaning T s).made y
      old i y (inl q) = inr (subst (GoodRecord s.book (meaning T s).made) q.1 (x.goals (add c xs) (subst (λ z. goal (add c xs) ∈ z) (sym top) here)))
      old i y (inr q) = inl q
  good_step s t a free x (ref.spent c xs rest st top l) = x
  good_step s t a free x (ref.packed c xs rest st top l r) = x
  good_step s t a free x (ref.rises i rest r st top f b) = good_waits s t (active i 1 ∷ rest) x b (λ g m. below_top s (wake i) rest top g (goal_past_active i 1 rest g m))
  good_step s t a free x (ref.late i rest st top f b) = good_waits s t rest x b (below_top s (wake i) rest top)
  good_step s t a free x (ref.dead i j rest st top f b) = good_waits s t rest x b (below_top s (active i j) rest top)
  good_step s t a free x (ref.over i j rest r st top f l b) = good_waits s t rest x b (below_top s (active i j) rest top)
  good_step s t a free x (ref.passes rest i j k h turn nf b) = good_waits s t (active i (suc j) ∷ rest) x b (λ g m. below_top s (active i j) rest turn.top g (goal_past_active i (suc j) rest g m))
  good_step s t a free x (ref.fires rest i j k h tuple turn first nh small fit made ta b) = good_kept s t x b.book (omega (arith, made.0)) (λ y r e. inl (survivor (gone (rule_at s.book k) tuple) (living P s) y r (sym (ap (λ z. z y) (living_without P s t (gone (rule_at s.book k) tuple) ta)) ∙ e)).1) (λ g m. new g (mem_append (map goal body) (subst (λ z. goal g ∈ z) b.waiting m)))
    where
      body : List (Goal Operand)
      body = body_for s.book.arities (living P s) (rule_at s.book k) tuple (meaning T s).made

      bounds : (1 ≤ k) × (k ≤ length s.book.rules) × (h < length (heads (rule_at s.book k)))
      bounds = turn_bounds s rest i j k h turn

      below : (c : Bool) (g : Goal Operand) → goal g ∈ cond c (active i j ∷ rest) rest → goal g ∈ rest
      below true g m = goal_past_active i j rest g m
      below false g m = m

      new : (g : Goal Operand) → (goal g ∈ map goal (body_for s.book.arities (living P s) (rule_at s.book k) tuple (meaning T s).made)) ⊎ (goal g ∈ cond (ltb h (length (rule_at s.book k).kept)) (active i j ∷ rest) rest) → (goal g ∈ s.waiting) ⊎ GoodGoal s.book (meaning T t).made g
      new g (inl m) = let q = mem_map_back goal (body_for s.book.arities (living P s) (rule_at s.book k) tuple (meaning T s).made) m in inr (subst (λ (n : ℕ). GoodGoal s.book n g) (sym made.0) (subst (GoodGoal s.book ((meaning T s).made + (rule_at s.book k).fresh)) (sym (goal_inj q.2)) (good_body s.book (meaning T s).made (living P s) x.records (rule_at s.book k) (rule_valid s.book x.valid k bounds.0 bounds.1) tuple q.0 q.1)))
      new g (inr m) = inl (below_top s (active i j) rest turn.top g (below (ltb h (length (rule_at s.book k).kept)) g m))
  good_step s t a free x (ref.full_history rest i j k h tuple turn first nh) = x
  good_step s t a free x (ref.full_variables rest i j k h tuple turn first nh l) = x
  good_step s t a free x (ref.full_waiting rest i j k h tuple turn first nh l m) = x

  pub good_variable : (s t : Config A B) (x : ℕ) → Good T P s → VariableSays T s (Ok x) t → Good T P t
  good_variable s t x y (ref.makes l m ta bo wa hi po ne) = good_kept s t y bo (omega (arith, m.0)) (λ i r e. inl (ap (λ z. first (P.records z i)) (sym ta) ∙ e)) (λ g k. inl (subst (λ z. goal g ∈ z) wa k))

  postable_known : (s : Config A B) → ((y : ℕ) → y ∈ s.posted → y < (meaning T s).made) → (o : Operand) → Postable s.posted o → Known (meaning T s).made o
  postable_known s posts (Value n) k = k
  postable_known s posts (Variable x) k = posts x k

  parts_good : (s : Config A B) (g : Goal Operand) → PostingParts (Known (meaning T s).made) IsValue s.book g → GoodGoal s.book (meaning T s).made g
  parts_good s (tell p) k = k
  parts_good s (add c xs) k = (k.1, k.2)

  pub good_post : (s t : Config A B) (kind symbol : ℕ) (xs : List Operand) → ((y : ℕ) → y ∈ s.posted → y < (meaning T s).made) → Good T P s → PostSays T s kind symbol xs (Ok tt) t → Good T P t
  good_post s t kind symbol xs posts x (ref.posts g c ps l e b) = good_kept s t x b.becomes.book (omega (arith, ap (λ z. (T.means z).made) b.theory)) (λ i r q. inl (ap (λ z. first (P.records z i)) (sym b.table) ∙ q)) (λ h m. new h (mem_append s.waiting (subst (λ z. goal h ∈ z) b.becomes.waiting m)))
    where
      fine : GoodGoal s.book (meaning T s).made g
      fine = parts_good s g (posting_parts (Known (meaning T s).made) IsValue (λ n k. k) s.book kind symbol xs g c.declared c.counted (all_from (Known (meaning T s).made) xs (λ o k. postable_known s posts o (all_mem (Postable s.posted) ps k))) e)

      new : (h : Goal Operand) → (goal h ∈ s.waiting) ⊎ (goal h ∈ (goal g ∷ [])) → (goal h ∈ s.waiting) ⊎ GoodGoal s.book (meaning T t).made h
      new h (inl m) = inl m
      new h (inr m) = elim (mem_cases m) [ inl q ↦ inr (subst (λ (n : ℕ). GoodGoal s.book n h) (ap (λ z. (T.means z).made) (sym b.theory)) (subst (GoodGoal s.book (meaning T s).made) (sym (goal_inj q)) fine)) | inr z ↦ absurd (mem_none z) ]
