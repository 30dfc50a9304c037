-- A rule's heads, guards and body under a reading, and those of a tuple that it applies to in a valuation. Assumes nothing.
use Rattle.std.proofs.Common.{◌≡◌, ℕ, zero, suc, ◌+◌, ◌-◌, ◌<◌, ◌≤◌, true, cond, ltb, ◌⊎◌, ◌↔◌, List, [], ◌∷◌, ◌++◌, map, length, get_or, pos, Some, sym, refl, ap, ◌∙◌, subst, ap₂, inl, inr, not-suc-le-zero, arith}
use lib.ListN.{length-map, get_or-map}
use Rattle.std.proofs.lemmas.List.{map-append, take_at, drop_at, get_or_default, get_or_append_left, get_or-append_right}
use Rattle.std.proofs.lemmas.Bool.{cases_lt, cond-true, cond-false, cond_both, lt-ltb, le-ltb}
use Rattle.std.proofs.lemmas.Option.{same_Some}
use Rattle.terms.specs.declared.Operand.{Operand}
use Rattle.terms.specs.declared.Operand.TheVariants.{Value, Variable}
use Rattle.terms.specs.declared.Term.{Term}
use Rattle.terms.specs.declared.Term.TheVariants as term
use Rattle.terms.specs.declared.Primitive.{Primitive}
use Rattle.terms.specs.declared.Primitive.TheVariants.{Same, Least, Most}
use Rattle.terms.specs.Lists.{All}
use Rattle.terms.specs.Primitives.{map_primitive, EachPart, TermValid, PrimitiveValid}
use Rattle.terms.specs.Domains.{Domain, Valuation, Sensible, worth, TrueIn}
use Rattle.rules.specs.Books.{Goal, tell, add, Rule, Book, heads, slot_count}
use Rattle.rules.specs.Valids.{GoalValid, RuleValid}
use Rattle.theory.specs.Meanings.{Meaning, Known, Follows}
use Rattle.table.specs.Records.{Record}
use Rattle.machine.specs.Lists.{◌∈◌, Distinct}
use Rattle.machine.specs.Matching.{Store, arguments_of, fill, fill_primitive, fill_goal, head_slot, body_slot, body_for, Matches, Applies, gone}
use Rattle.machine.specs.Readings.{Reading, at_slots, GuardHolds, GoalHolds, RecordHolds, ItemHolds, HeadsHold, ObeysRule}
use Rattle.machine.proofs.Members.{all_map, all_mem, all_from, all_get_d}
use Rattle.machine.proofs.Stores.{named}
use Rattle.machine.specs.Refined.{operand_count, goal_of}
use Rattle.machine.proofs.Good.{GoodRecord, GoodGoal}
use Rattle.machine.proofs.Postings.{PostingParts, posting_parts}
use Rattle.machine.proofs.Slots.{slots, slots_append, slots_all, slots_counted, head_slot_is, Parts, parts_of, distinct_parts}

-- P holds of every operand of the goal
abbrev pub EachOperand : (Operand → Type 0) → Goal Operand → Type 0
EachOperand P (tell p) = EachPart P (λ n. Unit {0}) p
EachOperand P (add c xs) = All P xs

pub each_operand : (P Q : Operand → Type 0) → ((x : Operand) → P x → Q x) → (g : Goal Operand) → EachOperand P g → EachOperand Q g
each_operand P Q f (tell (Same a b)) k = (f a k.0, f b k.1)
each_operand P Q f (tell (Least a n)) k = (f a k.0, tt)
each_operand P Q f (tell (Most a n)) k = (f a k.0, tt)
each_operand P Q f (add c xs) k = all_map P Q f xs k

pub good_operands : (book : Book) (made : ℕ) (g : Goal Operand) → GoodGoal book made g → EachOperand (Known made) g
good_operands book made (tell (Same a b)) k = k
good_operands book made (tell (Least a n)) k = (k.0, tt)
good_operands book made (tell (Most a n)) k = (k.0, tt)
good_operands book made (add c xs) k = k.1

-- what holds of the operands of a posting holds of those of its goal
pub posting_operands : (Q : Operand → Type 0) (book : Book) (kind symbol : ℕ) (xs : List Operand) (g : Goal Operand) → (kind ≡ 3 → symbol < length book.arities) → length xs ≡ operand_count book kind symbol → All Q xs → goal_of kind symbol xs ≡ Some g → EachOperand Q g
posting_operands Q book kind symbol xs g declared counted a e = go g (posting_parts Q (λ n. Unit {0}) (λ n k. tt) book kind symbol xs g declared counted a e)
  where
    go : (h : Goal Operand) → PostingParts Q (λ n. Unit {0}) book h → EachOperand Q h
    go (tell p) k = k
    go (add c ys) k = k.2

map_same : {A B : Type 0} (f g : A → B) (xs : List A) → All (λ x. f x ≡ g x) xs → map f xs ≡ map g xs
map_same f g [] a = refl
map_same f g (x ∷ xs) a = ap₂ (λ y l. y ∷ l) a.0 (map_same f g xs a.1)

module _ (d : Domain) where
  -- a goal whose operands have the same worth in two valuations
  pub goal_same : (R : Reading d) (v w : Valuation d) (g : Goal Operand) → EachOperand (λ a. worth d v a ≡ worth d w a) g → GoalHolds d R v g → GoalHolds d R w g
  goal_same R v w (tell (Same a b)) k h = subst d.True (ap₂ Same k.0 k.1) h
  goal_same R v w (tell (Least a n)) k h = subst d.True (ap (λ x. Least x n) k.0) h
  goal_same R v w (tell (Most a n)) k h = subst d.True (ap (λ x. Most x n) k.0) h
  goal_same R v w (add c xs) k h = subst (λ l. R c l ≡ true) (map_same (worth d v) (worth d w) xs k) h

  pub known_same : (made : ℕ) (v w : Valuation d) → ((x : ℕ) → x < made → v x ≡ w x) → (a : Operand) → Known made a → worth d v a ≡ worth d w a
  known_same made v w f (Value n) k = refl
  known_same made v w f (Variable x) k = f x k

  pub good_same : (R : Reading d) (book : Book) (made : ℕ) (v w : Valuation d) → ((x : ℕ) → x < made → v x ≡ w x) → (g : Goal Operand) → GoodGoal book made g → GoalHolds d R v g → GoalHolds d R w g
  good_same R book made v w f g k = goal_same R v w g (each_operand (Known made) (λ a. worth d v a ≡ worth d w a) (known_same made v w f) g (good_operands book made g k))

  proper_worth : (made : ℕ) (u : Valuation d) → Sensible d u → (a : Operand) → Known made a → d.Proper (worth d u a)
  proper_worth made u s (Value n) k = d.proper n k
  proper_worth made u s (Variable x) k = s x

  proper_worths : (made : ℕ) (u : Valuation d) → Sensible d u → (xs : List Operand) → All (Known made) xs → All d.Proper (map (worth d u) xs)
  proper_worths made u s [] a = tt
  proper_worths made u s (x ∷ xs) a = (proper_worth made u s x a.0, proper_worths made u s xs a.1)

  -- values for the variables from made on
  abbrev pub put : Valuation d → ℕ → List d.Worth → Valuation d
  put w made fs y = cond (ltb y made) (w y) (get_or fs (y - made) (w y))

  pub put_below : (w : Valuation d) (made : ℕ) (fs : List d.Worth) (x : ℕ) → x < made → w x ≡ put w made fs x
  put_below w made fs x l = sym (cond-true (ltb x made) (w x) (get_or fs (x - made) (w x)) (lt-ltb x made l))

  pub put_new : (w : Valuation d) (made : ℕ) (fs : List d.Worth) (e : d.Worth) (j : ℕ) → j < length fs → put w made fs (made + j) ≡ get_or fs j e
  put_new w made fs e j l = let z : made + j - made ≡ j = omega arith in cond-false (ltb (made + j) made) (w (made + j)) (get_or fs (made + j - made) (w (made + j))) (le-ltb (made + j) made (omega arith)) ∙ ap (λ k. get_or fs k (w (made + j))) z ∙ get_or_default fs j (w (made + j)) e l

  pub put_sensible : (w : Valuation d) (made : ℕ) (fs : List d.Worth) → Sensible d w → All d.Proper fs → Sensible d (put w made fs)
  put_sensible w made fs s a x = cond_both (ltb x made) (w x) (get_or fs (x - made) (w x)) d.Proper (λ l. s x) (λ l. all_get_d d.Proper fs (x - made) (w x) a (s x))

  -- the values of k variables from made on
  abbrev values_from : Valuation d → ℕ → ℕ → List d.Worth
  values_from w made zero = []
  values_from w made (suc k) = w made ∷ values_from w (suc made) k

  values_length : (w : Valuation d) (made k : ℕ) → length (values_from w made k) ≡ k
  values_length w made zero = refl
  values_length w made (suc k) = ap suc (values_length w (suc made) k)

  values_proper : (w : Valuation d) → Sensible d w → (made k : ℕ) → All d.Proper (values_from w made k)
  values_proper w s made zero = tt
  values_proper w s made (suc k) = (s made, values_proper w s (suc made) k)

  values_at : (w : Valuation d) (made k : ℕ) (e : d.Worth) (j : ℕ) → j < k → w (made + j) ≡ get_or (values_from w made k) j e
  values_at w made zero e j l = absurd (not-suc-le-zero l)
  values_at w made (suc k) e zero l = let z : made + 0 ≡ made = omega arith in ap w z
  values_at w made (suc k) e (suc j) l = let z : made + suc j ≡ suc made + j = omega arith in ap w z ∙ values_at w (suc made) k e j (omega arith)

  -- the slots below n have those values
  abbrev pub Reads : Valuation d → (ℕ → Operand) → List d.Worth → ℕ → Type 0
  Reads w at ws n = (k : ℕ) → k < n → get_or ws k (d.number (pos 0)) ≡ worth d w (at k)

  module _ (w : Valuation d) (at : ℕ → Operand) (ws : List d.Worth) (n : ℕ) (reads : Reads w at ws n) where
    term_same : (t : Term) → TermValid n t → at_slots d ws t ≡ worth d w (fill at t)
    term_same (term.Value x) k = refl
    term_same (term.Slot x) k = reads x k

    terms_same : (ts : List Term) → All (TermValid n) ts → map (at_slots d ws) ts ≡ map (worth d w) (map (fill at) ts)
    terms_same [] k = refl
    terms_same (t ∷ ts) k = ap₂ (λ y l. y ∷ l) (term_same t k.0) (terms_same ts k.1)

    primitive_same : (p : Primitive Term) → PrimitiveValid n p → map_primitive (at_slots d ws) p ≡ map_primitive (worth d w) (fill_primitive at p)
    primitive_same (Same a b) k = ap₂ Same (term_same a k.0) (term_same b k.1)
    primitive_same (Least a x) k = ap (λ z. Least z x) (term_same a k.0)
    primitive_same (Most a x) k = ap (λ z. Most z x) (term_same a k.0)

    -- a valid guard or body item of the slots' values, and filled
    pub guard_same : (p : Primitive Term) → PrimitiveValid n p → GuardHolds d ws p ↔ TrueIn d w (fill_primitive at p)
    guard_same p k = (subst d.True (primitive_same p k), subst d.True (sym (primitive_same p k)))

    pub item_same : (R : Reading d) (arities : List ℕ) (g : Goal Term) → GoalValid arities n g → ItemHolds d R ws g ↔ GoalHolds d R w (fill_goal at g)
    item_same R arities (tell p) k = guard_same p k
    item_same R arities (add c ts) k = (subst (λ l. R c l ≡ true) (terms_same ts k.2), subst (λ l. R c l ≡ true) (sym (terms_same ts k.2)))

    pub items_same : (R : Reading d) (arities : List ℕ) (b : List (Goal Term)) → All (GoalValid arities n) b → All (ItemHolds d R ws) b ↔ All (GoalHolds d R w) (map (fill_goal at) b)
    items_same R arities [] k = (λ a. tt, λ a. tt)
    items_same R arities (g ∷ b) k = let one = item_same R arities g k.0 in let more = items_same R arities b k.1 in (λ a. (one.0 a.0, more.0 a.1), λ a. (one.1 a.0, more.1 a.1))

-- living constraints that have as many arguments as their symbols take, all of them known
module _ (d : Domain) (book : Book) (made : ℕ) (store : Store) (good : (i : ℕ) (r : Record) → store i ≡ Some r → GoodRecord book made r) where
  abbrev worths : Valuation d → List ℕ → List d.Worth
  worths w is = map (worth d w) (slots store is)

  whole : (i : ℕ) (r : Record) → store i ≡ Some r → length r.arguments ≡ get_or book.arities r.symbol 0
  whole i r e = (good i r e).0

  counted : (w : Valuation d) (cs is : List ℕ) → Matches store cs is → length (worths w is) ≡ slot_count book.arities cs
  counted w cs is m = length-map (slots store is) (worth d w) ∙ slots_counted book.arities store whole cs is m

  known : (is : List ℕ) → All (Known made) (slots store is)
  known is = slots_all (Known made) store (λ i r e. (good i r e).1) is

  worths_append : (w : Valuation d) (xs ys : List ℕ) → worths w (xs ++ ys) ≡ worths w xs ++ worths w ys
  worths_append w xs ys = ap (map (worth d w)) (slots_append store xs ys) ∙ map-append (worth d w) (slots store xs) (slots store ys)

  -- the heads hold of the slots' values exactly when the constraints of the tuple do
  heads_same : (R : Reading d) (w : Valuation d) (cs is : List ℕ) → Matches store cs is → HeadsHold d R book.arities cs (worths w is) ↔ All (λ i. (r : Record) → store i ≡ Some r → RecordHolds d R w r) is
  heads_same R w [] [] m = (λ h. tt, λ h. tt)
  heads_same R w [] (i ∷ is) m = absurd m
  heads_same R w (c ∷ cs) [] m = absurd m
  heads_same R w (c ∷ cs) (i ∷ is) m = let n = named (store i) c m.0 in go n.0 n.1 n.2 (heads_same R w cs is m.1)
    where
      go : (r : Record) → store i ≡ Some r → r.symbol ≡ c → (HeadsHold d R book.arities cs (worths w is) ↔ All (λ i. (r : Record) → store i ≡ Some r → RecordHolds d R w r) is) → HeadsHold d R book.arities (c ∷ cs) (worths w (i ∷ is)) ↔ All (λ i. (r : Record) → store i ≡ Some r → RecordHolds d R w r) (i ∷ is)
      go r e q ih = (to, from)
        where
          a : List d.Worth
          a = map (worth d w) r.arguments

          n : ℕ
          n = get_or book.arities c 0

          shape : worths w (i ∷ is) ≡ map (worth d w) r.arguments ++ worths w is
          shape = map-append (worth d w) (arguments_of (store i)) (slots store is) ∙ ap (λ o. map (worth d w) (arguments_of o) ++ worths w is) e

          long : length (map (worth d w) r.arguments) ≡ get_or book.arities c 0
          long = length-map r.arguments (worth d w) ∙ whole i r e ∙ ap (λ z. get_or book.arities z 0) q

          to : HeadsHold d R book.arities (c ∷ cs) (worths w (i ∷ is)) → All (λ i. (r : Record) → store i ≡ Some r → RecordHolds d R w r) (i ∷ is)
          to h = let p = subst (HeadsHold d R book.arities (c ∷ cs)) shape h in (λ x f. subst (RecordHolds d R w) (same_Some _ _ (sym e ∙ f)) (subst (λ z. R z a ≡ true) (sym q) (subst (λ l. R c l ≡ true) (take_at a (worths w is) n long) p.0)), ih.0 (subst (HeadsHold d R book.arities cs) (drop_at a (worths w is) n long) p.1))

          from : All (λ i. (r : Record) → store i ≡ Some r → RecordHolds d R w r) (i ∷ is) → HeadsHold d R book.arities (c ∷ cs) (worths w (i ∷ is))
          from h = subst (HeadsHold d R book.arities (c ∷ cs)) (sym shape) (subst (λ l. R c l ≡ true) (sym (take_at a (worths w is) n long)) (subst (λ z. R z a ≡ true) q (h.0 r e)), subst (HeadsHold d R book.arities cs) (sym (drop_at a (worths w is) n long)) (ih.1 h.1))

  heads_read : (w : Valuation d) (cs is : List ℕ) → Matches store cs is → (n : ℕ) → Reads d w (head_slot book.arities store cs is) (worths w is) n
  heads_read w cs is m n k l = get_or-map (worth d w) (slots store is) k (Value (pos 0)) ∙ ap (worth d w) (sym (head_slot_is book.arities store whole cs is m k))

  -- with values of the fresh variables after those of the slots
  body_reads : (w : Valuation d) (r : Rule) (tuple : List ℕ) (fs : List d.Worth) → Matches store (heads r) tuple → ((j : ℕ) → j < length fs → w (made + j) ≡ get_or fs j (d.number (pos 0))) → Reads d w (body_slot book.arities store r tuple made) (worths w tuple ++ fs) (slot_count book.arities (heads r) + length fs)
  body_reads w r tuple fs m f k l = go (counted w (heads r) tuple m) (cases_lt k (slot_count book.arities (heads r)))
    where
      n : ℕ
      n = slot_count book.arities (heads r)

      old : Operand
      old = head_slot book.arities store (heads r) tuple k

      new : Operand
      new = Variable (made + (k - slot_count book.arities (heads r)))

      go : length (worths w tuple) ≡ slot_count book.arities (heads r) → (k < slot_count book.arities (heads r)) ⊎ (slot_count book.arities (heads r) ≤ k) → get_or (worths w tuple ++ fs) k (d.number (pos 0)) ≡ worth d w (body_slot book.arities store r tuple made k)
      go e (inl lt) = get_or_append_left (worths w tuple) fs (d.number (pos 0)) k (omega arith) ∙ heads_read w (heads r) tuple m n k lt ∙ ap (worth d w) (sym (cond-true (ltb k n) old new (lt-ltb k n lt)))
      go e (inr le) = get_or-append_right (worths w tuple) fs n k (d.number (pos 0)) e le ∙ sym (f (k - n) (omega arith)) ∙ ap (worth d w) (sym (cond-false (ltb k n) old new (le-ltb k n le)))

  -- a rule that the reading obeys, applied to a tuple
  module _ (R : Reading d) (r : Rule) (tuple : List ℕ) (m : Meaning d) (valid : RuleValid book.arities r) (obeys : ObeysRule d R book.arities r) (applies : Applies m book.arities store r tuple) where
    parts : Parts store r.kept r.removed tuple
    parts = parts_of store r.kept r.removed tuple applies.matches

    values : (u : Valuation d) → worths u tuple ≡ worths u parts.front ++ worths u parts.back
    values u = ap (worths u) parts.is ∙ worths_append u parts.front parts.back

    -- the rule's reading at the values of the tuple's slots
    read : (u : Valuation d) → Sensible d u → m.admits u → HeadsHold d R book.arities r.kept (worths u parts.front) → HeadsHold d R book.arities r.removed (worths u parts.back) ↔ ((fs : List d.Worth) × (length fs ≡ r.fresh) × All d.Proper fs × All (ItemHolds d R ((worths u parts.front ++ worths u parts.back) ++ fs)) r.body)
    read u s au hk = obeys (worths u parts.front) (worths u parts.back) (counted u r.kept parts.front parts.fronts) (counted u r.removed parts.back parts.backs) (proper_worths d made u s (slots store parts.front) (known parts.front)) (proper_worths d made u s (slots store parts.back) (known parts.back)) hk (all_from (GuardHolds d (worths u parts.front ++ worths u parts.back)) r.guards guard)
      where
        guard : (g : Primitive Term) → g ∈ r.guards → GuardHolds d (worths u parts.front ++ worths u parts.back) g
        guard g k = subst (λ l. GuardHolds d l g) (values u) ((guard_same d u (head_slot book.arities store (heads r) tuple) (worths u tuple) (slot_count book.arities (heads r)) (heads_read u (heads r) tuple applies.matches (slot_count book.arities (heads r))) g (all_mem (PrimitiveValid (slot_count book.arities (heads r))) valid.guards k)).1 ((all_mem (λ h. Follows m (fill_primitive (head_slot book.arities store (heads r) tuple) h)) applies.guarded k).1 u au))

    items : (u : Valuation d) (fs : List d.Worth) → length fs ≡ r.fresh → ((j : ℕ) → j < length fs → u (made + j) ≡ get_or fs j (d.number (pos 0))) → All (ItemHolds d R (worths u tuple ++ fs)) r.body ↔ All (GoalHolds d R u) (body_for book.arities store r tuple made)
    items u fs e f = items_same d u (body_slot book.arities store r tuple made) (worths u tuple ++ fs) (slot_count book.arities (heads r) + length fs) (body_reads u r tuple fs applies.matches f) R book.arities r.body (subst (λ (k : ℕ). All (GoalValid book.arities (slot_count book.arities (heads r) + k)) r.body) (sym e) valid.body)

    -- where the living constraints hold, the body does, for some values of the fresh variables
    pub body_holds : (u : Valuation d) → Sensible d u → m.admits u → ((i : ℕ) (x : Record) → store i ≡ Some x → RecordHolds d R u x) → (fs : List d.Worth) × All d.Proper fs × All (GoalHolds d R (put d u made fs)) (body_for book.arities store r tuple made)
    body_holds u s au h = go ((read u s au ((heads_same R u r.kept parts.front parts.fronts).1 (all_from _ parts.front (λ i k. h i)))).0 ((heads_same R u r.removed parts.back parts.backs).1 (all_from _ parts.back (λ i k. h i))))
      where
        go : ((fs : List d.Worth) × (length fs ≡ r.fresh) × All d.Proper fs × All (ItemHolds d R ((worths u parts.front ++ worths u parts.back) ++ fs)) r.body) → (fs : List d.Worth) × All d.Proper fs × All (GoalHolds d R (put d u made fs)) (body_for book.arities store r tuple made)
        go f = (f.0, f.2, (items (put d u made f.0) f.0 f.1 (put_new d u made f.0 (d.number (pos 0)))).0 (subst (λ l. All (ItemHolds d R (l ++ f.0)) r.body) same f.3))
          where
            same : worths u parts.front ++ worths u parts.back ≡ worths (put d u made f.0) tuple
            same = sym (values u) ∙ map_same (worth d u) (worth d (put d u made f.0)) (slots store tuple) (all_map (Known made) (λ a. worth d u a ≡ worth d (put d u made f.0) a) (known_same d made u (put d u made f.0) (put_below d u made f.0)) (slots store tuple) (known tuple))

    -- where the body and the constraints that stay hold, those that go do
    pub gone_hold : (u : Valuation d) → Sensible d u → m.admits u → All (GoalHolds d R u) (body_for book.arities store r tuple made) → ((i : ℕ) (x : Record) → (i ∈ gone r tuple → ⊥) → store i ≡ Some x → RecordHolds d R u x) → (i : ℕ) (x : Record) → i ∈ gone r tuple → store i ≡ Some x → RecordHolds d R u x
    gone_hold u s au b h i x k e = all_mem _ ((heads_same R u r.removed parts.back parts.backs).0 removed) (subst (λ l. i ∈ l) parts.back_is k) x e
      where
        apart : (j : ℕ) → j ∈ parts.front → j ∈ gone r tuple → ⊥
        apart j a z = distinct_parts parts.front parts.back (subst Distinct parts.is applies.distinct) a (subst (λ l. j ∈ l) parts.back_is z)

        fs : List d.Worth
        fs = values_from d u made r.fresh

        body : All (ItemHolds d R ((worths u parts.front ++ worths u parts.back) ++ values_from d u made r.fresh)) r.body
        body = subst (λ l. All (ItemHolds d R (l ++ fs)) r.body) (values u) ((items u fs (values_length d u made r.fresh) (λ j l. values_at d u made r.fresh (d.number (pos 0)) j (omega (arith, values_length d u made r.fresh)))).1 b)

        removed : HeadsHold d R book.arities r.removed (worths u parts.back)
        removed = (read u s au ((heads_same R u r.kept parts.front parts.fronts).1 (all_from _ parts.front (λ j a y. h j y (apart j a))))).1 (fs, values_length d u made r.fresh, values_proper d u s made r.fresh, body)
