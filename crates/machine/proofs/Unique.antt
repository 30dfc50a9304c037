-- What the top item decides: a step's answer and all that it leaves. Assumes nothing.
use Rattle.std.proofs.Common.{◌≡◌, ℕ, suc, ◌+◌, ◌-◌, ◌<◌, ◌≤◌, true, cond, not, ltb, ◌⊎◌, List, [], ◌∷◌, ◌++◌, map, length, get_or, Some, None, filter, Option, sym, refl, ap, ◌∙◌, subst, inl, inr, arith}
use Rattle.std.proofs.lemmas.Option.{none-some, same_Some}
use Rattle.terms.specs.declared.Operand.{Operand}
use Rattle.terms.specs.declared.Primitive.{Primitive}
use Rattle.terms.specs.Domains.{Domain}
use Rattle.rules.specs.Books.{tell, add, Book, heads}
use Rattle.theory.specs.Meanings.{Meaning, Failed, SameMeaning}
use Rattle.table.specs.Lists.{first}
use Rattle.table.specs.Records.{Record, recorded}
use Rattle.table.specs.Tables.{Table, size, with_record, without}
use Rattle.machine.specs.declared.answers.Limit.TheVariants as limit
use Rattle.machine.specs.Lists.{◌∈◌, NoLater}
use Rattle.machine.specs.Matching.{Store, Firing, Matches, Applies, rule_at, body_for, gone, fill_primitive, head_slot}
use Rattle.machine.specs.Occurrences.{occurrences, search_order, sought}
use Rattle.machine.specs.Sheets.{Entry, goal, wake, active, StepAnswer, failed, done, told, activated, woken, dropped, passed, applied, full}
use Rattle.machine.specs.Refined.{removes_nothing, names_any, Unfixed, AllFixed, Wakes}
use Rattle.machine.proofs.Orders.{first_is_one, rising_one}
use Rattle.machine.proofs.Members.{mem_dec, all_map}
use Rattle.machine.proofs.Meanings.{same_back, failed_same, fixed_same, follows_same}
use native.Mathlib.Decide.{ℕ_discrete}

-- one of two cases that exclude each other
abbrev pub Split : Type 0 → Type 0 → Type 0 → Type 0 → Type 0
Split N Y L R = (N × L) ⊎ (Y × R)

pub split_one : {N Y L R M S Q : Type 0} → (N → Y → ⊥) → (L → M → Q) → (R → S → Q) → Split N Y L R → Split N Y M S → Q
split_one apart f g (inl a) (inl b) = f a.1 b.1
split_one apart f g (inl a) (inr b) = absurd (apart a.0 b.0)
split_one apart f g (inr a) (inl b) = absurd (apart b.0 a.0)
split_one apart f g (inr a) (inr b) = g a.1 b.1

pub over_not : {m n : ℕ} → m < n → n ≤ m → ⊥
over_not a b = omega arith

pub matches_length : (store : Store) (ss is : List ℕ) → Matches store ss is → length is ≡ length ss
matches_length store [] [] m = refl
matches_length store [] (i ∷ is) m = absurd m
matches_length store (s ∷ ss) [] m = absurd m
matches_length store (s ∷ ss) (i ∷ is) m = ap suc (matches_length store ss is m.1)

-- what becomes of the theory
pub data Change : Type 0 where
  kept : Change
  told_one : Primitive Operand → Change
  made_some : ℕ → Change

-- the answer, the waiting list, the history, the next identifier, the change of the theory, and the table
abbrev pub Outcome : Type 0
Outcome = StepAnswer × List Entry × List Firing × ℕ × Change × Table

both : {o p z : Outcome} → o ≡ z → p ≡ z → o ≡ p
both x y = x ∙ sym y

module _ {d : Domain} where
  unfixed_same : (m n : Meaning d) → SameMeaning m n → (o : Option Record) → Unfixed m o → Unfixed n o
  unfixed_same m n e None u = u
  unfixed_same m n e (Some r) u = (u.0, u.1, λ f. u.2 (fixed_same n m (same_back m n e) u.0 f))

  all_fixed_same : (m n : Meaning d) → SameMeaning m n → (o : Option Record) → AllFixed m o → AllFixed n o
  all_fixed_same m n e None u = u
  all_fixed_same m n e (Some r) u = λ x k. fixed_same m n e x (u x k)

  wakes_same : (m n : Meaning d) (store : Store) (is : List ℕ) → SameMeaning m n → Wakes m store is → Wakes n store is
  wakes_same m n store is e w = record { rising = w.rising; unfixed = λ i k. unfixed_same m n e (store i) (w.unfixed i k); others = λ i k. all_fixed_same m n e (store i) (w.others i k) }

  not_both : (m : Meaning d) (o : Option Record) → Unfixed m o → AllFixed m o → ⊥
  not_both m None u f = u
  not_both m (Some r) u f = u.2 (f u.0 u.1)

  wakes_one : (m : Meaning d) (store : Store) (is js : List ℕ) → Wakes m store is → Wakes m store js → is ≡ js
  wakes_one m store is js a b = rising_one is js a.rising b.rising (λ i k. into is js a b i k (mem_dec ℕ_discrete i js)) (λ i k. into js is b a i k (mem_dec ℕ_discrete i is))
    where
      into : (xs ys : List ℕ) → Wakes m store xs → Wakes m store ys → (i : ℕ) → i ∈ xs → (i ∈ ys) ⊎ (i ∈ ys → ⊥) → i ∈ ys
      into xs ys x y i k (inl z) = z
      into xs ys x y i k (inr z) = absurd (not_both m (store i) (x.unfixed i k) (y.others i z))

module _ (d : Domain) (capacity room : ℕ) (book : Book) (waiting : List Entry) (history : List Firing) (next made : ℕ) (table : Table) where
  abbrev store : Store
  store i = first (table i)

  abbrev pub Fit : Meaning d → ℕ → ℕ → ℕ → List ℕ → Type 0
  Fit m k h i tuple = Applies m book.arities store (rule_at book k) tuple × (get_or tuple h 0 ≡ i) × ((removes_nothing (rule_at book k) ≡ true) × ((k, tuple) ∈ history) → ⊥)

  abbrev pub FirstOf : Meaning d → ℕ → ℕ → ℕ → List ℕ → Type 0
  FirstOf m k h i tuple = Fit m k h i tuple × ((other : List ℕ) → Fit m k h i other → NoLater (sought (search_order (length (heads (rule_at book k))) h) tuple) (sought (search_order (length (heads (rule_at book k))) h) other))

  abbrev pub after : ℕ → List ℕ → List Entry → ℕ → ℕ → ℕ → List Entry
  after k tuple rest i j h = map goal (body_for book.arities store (rule_at book k) tuple made) ++ cond (ltb h (length (rule_at book k).kept)) (active i j ∷ rest) rest

  abbrev pub applied_to : ℕ → List ℕ → List Firing
  applied_to k tuple = cond (removes_nothing (rule_at book k)) (history ++ ((k, tuple) ∷ [])) (filter (λ f. not (names_any (gone (rule_at book k) tuple) f.1)) history)

  abbrev pub NoRoom : ℕ → Type 0
  NoRoom k = (removes_nothing (rule_at book k) ≡ true) × (512 ≤ length history)

  -- nothing changes
  abbrev pub stay : StepAnswer → Outcome
  stay a = (a, waiting, history, next, kept, table)

  -- only the waiting list does
  abbrev pub only : StepAnswer → List Entry → Outcome
  only a w = (a, w, history, next, kept, table)

  abbrev pub Limits : ℕ → List ℕ → List Entry → ℕ → ℕ → ℕ → Outcome → Type 0
  Limits k tuple rest i j h o = Split (NoRoom k) (NoRoom k → ⊥) (o ≡ stay (full limit.History)) (Split (capacity < made + (rule_at book k).fresh) (made + (rule_at book k).fresh ≤ capacity) (o ≡ stay (full limit.Variables)) (Split (512 < length (after k tuple rest i j h)) (length (after k tuple rest i j h) ≤ 512) (o ≡ stay (full limit.Waiting)) (o ≡ (applied k tuple, after k tuple rest i j h, applied_to k tuple, next, made_some (rule_at book k).fresh, without table (gone (rule_at book k) tuple)))))

  abbrev pub Tries : Meaning d → List Entry → ℕ → ℕ → ℕ → ℕ → Outcome → Type 0
  Tries m rest i j k h o = (((tuple : List ℕ) → Fit m k h i tuple → ⊥) × (o ≡ only (passed i) (active i (suc j) ∷ rest))) ⊎ ((tuple : List ℕ) × FirstOf m k h i tuple × Limits k tuple rest i j h o)

  abbrev pub Among : ℕ → ℕ → Type 0
  Among symbol j = (1 ≤ j) × (j ≤ length (occurrences book symbol))

  abbrev pub Lives : Meaning d → List Entry → ℕ → ℕ → Record → Outcome → Type 0
  Lives m rest i j r o = Split (Among r.symbol j → ⊥) (Among r.symbol j) (o ≡ only (dropped i) rest) ((k : ℕ) × (h : ℕ) × (get_or (occurrences book r.symbol) (j - 1) (0, 0) ≡ (k, h)) × Tries m rest i j k h o)

  -- what the top item decides
  abbrev pub Item : Meaning d → List Entry → Outcome → Type 0
  Item m [] o = o ≡ stay done
  Item m (goal (tell p) ∷ rest) o = (is : List ℕ) × Wakes m store is × Split (512 < length is + length rest) (length is + length rest ≤ 512) (o ≡ stay (full limit.Waiting)) (o ≡ (told, map wake is ++ rest, history, next, told_one p, table))
  Item m (goal (add c xs) ∷ rest) o = Split (1000000 < next) (next ≤ 1000000) (o ≡ stay (full limit.Identifiers)) (Split (size table < room) (room ≤ size table) (o ≡ (activated next, active next 1 ∷ rest, history, suc next, kept, with_record table next (recorded c xs))) (o ≡ stay (full limit.Table)))
  Item m (wake i ∷ rest) o = ((store i ≡ None) × (o ≡ only (dropped i) rest)) ⊎ ((r : Record) × (store i ≡ Some r) × (o ≡ only (woken i) (active i 1 ∷ rest)))
  Item m (active i j ∷ rest) o = ((store i ≡ None) × (o ≡ only (dropped i) rest)) ⊎ ((r : Record) × (store i ≡ Some r) × Lives m rest i j r o)

  abbrev pub Decided : Meaning d → Outcome → Type 0
  Decided m o = Split (Failed m) (Failed m → ⊥) (o ≡ stay failed) (Item m waiting o)

  -- the same of another theory with that meaning
  fit_same : (m n : Meaning d) → SameMeaning m n → (k h i : ℕ) (tuple : List ℕ) → Fit m k h i tuple → Fit n k h i tuple
  fit_same m n e k h i tuple f = (record { matches = f.0.matches; distinct = f.0.distinct; guarded = all_map _ _ (λ g. follows_same m n e (fill_primitive (head_slot book.arities store (heads (rule_at book k)) tuple) g)) (rule_at book k).guards f.0.guarded }, f.1, f.2)

  tries_same : (m n : Meaning d) → SameMeaning m n → (rest : List Entry) (i j k h : ℕ) (o : Outcome) → Tries m rest i j k h o → Tries n rest i j k h o
  tries_same m n e rest i j k h o (inl a) = inl (λ tuple f. a.0 tuple (fit_same n m (same_back m n e) k h i tuple f), a.1)
  tries_same m n e rest i j k h o (inr a) = inr (a.0, (fit_same m n e k h i a.0 a.1.0, λ other f. a.1.1 other (fit_same n m (same_back m n e) k h i other f)), a.2)

  lives_same : (m n : Meaning d) → SameMeaning m n → (rest : List Entry) (i j : ℕ) (r : Record) (o : Outcome) → Lives m rest i j r o → Lives n rest i j r o
  lives_same m n e rest i j r o (inl a) = inl a
  lives_same m n e rest i j r o (inr a) = inr (a.0, (a.1.0, a.1.1, a.1.2, tries_same m n e rest i j a.1.0 a.1.1 o a.1.3))

  item_same : (m n : Meaning d) → SameMeaning m n → (w : List Entry) (o : Outcome) → Item m w o → Item n w o
  item_same m n e [] o a = a
  item_same m n e (goal (tell p) ∷ rest) o a = (a.0, wakes_same m n store a.0 e a.1, a.2)
  item_same m n e (goal (add c xs) ∷ rest) o a = a
  item_same m n e (wake i ∷ rest) o a = a
  item_same m n e (active i j ∷ rest) o (inl a) = inl a
  item_same m n e (active i j ∷ rest) o (inr a) = inr (a.0, a.1, lives_same m n e rest i j a.0 o a.2)

  pub decided_same : (m n : Meaning d) → SameMeaning m n → (o : Outcome) → Decided m o → Decided n o
  decided_same m n e o (inl a) = inl (failed_same m n e a.0, a.1)
  decided_same m n e o (inr a) = inr (λ f. a.0 (failed_same n m (same_back m n e) f), item_same m n e waiting o a.1)

  -- there is one outcome
  first_one : (m : Meaning d) (k h i : ℕ) (xs ys : List ℕ) → FirstOf m k h i xs → FirstOf m k h i ys → xs ≡ ys
  first_one m k h i xs ys a b = first_is_one (length (heads (rule_at book k))) h xs ys (matches_length store (heads (rule_at book k)) xs a.0.0.matches) (matches_length store (heads (rule_at book k)) ys b.0.0.matches) (a.0.1 ∙ sym b.0.1) (a.1 ys b.0) (b.1 xs a.0)

  limits_one : (k : ℕ) (tuple : List ℕ) (rest : List Entry) (i j h : ℕ) (o p : Outcome) → Limits k tuple rest i j h o → Limits k tuple rest i j h p → o ≡ p
  limits_one k tuple rest i j h o p = split_one (λ f n. n f) both (split_one over_not both (split_one over_not both both))

  tries_one : (m : Meaning d) (rest : List Entry) (i j k h : ℕ) (o p : Outcome) → Tries m rest i j k h o → Tries m rest i j k h p → o ≡ p
  tries_one m rest i j k h o p (inl a) (inl b) = both a.1 b.1
  tries_one m rest i j k h o p (inl a) (inr b) = absurd (a.0 b.0 b.1.0)
  tries_one m rest i j k h o p (inr a) (inl b) = absurd (b.0 a.0 a.1.0)
  tries_one m rest i j k h o p (inr a) (inr b) = limits_one k a.0 rest i j h o p a.2 (subst (λ z. Limits k z rest i j h p) (sym (first_one m k h i a.0 b.0 a.1 b.1)) b.2)

  lives_one : (m : Meaning d) (rest : List Entry) (i j : ℕ) (r : Record) (o p : Outcome) → Lives m rest i j r o → Lives m rest i j r p → o ≡ p
  lives_one m rest i j r o p = split_one (λ n a. n a) both (λ a b. tries_one m rest i j a.0 a.1 o p a.3 (subst (λ (z : ℕ × ℕ). Tries m rest i j z.0 z.1 p) (sym b.2 ∙ a.2) b.3))

  item_one : (m : Meaning d) (w : List Entry) (o p : Outcome) → Item m w o → Item m w p → o ≡ p
  item_one m [] o p a b = both a b
  item_one m (goal (tell q) ∷ rest) o p a b = split_one over_not both both a.2 (subst (λ z. Split (512 < length z + length rest) (length z + length rest ≤ 512) (p ≡ stay (full limit.Waiting)) (p ≡ (told, map wake z ++ rest, history, next, told_one q, table))) (sym (wakes_one m store a.0 b.0 a.1 b.1)) b.2)
  item_one m (goal (add c xs) ∷ rest) o p a b = split_one over_not both (split_one over_not both both) a b
  item_one m (wake i ∷ rest) o p (inl a) (inl b) = both a.1 b.1
  item_one m (wake i ∷ rest) o p (inl a) (inr b) = absurd (none-some _ (sym a.0 ∙ b.1))
  item_one m (wake i ∷ rest) o p (inr a) (inl b) = absurd (none-some _ (sym b.0 ∙ a.1))
  item_one m (wake i ∷ rest) o p (inr a) (inr b) = both a.2 b.2
  item_one m (active i j ∷ rest) o p (inl a) (inl b) = both a.1 b.1
  item_one m (active i j ∷ rest) o p (inl a) (inr b) = absurd (none-some _ (sym a.0 ∙ b.1))
  item_one m (active i j ∷ rest) o p (inr a) (inl b) = absurd (none-some _ (sym b.0 ∙ a.1))
  item_one m (active i j ∷ rest) o p (inr a) (inr b) = lives_one m rest i j a.0 o p a.2 (subst (λ (z : Record). Lives m rest i j z p) (same_Some _ _ (sym b.1 ∙ a.1)) b.2)

  pub decided_one : (m : Meaning d) (o p : Outcome) → Decided m o → Decided m p → o ≡ p
  decided_one m o p = split_one (λ f n. n f) both (item_one m waiting o p)
