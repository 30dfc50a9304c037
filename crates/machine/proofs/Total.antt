-- Every state has a step. Assumes nothing.
use Rattle.std.proofs.Common.{◌≡◌, ℕ, zero, suc, ◌+◌, ◌-◌, ◌<◌, ◌≤◌, true, ◌⊎◌, List, [], ◌∷◌, ◌++◌, map, length, get_or, Some, None, Option, sym, refl, subst, inl, inr, arith}
use mathlib.Core.Bool.{Bool-discrete}
use Rattle.std.proofs.lemmas.Bool.{cases_lt}
use Rattle.std.proofs.lemmas.Option.{none-some}
use Rattle.terms.specs.declared.Operand.{Operand}
use Rattle.terms.specs.declared.Operand.TheVariants.{Value, Variable}
use Rattle.terms.specs.Lists.{All}
use Rattle.rules.specs.Books.{tell, add}
use Rattle.theory.specs.declared.interface.Theory as Theory
use Rattle.theory.specs.Meanings.{Failed, Fixed}
use Rattle.table.specs.declared.partner.PartnerTable as PartnerTable
use Rattle.table.specs.Lists.{first}
use Rattle.table.specs.Records.{Record, recorded, fit}
use Rattle.table.specs.Tables.{size}
use Rattle.table.specs.Looks.{high_fit}
use Rattle.machine.specs.declared.answers.Limit.TheVariants as limit
use Rattle.machine.specs.Lists.{◌∈◌, here, there, Rising}
use Rattle.machine.specs.Matching.{Store, Firing, gone}
use Rattle.machine.specs.Occurrences.{occurrences, positions}
use Rattle.machine.specs.Sheets as sheet
use Rattle.machine.specs.Sheets.{Entry, goal, wake, active, Config, StepAnswer}
use Rattle.machine.specs.Refined as ref
use Rattle.machine.specs.Refined.{meaning, living, rule_of, Stands, Unfixed, AllFixed, Wakes, FirstFit, NoneFits, Turn, Becomes, Waits, HistoryFull, StepSays, waiting_after, history_after, removes_nothing}
use Rattle.machine.specs.Statements.{Decides, SomeStep}
use Rattle.machine.proofs.Members.{mem_cases, mem_none, all_from}
use Rattle.machine.proofs.Places.{occurs_bounds}
use Rattle.machine.proofs.Orders.{positions_have}
use Rattle.machine.proofs.Meanings.{dec_both}
use Rattle.machine.proofs.Least.{first_or_none}

dec_le : (m n : ℕ) → Dec (m ≤ n)
dec_le m n = go (cases_lt n m)
  where
    go : (n < m) ⊎ (m ≤ n) → Dec (m ≤ n)
    go (inl l) = no (λ k. omega arith)
    go (inr l) = yes l

-- a list of all numbers below n
below : (n : ℕ) → (hs : List ℕ) × ((i : ℕ) → i < n → i ∈ hs)
below n = (positions 0 n, λ i l. positions_have 0 n i (omega arith) (omega arith))

module _ {A B : Type 0} (T : Theory.Ghosts A) (P : PartnerTable.Ghosts B) (decides : Decides T P) (fits : (y : B) (i : ℕ) → All (λ r. fit i r ≡ true) (P.records y i)) where
  open_or_shut : (x : A) (xs : List Operand) → ((v : ℕ) × (Variable v ∈ xs) × (Fixed (T.means x) v → ⊥)) ⊎ ((v : ℕ) → Variable v ∈ xs → Fixed (T.means x) v)
  open_or_shut x [] = inr (λ v m. absurd (mem_none m))
  open_or_shut x (Value n ∷ xs) = go (open_or_shut x xs)
    where
      back : (v : ℕ) → (Variable v ≡ Value n) ⊎ (Variable v ∈ xs) → Variable v ∈ xs
      back v (inl e) = absurd (let z : ◌≡◌ {A = ℕ} 0 1 = cc in omega arith)
      back v (inr m) = m

      go : ((v : ℕ) × (Variable v ∈ xs) × (Fixed (T.means x) v → ⊥)) ⊎ ((v : ℕ) → Variable v ∈ xs → Fixed (T.means x) v) → ((v : ℕ) × (Variable v ∈ (Value n ∷ xs)) × (Fixed (T.means x) v → ⊥)) ⊎ ((v : ℕ) → Variable v ∈ (Value n ∷ xs) → Fixed (T.means x) v)
      go (inl o) = inl (o.0, there o.1, o.2)
      go (inr f) = inr (λ v m. f v (back v (mem_cases m)))
  open_or_shut x (Variable u ∷ xs) = go (decides.fixed x u) (open_or_shut x xs)
    where
      go : Dec (Fixed (T.means x) u) → ((v : ℕ) × (Variable v ∈ xs) × (Fixed (T.means x) v → ⊥)) ⊎ ((v : ℕ) → Variable v ∈ xs → Fixed (T.means x) v) → ((v : ℕ) × (Variable v ∈ (Variable u ∷ xs)) × (Fixed (T.means x) v → ⊥)) ⊎ ((v : ℕ) → Variable v ∈ (Variable u ∷ xs) → Fixed (T.means x) v)
      go (no n) r = inl (u, here, n)
      go (yes k) (inl o) = inl (o.0, there o.1, o.2)
      go (yes k) (inr f) = inr (λ v m. each v (mem_cases m))
        where
          each : (v : ℕ) → (Variable v ≡ Variable u) ⊎ (Variable v ∈ xs) → Fixed (T.means x) v
          each v (inl e) = subst (Fixed (T.means x)) (let z : u ≡ v = cc in z) k
          each v (inr m) = f v m

  unfixed_or : (x : A) (o : Option Record) → Unfixed (T.means x) o ⊎ AllFixed (T.means x) o
  unfixed_or x None = inr tt
  unfixed_or x (Some r) = open_or_shut x r.arguments

  abbrev WakesIn : A → Store → ℕ → ℕ → Type 0
  WakesIn x store k n = (is : List ℕ) × Rising is × ((i : ℕ) → i ∈ is → (k ≤ i) × Unfixed (T.means x) (store i)) × ((i : ℕ) → k ≤ i → i < k + n → (i ∈ is → ⊥) → AllFixed (T.means x) (store i))

  wakes_in : (x : A) (store : Store) (k n : ℕ) → WakesIn x store k n
  wakes_in x store k zero = ([], tt, λ i m. absurd (mem_none m), λ i a b m. absurd (omega arith))
  wakes_in x store k (suc n) = go (unfixed_or x (store k)) (wakes_in x store (suc k) n)
    where
      go : Unfixed (T.means x) (store k) ⊎ AllFixed (T.means x) (store k) → WakesIn x store (suc k) n → WakesIn x store k (suc n)
      go (inl u) w = (k ∷ w.0, (all_from (λ y. k < y) w.0 (λ i m. (w.2 i m).0), w.1), λ i m. each i (mem_cases m), λ i a b m. rest i a b m (cases_lt k i))
        where
          each : (i : ℕ) → (i ≡ k) ⊎ (i ∈ w.0) → (k ≤ i) × Unfixed (T.means x) (store i)
          each i (inl e) = (omega arith, subst (λ (z : ℕ). Unfixed (T.means x) (store z)) (sym e) u)
          each i (inr m) = let y = w.2 i m in (omega (arith, y.0), y.1)

          rest : (i : ℕ) → k ≤ i → i < k + suc n → (i ∈ (k ∷ w.0) → ⊥) → (k < i) ⊎ (i ≤ k) → AllFixed (T.means x) (store i)
          rest i a b m (inl l) = w.3 i l (omega arith) (λ z. m (there z))
          rest i a b m (inr l) = absurd (m (subst (λ (z : ℕ). i ∈ (z ∷ w.0)) (let q : i ≡ k = omega arith in q) here))
      go (inr f) w = (w.0, w.1, λ i m. (let y = (w.2 i m).0 in omega arith, (w.2 i m).1), λ i a b m. rest i a b m (cases_lt k i))
        where
          rest : (i : ℕ) → k ≤ i → i < k + suc n → (i ∈ w.0 → ⊥) → (k < i) ⊎ (i ≤ k) → AllFixed (T.means x) (store i)
          rest i a b m (inl l) = w.3 i l (omega arith) m
          rest i a b m (inr l) = subst (λ (z : ℕ). AllFixed (T.means x) (store z)) (let q : k ≡ i = omega arith in q) f

  -- what lives has an identifier up to 1,000,000
  lives_low : (s : Config A B) (i : ℕ) (r : Record) → living P s i ≡ Some r → i < 1000001
  lives_low s i r e = go (P.records s.table i) (fits s.table i) e
    where
      go : (rs : List Record) → All (λ z. fit i z ≡ true) rs → first rs ≡ Some r → i < 1000001
      go [] a q = absurd (none-some _ q)
      go (z ∷ zs) a q = let l = high_fit i z a.0 in omega arith

  some_wake : (s : Config A B) → (is : List ℕ) × Wakes (meaning T s) (living P s) is
  some_wake s = go (wakes_in s.theory (living P s) 0 1000001)
    where
      go : WakesIn s.theory (living P s) 0 1000001 → (is : List ℕ) × Wakes (meaning T s) (living P s) is
      go w = (w.0, record { rising = w.1; unfixed = λ i m. (w.2 i m).1; others = λ i m. rest i m (living P s i) refl })
        where
          rest : (i : ℕ) → (i ∈ w.0 → ⊥) → (o : Option Record) → living P s i ≡ o → AllFixed (meaning T s) (living P s i)
          rest i m None e = subst (AllFixed (meaning T s)) (sym e) tt
          rest i m (Some r) e = w.3 i (omega arith) (let l = lives_low s i r e in omega arith) m

  module _ (s : Config A B) where
    abbrev StepFrom : Type 0
    StepFrom = (a : StepAnswer) × (t : Config A B) × StepSays T P s a t

    abbrev state : List Entry → List Firing → ℕ → A → B → Config A B
    state w h n x y = record { book = s.book; waiting = w; history = h; posted = s.posted; next = n; theory = x; table = y }

    plain : (w : List Entry) (h : List Firing) (n : ℕ) (x : A) (y : B) → Becomes s (state w h n x y) w h n
    plain w h n x y = record { book = refl; waiting = refl; history = refl; posted = refl; next = refl }

    waits : (w : List Entry) → Waits s (state w s.history s.next s.theory s.table) w
    waits w = record { becomes = plain w s.history s.next s.theory s.table; theory = refl; table = refl }

    fire : (rest : List Entry) (i j k h : ℕ) (tuple : List ℕ) → Turn T P s rest i j k h → FirstFit T P s k h i tuple → StepFrom
    fire rest i j k h tuple turn first_fit = full (dec_both (Bool-discrete (removes_nothing (rule_of s k)) true) (dec_le 512 (length s.history)))
      where
        space : (HistoryFull s (rule_of s k) → ⊥) → (meaning T s).made + (rule_of s k).fresh ≤ T.capacity → (512 < length (waiting_after T P s (rule_of s k) tuple rest i j h)) ⊎ (length (waiting_after T P s (rule_of s k) tuple rest i j h) ≤ 512) → StepFrom
        space nh small (inl l) = (sheet.full limit.Waiting, s, ref.full_waiting rest i j k h tuple turn first_fit nh small l)
        space nh small (inr l) = let x = decides.make s.theory (rule_of s k).fresh small in let y = decides.remove s.table (gone (rule_of s k) tuple) in (sheet.applied k tuple, state (waiting_after T P s (rule_of s k) tuple rest i j h) (history_after s k (rule_of s k) tuple) s.next x.0 y.0, ref.fires rest i j k h tuple turn first_fit nh small l x.1 y.1 (plain (waiting_after T P s (rule_of s k) tuple rest i j h) (history_after s k (rule_of s k) tuple) s.next x.0 y.0))

        vars : (HistoryFull s (rule_of s k) → ⊥) → (T.capacity < (meaning T s).made + (rule_of s k).fresh) ⊎ ((meaning T s).made + (rule_of s k).fresh ≤ T.capacity) → StepFrom
        vars nh (inl l) = (sheet.full limit.Variables, s, ref.full_variables rest i j k h tuple turn first_fit nh l)
        vars nh (inr l) = space nh l (cases_lt 512 (length (waiting_after T P s (rule_of s k) tuple rest i j h)))

        full : Dec (HistoryFull s (rule_of s k)) → StepFrom
        full (yes f) = (sheet.full limit.History, s, ref.full_history rest i j k h tuple turn first_fit f)
        full (no nh) = vars nh (cases_lt T.capacity ((meaning T s).made + (rule_of s k).fresh))

    try : Stands T s → (rest : List Entry) (i j : ℕ) → s.waiting ≡ active i j ∷ rest → (o : Option Record) → living P s i ≡ o → StepFrom
    try st rest i j top None e = (sheet.dropped i, _, ref.dead i j rest st top e (waits rest))
    try st rest i j top (Some r) e = go (dec_both (dec_le 1 j) (dec_le j (length (occurrences s.book r.symbol))))
      where
        k : ℕ
        k = (get_or (occurrences s.book r.symbol) (j - 1) (0, 0)).0

        h : ℕ
        h = (get_or (occurrences s.book r.symbol) (j - 1) (0, 0)).1

        pass : Turn T P s rest i j k h → ((tuple : List ℕ) × FirstFit T P s k h i tuple) ⊎ NoneFits T P s k h i → StepFrom
        pass turn (inl f) = fire rest i j k h f.0 turn f.1
        pass turn (inr n) = (sheet.passed i, _, ref.passes rest i j k h turn n (waits (active i (suc j) ∷ rest)))

        go : Dec ((1 ≤ j) × (j ≤ length (occurrences s.book r.symbol))) → StepFrom
        go (no n) = (sheet.dropped i, _, ref.over i j rest r st top e n (waits rest))
        go (yes l) = pass (record { stands = st; top = top; record_of = r; alive = e; occurs = (l.0, l.1, refl) }) (first_or_none T P decides.ask (below 1000001).0 s (λ x q z. (below 1000001).1 x (lives_low s x q z)) k h i (occurs_bounds s.book r.symbol j k h l.0 l.1 refl).2)

    rise : Stands T s → (rest : List Entry) (i : ℕ) → s.waiting ≡ wake i ∷ rest → (o : Option Record) → living P s i ≡ o → StepFrom
    rise st rest i top None e = (sheet.dropped i, _, ref.late i rest st top e (waits rest))
    rise st rest i top (Some r) e = (sheet.woken i, _, ref.rises i rest r st top e (waits (active i 1 ∷ rest)))

    decide : Stands T s → ((c : ℕ) (xs : List Operand) → goal (add c xs) ∈ s.waiting → s.next ≤ 1000000 → fit s.next (recorded c xs) ≡ true) → (w : List Entry) → s.waiting ≡ w → StepFrom
    decide st good [] e = (sheet.done, s, ref.ends st e)
    decide st good (goal (tell p) ∷ rest) e = go (some_wake s)
      where
        pick : (is : List ℕ) → Wakes (meaning T s) (living P s) is → (512 < length is + length rest) ⊎ (length is + length rest ≤ 512) → StepFrom
        pick is w (inl l) = (sheet.full limit.Waiting, s, ref.crowded p rest is st e w l)
        pick is w (inr l) = let y = decides.tell s.theory p in (sheet.told, state (map wake is ++ rest) s.history s.next y.0 s.table, ref.tells p rest is st e w l y.1 refl (plain (map wake is ++ rest) s.history s.next y.0 s.table))

        go : ((is : List ℕ) × Wakes (meaning T s) (living P s) is) → StepFrom
        go w = pick w.0 w.1 (cases_lt 512 (length w.0 + length rest))
    decide st good (goal (add c xs) ∷ rest) e = go (cases_lt 1000000 s.next) (cases_lt (size (P.records s.table)) P.limit)
      where
        go : (1000000 < s.next) ⊎ (s.next ≤ 1000000) → (size (P.records s.table) < P.limit) ⊎ (P.limit ≤ size (P.records s.table)) → StepFrom
        go (inl l) r = (sheet.full limit.Identifiers, s, ref.spent c xs rest st e l)
        go (inr l) (inr r) = (sheet.full limit.Table, s, ref.packed c xs rest st e l r)
        go (inr l) (inl r) = let y = decides.put s.table s.next (recorded c xs) (good c xs (subst (λ z. goal (add c xs) ∈ z) (sym e) here) l) r in (sheet.activated s.next, state (active s.next 1 ∷ rest) s.history (suc s.next) s.theory y.0, ref.activates c xs rest st e l r refl y.1 (plain (active s.next 1 ∷ rest) s.history (suc s.next) s.theory y.0))
    decide st good (wake i ∷ rest) e = rise st rest i e (living P s i) refl
    decide st good (active i j ∷ rest) e = try st rest i j e (living P s i) refl

pub some_step : {A B : Type 0} (T : Theory.Ghosts A) (P : PartnerTable.Ghosts B) → ((y : B) (i : ℕ) → All (λ r. fit i r ≡ true) (P.records y i)) → SomeStep T P
some_step T P fits decides s good = go (decides.failed s.theory)
  where
    go : Dec (Failed (meaning T s)) → (a : StepAnswer) × (t : Config _ _) × StepSays T P s a t
    go (yes f) = (sheet.failed, s, ref.fails f)
    go (no st) = decide T P decides fits s st good s.waiting refl
