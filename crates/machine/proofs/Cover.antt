-- Coverage: a rule that applies to a tuple has it in the history, or something waits that will try it. Assumes nothing.
use Rattle.std.proofs.Common.{◌≡◌, ℕ, suc, ◌-◌, ◌<◌, ◌≤◌, Bool, true, false, cond, not, ltb, ◌⊎◌, ◌↔◌, List, [], ◌∷◌, ◌++◌, map, length, get_or, Some, None, filter, sym, refl, ap, ◌∙◌, subst, inl, inr, arith}
use mathlib.Core.HLevel.{Discrete, ×_discrete}
use mathlib.Core.List.{List-discrete}
use native.Mathlib.Decide.{ℕ_discrete}
use Rattle.std.proofs.lemmas.Bool.{both_ways, cases_eq, cases_Bool, ltb-false, not_from_false}
use Rattle.std.proofs.lemmas.Option.{none-some, same_Some}
use Rattle.terms.specs.declared.Operand.{Operand}
use Rattle.terms.specs.Domains.{Domain, Valuation}
use Rattle.rules.specs.Books.{Goal, Book, heads}
use Rattle.theory.specs.Meanings.{Meaning, Known, Failed}
use Rattle.table.specs.Records.{Record, symbol_of}
use Rattle.machine.specs.Lists.{◌∈◌, here, there}
use Rattle.machine.specs.Matching.{Store, Firing, Matches, Applies, rule_at, head_slot, gone}
use Rattle.machine.specs.Occurrences.{occurrences}
use Rattle.machine.specs.Sheets.{Entry, goal, wake, active}
use Rattle.machine.specs.Refined.{removes_nothing, names_any, Wakes}
use Rattle.machine.proofs.Members.{mem_cases, mem_none, mem_left, mem_right, mem_map, mem_kept, mem_dec, mem_place, get_or_mem, get_or_in_drop, names_none_of}
use Rattle.machine.proofs.Places.{occurs_somewhere, place}
use Rattle.machine.proofs.Unique.{matches_length}
use Rattle.machine.proofs.Stores.{Agrees, matched_record, matches_at, survivors, survivor, survivors_agree, adding, unadded}
use Rattle.machine.proofs.Guards.{fixed_before, kept_before, applies_before}

-- the occurrence j of the symbol is the head h of the rule k
abbrev pub Occurrence : Book → ℕ → ℕ → ℕ → ℕ → Type 0
Occurrence book s j k h = (1 ≤ j) × (j ≤ length (occurrences book s)) × (get_or (occurrences book s) (j - 1) (0, 0) ≡ (k, h))

abbrev pub firing : ℕ → List ℕ → Firing
firing k tuple = (k, tuple)

-- the tuple is in the history; or one of its constraints is woken, or is active at an occurrence that is no later than its own
pub data Covered (book : Book) (w : List Entry) (hist : List Firing) (k : ℕ) (tuple : List ℕ) : Type 0 where
  in_history : removes_nothing (rule_at book k) ≡ true → firing k tuple ∈ hist → Covered book w hist k tuple
  by_wake : (i : ℕ) → i ∈ tuple → wake i ∈ w → Covered book w hist k tuple
  by_active : (i j l h : ℕ) → h < length tuple → get_or tuple h 0 ≡ i → active i j ∈ w → 1 ≤ j → j ≤ l → Occurrence book (get_or (heads (rule_at book k)) h 0) l k h → Covered book w hist k tuple

-- every tuple that a rule applies to is covered, while the theory stands
abbrev pub Covers : {d : Domain} → Book → Meaning d → List Entry → List Firing → Store → Type 0
Covers book m w hist store = (Failed m → ⊥) → (k : ℕ) (tuple : List ℕ) → 1 ≤ k → k ≤ length book.rules → Applies m book.arities store (rule_at book k) tuple → Covered book w hist k tuple

firing_discrete : Discrete Firing
firing_discrete = ×_discrete ℕ_discrete (List-discrete ℕ_discrete)

pub goal_wake : {g : Goal Operand} {i : ℕ} → wake i ≡ goal g → ⊥
goal_wake {g} {i} e = let z : ◌≡◌ {A = ℕ} 0 1 = cc in omega arith

pub goal_active : {g : Goal Operand} {i j : ℕ} → active i j ≡ goal g → ⊥
goal_active e = let z : ◌≡◌ {A = ℕ} 0 1 = cc in omega arith

active_wake : {i j k : ℕ} → active i j ≡ wake k → ⊥
active_wake e = let z : ◌≡◌ {A = ℕ} 0 1 = cc in omega arith

wake_active : {i j k : ℕ} → wake k ≡ active i j → ⊥
wake_active e = let z : ◌≡◌ {A = ℕ} 0 1 = cc in omega arith

-- the history after a rule was applied
abbrev pub remembered : Bool → List Firing → ℕ → List ℕ → List ℕ → List Firing
remembered b hist k tuple out = cond b (hist ++ (firing k tuple ∷ [])) (filter (λ f. not (names_any out f.1)) hist)

-- a tuple shares an element with a list, or none
shares : (xs is : List ℕ) → ((i : ℕ) × (i ∈ xs) × (i ∈ is)) ⊎ ((i : ℕ) → i ∈ xs → i ∈ is → ⊥)
shares [] is = inr (λ i m n. mem_none m)
shares (x ∷ xs) is = go (mem_dec ℕ_discrete x is) (shares xs is)
  where
    neither : (x ∈ is → ⊥) → ((i : ℕ) → i ∈ xs → i ∈ is → ⊥) → (i : ℕ) → (i ≡ x) ⊎ (i ∈ xs) → i ∈ is → ⊥
    neither n f i (inl e) m = n (subst (λ z. z ∈ is) e m)
    neither n f i (inr k) m = f i k m

    go : (x ∈ is) ⊎ (x ∈ is → ⊥) → ((i : ℕ) × (i ∈ xs) × (i ∈ is)) ⊎ ((i : ℕ) → i ∈ xs → i ∈ is → ⊥) → ((i : ℕ) × (i ∈ (x ∷ xs)) × (i ∈ is)) ⊎ ((i : ℕ) → i ∈ (x ∷ xs) → i ∈ is → ⊥)
    go (inl m) r = inl (x, here, m)
    go (inr n) (inl r) = inl (r.0, there r.1, r.2)
    go (inr n) (inr f) = inr (λ i m. neither n f i (mem_cases m))

module _ (book : Book) where
  -- the top entry goes, and what waits below it still does
  covered_top : (e : Entry) (rest w : List Entry) (hist : List Firing) (k : ℕ) (tuple : List ℕ) → ((x : Entry) → x ∈ rest → x ∈ w) → ((i : ℕ) → i ∈ tuple → wake i ≡ e → Covered book w hist k tuple) → ((i j l h : ℕ) → h < length tuple → get_or tuple h 0 ≡ i → active i j ≡ e → 1 ≤ j → j ≤ l → Occurrence book (get_or (heads (rule_at book k)) h 0) l k h → Covered book w hist k tuple) → Covered book (e ∷ rest) hist k tuple → Covered book w hist k tuple
  covered_top e rest w hist k tuple sub f g (in_history q m) = in_history q m
  covered_top e rest w hist k tuple sub f g (by_wake i a m) = go (mem_cases m)
    where
      go : (wake i ≡ e) ⊎ (wake i ∈ rest) → Covered book w hist k tuple
      go (inl q) = f i a q
      go (inr n) = by_wake i a (sub (wake i) n)
  covered_top e rest w hist k tuple sub f g (by_active i j l h a b m p c o) = go (mem_cases m)
    where
      go : (active i j ≡ e) ⊎ (active i j ∈ rest) → Covered book w hist k tuple
      go (inl q) = g i j l h a b q p c o
      go (inr n) = by_active i j l h a b (sub (active i j) n) p c o

  -- a goal on top covers nothing
  covered_goal : (g : Goal Operand) (rest w : List Entry) (hist : List Firing) (k : ℕ) (tuple : List ℕ) → ((x : Entry) → x ∈ rest → x ∈ w) → Covered book (goal g ∷ rest) hist k tuple → Covered book w hist k tuple
  covered_goal g rest w hist k tuple sub c = covered_top (goal g) rest w hist k tuple sub (λ i a e. absurd (goal_wake e)) (λ i j l h a b e p c o. absurd (goal_active e)) c

  -- more may wait, and more may stand in the history
  covered_more : (v w : List Entry) (hist hist' : List Firing) (k : ℕ) (tuple : List ℕ) → ((x : Entry) → x ∈ v → x ∈ w) → (firing k tuple ∈ hist → firing k tuple ∈ hist') → Covered book v hist k tuple → Covered book w hist' k tuple
  covered_more v w hist hist' k tuple sub f (in_history q m) = in_history q (f m)
  covered_more v w hist hist' k tuple sub f (by_wake i a m) = by_wake i a (sub (wake i) m)
  covered_more v w hist hist' k tuple sub f (by_active i j l h a b m p c o) = by_active i j l h a b (sub (active i j) m) p c o

  -- an active constraint at its first occurrence covers each tuple that it stands in
  covered_active : (store : Store) (w : List Entry) (hist : List Firing) (k : ℕ) (tuple : List ℕ) (i : ℕ) → 1 ≤ k → k ≤ length book.rules → Matches store (heads (rule_at book k)) tuple → i ∈ tuple → active i 1 ∈ w → Covered book w hist k tuple
  covered_active store w hist k tuple i a b m n x = let p = mem_place 0 n in let l : p.0 < length (heads (rule_at book k)) = subst (λ z. p.0 < z) (matches_length store (heads (rule_at book k)) tuple m) p.1 in let o = occurs_somewhere book k p.0 a b l in by_active i 1 o.0 p.0 p.1 p.2 x (omega arith) o.1 (o.1, o.2, o.3)

  -- the symbol at the tuple's place h is that of the constraint there
  symbol_there : (store : Store) (hs tuple : List ℕ) → Matches store hs tuple → (h i : ℕ) → h < length tuple → get_or tuple h 0 ≡ i → (r : Record) → store i ≡ Some r → get_or hs h 0 ≡ r.symbol
  symbol_there store hs tuple m h i l g r e = same_Some _ _ (sym (matches_at store hs tuple m h l) ∙ ap (λ x. symbol_of (store x)) g ∙ ap symbol_of e)

  module _ {d : Domain} where
    -- a telling wakes a constraint of the tuple, or all its variables were fixed before
    pub told_covers : (m n : Meaning d) (g : Goal Operand) (rest : List Entry) (is : List ℕ) (hist : List Firing) (store : Store) → Wakes m store is → n.made ≡ m.made → ((v : Valuation d) → n.admits v → m.admits v) → Covers book m (goal g ∷ rest) hist store → Covers book n (map wake is ++ rest) hist store
    told_covers m n g rest is hist store w e sub cov stands k tuple a b ap = go (shares tuple is)
      where
        go : ((i : ℕ) × (i ∈ tuple) × (i ∈ is)) ⊎ ((i : ℕ) → i ∈ tuple → i ∈ is → ⊥) → Covered book (map wake is ++ rest) hist k tuple
        go (inl c) = by_wake c.0 c.1 (mem_left rest (mem_map wake c.2))
        go (inr f) = covered_goal g rest (map wake is ++ rest) hist k tuple (λ x y. mem_right (map wake is) y) (cov (λ fm. stands (λ v av. fm v (sub v av))) k tuple a b (applies_before d m n book.arities store store (rule_at book k) tuple (λ i c r q. q) (fixed_before d m n book.arities store (heads (rule_at book k)) tuple e sub stands (λ i c. w.others i (f i c))) ap))

    -- an active constraint that no tuple fits at its occurrence goes on to the next
    pub passed_covers : (m : Meaning d) (rest : List Entry) (i j k h : ℕ) (hist : List Firing) (store : Store) (r : Record) → store i ≡ Some r → get_or (occurrences book r.symbol) (j - 1) (0, 0) ≡ (k, h) → ((tuple : List ℕ) → Applies m book.arities store (rule_at book k) tuple → get_or tuple h 0 ≡ i → ((removes_nothing (rule_at book k) ≡ true) × (firing k tuple ∈ hist) → ⊥) → ⊥) → Covers book m (active i j ∷ rest) hist store → Covers book m (active i (suc j) ∷ rest) hist store
    passed_covers m rest i j k h hist store r alive occ none cov stands k' tuple a b ap = covered_top (active i j) rest (active i (suc j) ∷ rest) hist k' tuple (λ x y. there y) (λ i' c e. absurd (wake_active e)) at_active (cov stands k' tuple a b ap)
      where
        -- the same occurrence: it fits nothing, so it stands in the history
        same : (h' : ℕ) → get_or tuple h' 0 ≡ i → k ≡ k' → h ≡ h' → Covered book (active i (suc j) ∷ rest) hist k' tuple
        same h' g ek eh = pickup (cases_Bool (removes_nothing (rule_at book k'))) (mem_dec firing_discrete (k', tuple) hist)
          where
            refute : ((removes_nothing (rule_at book k') ≡ true) × (firing k' tuple ∈ hist) → ⊥) → ⊥
            refute n = subst (λ (z : ℕ). Applies m book.arities store (rule_at book z) tuple → ((removes_nothing (rule_at book z) ≡ true) × (firing z tuple ∈ hist) → ⊥) → ⊥) ek (λ y z. none tuple y (subst (λ (q : ℕ). get_or tuple q 0 ≡ i) (sym eh) g) z) ap n

            pickup : (removes_nothing (rule_at book k') ≡ true) ⊎ (removes_nothing (rule_at book k') ≡ false) → (firing k' tuple ∈ hist) ⊎ (firing k' tuple ∈ hist → ⊥) → Covered book (active i (suc j) ∷ rest) hist k' tuple
            pickup (inl t) (inl z) = in_history t z
            pickup (inl t) (inr n) = absurd (refute (λ z. n z.1))
            pickup (inr f) c = absurd (refute (λ z. both_ways (removes_nothing (rule_at book k')) f z.0))

        later : (l h' : ℕ) → h' < length tuple → get_or tuple h' 0 ≡ i → j ≤ l → Occurrence book (get_or (heads (rule_at book k')) h' 0) l k' h' → (j ≡ l) ⊎ (j ≡ l → ⊥) → Covered book (active i (suc j) ∷ rest) hist k' tuple
        later l h' c g q o (inr n) = by_active i (suc j) l h' c g here (omega arith) (omega arith) o
        later l h' c g q o (inl e) = same h' g (mathlib.Core.Path.ap (λ (p : ℕ × ℕ). p.0) z) (mathlib.Core.Path.ap (λ (p : ℕ × ℕ). p.1) z)
          where
            z : place k h ≡ place k' h'
            z = sym occ ∙ subst (λ y. get_or (occurrences book y) (j - 1) (0, 0) ≡ (k', h')) (symbol_there store (heads (rule_at book k')) tuple ap.matches h' i c g r alive) (subst (λ y. get_or (occurrences book (get_or (heads (rule_at book k')) h' 0)) (y - 1) (0, 0) ≡ (k', h')) (sym e) o.2)

        at_active : (i' j' l h' : ℕ) → h' < length tuple → get_or tuple h' 0 ≡ i' → active i' j' ≡ active i j → 1 ≤ j' → j' ≤ l → Occurrence book (get_or (heads (rule_at book k')) h' 0) l k' h' → Covered book (active i (suc j) ∷ rest) hist k' tuple
        at_active i' j' l h' c g e p q o = let ei : i' ≡ i = cc in let ej : j' ≡ j = cc in later l h' c (g ∙ ei) (subst (λ z. z ≤ l) ej q) o (cases_eq j l)

    -- more variables are made and no valuation is lost
    pub made_covers : (m n : Meaning d) (w : List Entry) (hist : List Firing) (store : Store) → ((v : Valuation d) → n.admits v ↔ m.admits v) → ((hs is : List ℕ) (k : ℕ) → Known m.made (head_slot book.arities store hs is k)) → Covers book m w hist store → Covers book n w hist store
    made_covers m n w hist store same known cov stands k tuple a b ap = cov (λ fm. stands (λ v av. fm v ((same v).0 av))) k tuple a b (applies_before d m n book.arities store store (rule_at book k) tuple (λ i c r q. q) (kept_before d m n (head_slot book.arities store (heads (rule_at book k)) tuple) (λ v av. (same v).1 av) (known (heads (rule_at book k)) tuple)) ap)

    pub more_covers : (m : Meaning d) (v w : List Entry) (hist : List Firing) (store : Store) → ((x : Entry) → x ∈ v → x ∈ w) → Covers book m v hist store → Covers book m w hist store
    more_covers m v w hist store sub cov stands k tuple a b ap = covered_more v w hist hist k tuple sub (λ z. z) (cov stands k tuple a b ap)

    pub risen_covers : (m : Meaning d) (i : ℕ) (rest : List Entry) (hist : List Firing) (store : Store) → Covers book m (wake i ∷ rest) hist store → Covers book m (active i 1 ∷ rest) hist store
    risen_covers m i rest hist store cov stands k tuple a b ap = covered_top (wake i) rest (active i 1 ∷ rest) hist k tuple (λ x y. there y) (λ j c e. let q : j ≡ i = cc in covered_active store (active i 1 ∷ rest) hist k tuple i a b ap.matches (subst (λ z. z ∈ tuple) q c) here) (λ i' j l h c g e p o z. absurd (active_wake e)) (cov stands k tuple a b ap)

    -- a constraint that does not live covers nothing
    pub late_covers : (m : Meaning d) (i : ℕ) (rest : List Entry) (hist : List Firing) (store : Store) → store i ≡ None → Covers book m (wake i ∷ rest) hist store → Covers book m rest hist store
    late_covers m i rest hist store none cov stands k tuple a b ap = covered_top (wake i) rest rest hist k tuple (λ x y. y) (λ j c e. let q : j ≡ i = cc in let r = matched_record store (heads (rule_at book k)) tuple ap.matches c in absurd (none-some _ (sym none ∙ mathlib.Core.Path.ap store (sym q) ∙ r.1))) (λ i' j l h c g e p o z. absurd (active_wake e)) (cov stands k tuple a b ap)

    pub dead_covers : (m : Meaning d) (i j : ℕ) (rest : List Entry) (hist : List Firing) (store : Store) → store i ≡ None → Covers book m (active i j ∷ rest) hist store → Covers book m rest hist store
    dead_covers m i j rest hist store none cov stands k tuple a b ap = covered_top (active i j) rest rest hist k tuple (λ x y. y) (λ i' c e. absurd (wake_active e)) (λ i' j' l h c g e p o z. let q : i' ≡ i = cc in let r = matched_record store (heads (rule_at book k)) tuple ap.matches (get_or_mem tuple h 0 c) in absurd (none-some _ (sym none ∙ mathlib.Core.Path.ap store (sym (g ∙ q)) ∙ r.1))) (cov stands k tuple a b ap)

    -- nor does one beyond its occurrences
    pub over_covers : (m : Meaning d) (i j : ℕ) (rest : List Entry) (hist : List Firing) (store : Store) (r : Record) → store i ≡ Some r → ((1 ≤ j) × (j ≤ length (occurrences book r.symbol)) → ⊥) → Covers book m (active i j ∷ rest) hist store → Covers book m rest hist store
    over_covers m i j rest hist store r found far cov stands k tuple a b ap = covered_top (active i j) rest rest hist k tuple (λ x y. y) (λ i' c e. absurd (wake_active e)) none_left (cov stands k tuple a b ap)
      where
        none_left : (i' j' l h : ℕ) → h < length tuple → get_or tuple h 0 ≡ i' → active i' j' ≡ active i j → 1 ≤ j' → j' ≤ l → Occurrence book (get_or (heads (rule_at book k)) h 0) l k h → Covered book rest hist k tuple
        none_left i' j' l h c g e p o z = let q : i' ≡ i = cc in let q2 : j' ≡ j = cc in let t : l ≤ length (occurrences book r.symbol) = subst (λ x. l ≤ length (occurrences book x)) (symbol_there store (heads (rule_at book k)) tuple ap.matches h i c (g ∙ q) r found) z.1 in absurd (far (omega arith, omega arith))

    -- a new constraint is active, and covers each tuple that it stands in
    pub added_covers : (m : Meaning d) (g : Goal Operand) (rest : List Entry) (hist : List Firing) (store : Store) (n : ℕ) (r : Record) → Covers book m (goal g ∷ rest) hist store → Covers book m (active n 1 ∷ rest) hist (adding n r store)
    added_covers m g rest hist store n r cov stands k tuple a b ap = go (mem_dec ℕ_discrete n tuple)
      where
        old : (n ∈ tuple → ⊥) → Agrees (adding n r store) store tuple
        old f i c x e = sym (unadded n r store i (λ q. f (subst (λ z. z ∈ tuple) (sym q) c))) ∙ e

        go : (n ∈ tuple) ⊎ (n ∈ tuple → ⊥) → Covered book (active n 1 ∷ rest) hist k tuple
        go (inl c) = covered_active (adding n r store) (active n 1 ∷ rest) hist k tuple n a b ap.matches c here
        go (inr f) = covered_goal g rest (active n 1 ∷ rest) hist k tuple (λ x y. there y) (cov stands k tuple a b (applies_before d m m book.arities (adding n r store) store (rule_at book k) tuple (old f) (λ p z. z) ap))

    -- after a rule was applied, what it left is covered as before
    pub fired_covers : (m n : Meaning d) (body rest : List Entry) (hist : List Firing) (store : Store) (i j k h : ℕ) (tuple : List ℕ) → ((v : Valuation d) → n.admits v ↔ m.admits v) → ((hs is : List ℕ) (x : ℕ) → Known m.made (head_slot book.arities (survivors (gone (rule_at book k) tuple) store) hs is x)) → h < length tuple → get_or tuple h 0 ≡ i → Covers book m (active i j ∷ rest) hist store → Covers book n (body ++ cond (ltb h (length (rule_at book k).kept)) (active i j ∷ rest) rest) (remembered (removes_nothing (rule_at book k)) hist k tuple (gone (rule_at book k) tuple)) (survivors (gone (rule_at book k) tuple) store)
    fired_covers m n body rest hist store i j k h tuple same known lh at cov stands k' tuple' a b ap = last (ltb h (length (rule_at book k).kept)) refl
      where
        out : List ℕ
        out = gone (rule_at book k) tuple

        left : Store
        left = survivors out store

        hist' : List Firing
        hist' = remembered (removes_nothing (rule_at book k)) hist k tuple out

        before : Applies m book.arities store (rule_at book k') tuple'
        before = applies_before d m n book.arities left store (rule_at book k') tuple' (survivors_agree out store tuple') (kept_before d m n (head_slot book.arities left (heads (rule_at book k')) tuple') (λ v av. (same v).1 av) (known (heads (rule_at book k')) tuple')) ap

        lives : (x : ℕ) → x ∈ tuple' → x ∈ out → ⊥
        lives x c g = let r = matched_record left (heads (rule_at book k')) tuple' ap.matches c in (survivor out store x r.0 r.1).0 g

        keeps : (c : Bool) → firing k' tuple' ∈ hist → firing k' tuple' ∈ remembered c hist k tuple out
        keeps true z = mem_left (firing k tuple ∷ []) z
        keeps false z = mem_kept (λ (f : Firing). not (names_any out f.1)) z (not_from_false (names_any out tuple') (names_none_of out tuple' lives))

        had : Covered book (active i j ∷ rest) hist' k' tuple'
        had = covered_more (active i j ∷ rest) (active i j ∷ rest) hist hist' k' tuple' (λ x y. y) (keeps (removes_nothing (rule_at book k))) (cov (λ fm. stands (λ v av. fm v ((same v).0 av))) k' tuple' a b before)

        last : (c : Bool) → ltb h (length (rule_at book k).kept) ≡ c → Covered book (body ++ cond c (active i j ∷ rest) rest) hist' k' tuple'
        last true q = covered_more (active i j ∷ rest) (body ++ (active i j ∷ rest)) _ _ k' tuple' (λ x y. mem_right body y) (λ z. z) had
        last false q = covered_top (active i j) rest (body ++ rest) _ k' tuple' (λ x y. mem_right body y) (λ i' c e. absurd (wake_active e)) (λ i' j' l h' c g e p o z. let w : i' ≡ i = cc in absurd (lives i (subst (λ x. x ∈ tuple') (g ∙ w) (get_or_mem tuple' h' 0 c)) (subst (λ x. x ∈ out) at (get_or_in_drop (length (rule_at book k).kept) h tuple 0 (ltb-false h (length (rule_at book k).kept) q) lh)))) had
