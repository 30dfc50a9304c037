-- What the abstract machine has applied: the history is what still lives of it, and it does not apply again. Assumes nothing.
use Rattle.std.proofs.Common.{◌≡◌, ℕ, ◌<◌, Bool, true, false, not, ◌⊎◌, ◌↔◌, List, [], ◌∷◌, ◌++◌, length, is_some, Some, None, filter, Option, sym, refl, ap, ◌∙◌, subst, inl, inr, arith}
use Rattle.std.proofs.lemmas.Bool.{both_ways, not-true, not_from_false}
use Rattle.std.proofs.lemmas.Option.{none-some}
use Rattle.terms.specs.declared.Operand.{Operand}
use Rattle.rules.specs.Books.{Goal, Rule, Book, heads}
use Rattle.table.specs.Lists.{is_none}
use Rattle.table.specs.Records.{Record, recorded, symbol_of}
use Rattle.machine.specs.Lists.{◌∈◌, here, there}
use Rattle.machine.specs.Matching.{Store, Firing, Matches, rule_at, gone}
use Rattle.machine.specs.Refined.{removes_nothing, names_any}
use Rattle.machine.specs.Abstract.{State, added_after, applied_after, AllLive}
use Rattle.machine.proofs.Members.{mem_cases, mem_none, here_at, mem_left, mem_right, mem_append, mem_kept, mem_kept_back, mem_drop, names_none, names_none_of, all_mem, all_from}
use Rattle.machine.proofs.Stores.{matched_record, survivors, survivor, survives, perishes, adding, unadded}
use Rattle.machine.proofs.Slots.{parts_of}
use Rattle.machine.proofs.Cover.{firing, remembered}

-- the constraint lives
abbrev Alive : Store → ℕ → Type 0
Alive store i = is_some (store i) ≡ true

alive_record : (o : Option Record) → is_some o ≡ true → (r : Record) × (o ≡ Some r)
alive_record None e = absurd (both_ways false refl e)
alive_record (Some r) e = (r, refl)

alive_when : (store : Store) (i : ℕ) (r : Record) → store i ≡ Some r → Alive store i
alive_when store i r e = ap is_some e

matched_alive : (store : Store) (hs tuple : List ℕ) → Matches store hs tuple → AllLive store tuple
matched_alive store hs tuple m = all_from (Alive store) tuple (λ i k. let r = matched_record store hs tuple m k in alive_when store i r.0 r.1)

all_survive : (out : List ℕ) (store : Store) (tuple : List ℕ) → AllLive store tuple → ((i : ℕ) → i ∈ tuple → i ∈ out → ⊥) → AllLive (survivors out store) tuple
all_survive out store tuple a n = all_from (Alive (survivors out store)) tuple (λ i k. ap is_some (survives out store i (n i k)) ∙ all_mem (Alive store) a k)

before : (out : List ℕ) (store : Store) (i : ℕ) → Alive (survivors out store) i → (i ∈ out → ⊥) × Alive store i
before out store i a = let r = alive_record (survivors out store i) a in let q = survivor out store i r.0 r.1 in (q.0, alive_when store i r.0 q.1)

all_before : (out : List ℕ) (store : Store) (tuple : List ℕ) → AllLive (survivors out store) tuple → AllLive store tuple
all_before out store tuple a = all_from (Alive store) tuple (λ i k. (before out store i (all_mem (Alive (survivors out store)) a k)).1)

all_apart : (out : List ℕ) (store : Store) (tuple : List ℕ) → AllLive (survivors out store) tuple → (i : ℕ) → i ∈ tuple → i ∈ out → ⊥
all_apart out store tuple a i k = (before out store i (all_mem (Alive (survivors out store)) a k)).0

-- a rule that removes nothing leaves nobody out
nothing_gone : (store : Store) (r : Rule) (tuple : List ℕ) → Matches store (heads r) tuple → removes_nothing r ≡ true → (i : ℕ) → i ∈ gone r tuple → ⊥
nothing_gone store r tuple m e i k = let s = parts_of store r.kept r.removed tuple m in go r.removed e s.back s.backs (subst (λ l. i ∈ l) s.back_is k)
  where
    go : (cs : List ℕ) → is_none cs ≡ true → (is : List ℕ) → Matches store cs is → i ∈ is → ⊥
    go [] q [] n z = mem_none z
    go [] q (j ∷ is) n z = n
    go (c ∷ cs) q is n z = both_ways false refl q

-- a rule that removes something removes a living constraint
someone_gone : (store : Store) (r : Rule) (tuple : List ℕ) → Matches store (heads r) tuple → removes_nothing r ≡ false → (i : ℕ) × (i ∈ gone r tuple) × ((store i ≡ None) → ⊥)
someone_gone store r tuple m e = let s = parts_of store r.kept r.removed tuple m in let g = go r.removed e s.back s.backs in (g.0, subst (λ l. g.0 ∈ l) (sym s.back_is) g.1, g.2)
  where
    go : (cs : List ℕ) → is_none cs ≡ false → (is : List ℕ) → Matches store cs is → (i : ℕ) × (i ∈ is) × ((store i ≡ None) → ⊥)
    go [] q is n = absurd (both_ways true q refl)
    go (c ∷ cs) q [] n = absurd n
    go (c ∷ cs) q (j ∷ is) n = (j, here, λ z. none-some _ (sym (ap symbol_of z) ∙ n.0))

module _ (book : Book) where
  -- the history holds the applied tuples that still live, of rules that remove nothing
  abbrev pub Remembers : List Firing → List Firing → Store → Type 0
  Remembers hist applied store = (k : ℕ) (tuple : List ℕ) → (firing k tuple ∈ hist) ↔ ((firing k tuple ∈ applied) × (removes_nothing (rule_at book k) ≡ true) × AllLive store tuple)

  -- what was applied named identifiers below next, and what it removed does not live
  pub record Past (a : State) : Type 0 where
    pub below : (k : ℕ) (tuple : List ℕ) → firing k tuple ∈ a.applied → (i : ℕ) → i ∈ tuple → i < a.next
    pub dead : (k : ℕ) (tuple : List ℕ) → firing k tuple ∈ a.applied → (i : ℕ) → i ∈ gone (rule_at book k) tuple → a.alive i ≡ None

  pub fired_remembers : (hist applied : List Firing) (store : Store) (k : ℕ) (tuple : List ℕ) → Matches store (heads (rule_at book k)) tuple → Remembers hist applied store → Remembers (remembered (removes_nothing (rule_at book k)) hist k tuple (gone (rule_at book k) tuple)) (firing k tuple ∷ applied) (survivors (gone (rule_at book k) tuple) store)
  fired_remembers hist applied store k tuple m f k' tuple' = go (removes_nothing (rule_at book k)) refl
    where
      out : List ℕ
      out = gone (rule_at book k) tuple

      New : Type 0
      New = (firing k' tuple' ∈ (firing k tuple ∷ applied)) × (removes_nothing (rule_at book k') ≡ true) × AllLive (survivors out store) tuple'

      quiet : removes_nothing (rule_at book k) ≡ true → (firing k' tuple' ∈ (hist ++ (firing k tuple ∷ []))) ↔ New
      quiet e = (λ z. to (mem_append hist z), from)
        where
          to : (firing k' tuple' ∈ hist) ⊎ (firing k' tuple' ∈ (firing k tuple ∷ [])) → New
          to (inl z) = let q = (f k' tuple').0 z in (there q.0, q.1, all_survive out store tuple' q.2 (λ i c g. nothing_gone store (rule_at book k) tuple m e i g))
          to (inr z) = one (mem_cases z)
            where
              one : (firing k' tuple' ≡ firing k tuple) ⊎ (firing k' tuple' ∈ []) → New
              one (inl q) = (here_at applied q, subst (λ (w : ℕ). removes_nothing (rule_at book w) ≡ true) (sym (ap (λ (w : Firing). w.0) q)) e, subst (λ (w : List ℕ). AllLive (survivors out store) w) (sym (ap (λ (w : Firing). w.1) q)) (all_survive out store tuple (matched_alive store (heads (rule_at book k)) tuple m) (λ i c g. nothing_gone store (rule_at book k) tuple m e i g)))
              one (inr q) = absurd (mem_none q)

          from : New → firing k' tuple' ∈ (hist ++ (firing k tuple ∷ []))
          from n = back (mem_cases n.0)
            where
              back : (firing k' tuple' ≡ firing k tuple) ⊎ (firing k' tuple' ∈ applied) → firing k' tuple' ∈ (hist ++ (firing k tuple ∷ []))
              back (inl q) = mem_right hist (here_at [] q)
              back (inr q) = mem_left (firing k tuple ∷ []) ((f k' tuple').1 (q, n.1, all_before out store tuple' n.2))

      loud : removes_nothing (rule_at book k) ≡ false → (firing k' tuple' ∈ filter (λ (w : Firing). not (names_any out w.1)) hist) ↔ New
      loud e = (to, from)
        where
          to : firing k' tuple' ∈ filter (λ (w : Firing). not (names_any out w.1)) hist → New
          to z = let y = mem_kept_back (λ (w : Firing). not (names_any out w.1)) hist z in let q = (f k' tuple').0 y.0 in (there q.0, q.1, all_survive out store tuple' q.2 (λ i c g. names_none out tuple' (not-true (names_any out tuple') y.1) c g))

          from : New → firing k' tuple' ∈ filter (λ (w : Firing). not (names_any out w.1)) hist
          from n = back (mem_cases n.0)
            where
              back : (firing k' tuple' ≡ firing k tuple) ⊎ (firing k' tuple' ∈ applied) → firing k' tuple' ∈ filter (λ (w : Firing). not (names_any out w.1)) hist
              back (inl q) = absurd (both_ways (removes_nothing (rule_at book k)) e (subst (λ (w : ℕ). removes_nothing (rule_at book w) ≡ true) (ap (λ (w : Firing). w.0) q) n.1))
              back (inr q) = mem_kept (λ (w : Firing). not (names_any out w.1)) ((f k' tuple').1 (q, n.1, all_before out store tuple' n.2)) (not_from_false (names_any out tuple') (names_none_of out tuple' (all_apart out store tuple' n.2)))

      go : (b : Bool) → removes_nothing (rule_at book k) ≡ b → (firing k' tuple' ∈ remembered b hist k tuple out) ↔ New
      go true e = quiet e
      go false e = loud e

  pub added_remembers : (hist applied : List Firing) (store : Store) (n : ℕ) (r : Record) → ((k : ℕ) (tuple : List ℕ) → firing k tuple ∈ applied → (i : ℕ) → i ∈ tuple → i < n) → Remembers hist applied store → Remembers hist applied (adding n r store)
  added_remembers hist applied store n r below f k tuple = (λ z. let q = (f k tuple).0 z in (q.0, q.1, all_from (Alive (adding n r store)) tuple (λ i c. ap is_some (other q.0 i c) ∙ all_mem (Alive store) q.2 c)), λ y. (f k tuple).1 (y.0, y.1, all_from (Alive store) tuple (λ i c. ap is_some (sym (other y.0 i c)) ∙ all_mem (Alive (adding n r store)) y.2 c)))
    where
      other : firing k tuple ∈ applied → (i : ℕ) → i ∈ tuple → adding n r store i ≡ store i
      other p i c = unadded n r store i (λ e. omega (arith, e, below k tuple p i c))

  -- what was applied before does not fit again
  pub never_again : (hist : List Firing) (a : State) (k : ℕ) (tuple : List ℕ) → Past a → Remembers hist a.applied a.alive → Matches a.alive (heads (rule_at book k)) tuple → ((removes_nothing (rule_at book k) ≡ true) × (firing k tuple ∈ hist) → ⊥) → firing k tuple ∈ a.applied → ⊥
  never_again hist a k tuple past f m new z = go (removes_nothing (rule_at book k)) refl
    where
      go : (b : Bool) → removes_nothing (rule_at book k) ≡ b → ⊥
      go true e = new (e, (f k tuple).1 (z, e, matched_alive a.alive (heads (rule_at book k)) tuple m))
      go false e = let g = someone_gone a.alive (rule_at book k) tuple m e in g.2 (past.dead k tuple z g.0 g.1)

  pub fired_past : (a : State) (k : ℕ) (tuple : List ℕ) → ((i : ℕ) (r : Record) → a.alive i ≡ Some r → i < a.next) → Matches a.alive (heads (rule_at book k)) tuple → Past a → Past (applied_after book a k tuple)
  fired_past a k tuple below m past = record { below = λ k' t z i c. low k' t (mem_cases z) i c; dead = λ k' t z i c. out k' t (mem_cases z) i c }
    where
      low : (k' : ℕ) (t : List ℕ) → (firing k' t ≡ firing k tuple) ⊎ (firing k' t ∈ a.applied) → (i : ℕ) → i ∈ t → i < a.next
      low k' t (inr z) i c = past.below k' t z i c
      low k' t (inl q) i c = let r = matched_record a.alive (heads (rule_at book k)) tuple m (subst (λ (w : List ℕ). i ∈ w) (ap (λ (w : Firing). w.1) q) c) in below i r.0 r.1

      none : (i : ℕ) → a.alive i ≡ None → survivors (gone (rule_at book k) tuple) a.alive i ≡ None
      none i e = go (survivors (gone (rule_at book k) tuple) a.alive i) refl
        where
          go : (o : Option Record) → survivors (gone (rule_at book k) tuple) a.alive i ≡ o → o ≡ None
          go None q = refl
          go (Some r) q = absurd (none-some _ (sym e ∙ (survivor (gone (rule_at book k) tuple) a.alive i r q).1))

      out : (k' : ℕ) (t : List ℕ) → (firing k' t ≡ firing k tuple) ⊎ (firing k' t ∈ a.applied) → (i : ℕ) → i ∈ gone (rule_at book k') t → survivors (gone (rule_at book k) tuple) a.alive i ≡ None
      out k' t (inr z) i c = none i (past.dead k' t z i c)
      out k' t (inl q) i c = perishes (gone (rule_at book k) tuple) a.alive i (subst (λ (w : Firing). i ∈ gone (rule_at book w.0) w.1) q c)

  pub added_past : (a : State) (others : List (Goal Operand)) (c : ℕ) (xs : List Operand) → Past a → Past (added_after a others c xs)
  added_past a others c xs past = record { below = λ k t z i m. omega (arith, past.below k t z i m); dead = λ k t z i m. let l = past.below k t z i (mem_drop (length (rule_at book k).kept) t m) in unadded a.next (recorded c xs) a.alive i (λ e. omega (arith, l)) ∙ past.dead k t z i m }
