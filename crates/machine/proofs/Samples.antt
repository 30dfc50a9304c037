-- The runs on two small rule files. Assumes nothing.
use Rattle.std.proofs.Common.{◌≡◌, ℕ, zero, suc, ◌+◌, ◌<◌, ◌≤◌, false, ◌⊎◌, List, [], ◌∷◌, ◌++◌, length, get_or, Some, sym, refl, ap, ◌∙◌, subst, inl, inr, arith, lit≤}
use Rattle.std.proofs.lemmas.Bool.{cases_eq, both_ways}
use Rattle.std.proofs.lemmas.Option.{none-some}
use Rattle.rules.specs.Books.{add}
use Rattle.theory.specs.declared.interface.Theory as Theory
use Rattle.theory.specs.Meanings.{Meaning}
use Rattle.table.specs.declared.partner.PartnerTable as PartnerTable
use Rattle.table.specs.Lists.{first}
use Rattle.table.specs.Records.{Record, recorded, symbol_of}
use Rattle.table.specs.Tables.{Table, nothing, size, with_record, without}
use Rattle.table.specs.TablesLemmas.{only, tally_none, size_both, size_only, with_other, with_both}
use Rattle.machine.specs.declared.answers.End.{End}
use Rattle.machine.specs.declared.answers.End.TheVariants as ended
use Rattle.machine.specs.Lists.{◌∈◌, here}
use Rattle.machine.specs.Matching.{Firing}
use Rattle.machine.specs.Sheets as sheet
use Rattle.machine.specs.Sheets.{Entry, goal, active, Config, StepAnswer, Event, stepped}
use Rattle.machine.specs.Refined as ref
use Rattle.machine.specs.Refined.{meaning, RunSays, Opened}
use Rattle.machine.specs.Samples.{kept_book, pair_book, silent, five_steps, six_steps, one_alone, two_gone, PostedA, Ends, SampleRuns}
use Rattle.machine.proofs.Members.{mem_none, mem_cases, here_at}
use Rattle.machine.proofs.Unique.{kept, made_some, Outcome, Fit}
use Rattle.machine.proofs.Known.{Is, run_is, run_rests, run_stops, opened_is, posted_is}

abbrev a : Record
a = recorded 0 []

abbrev b : Record
b = recorded 1 []

-- a under 1
abbrev with_a : Table
with_a = with_record nothing 1 a

size_a : size with_a ≡ 1
size_a = ap size (with_both nothing 1 a refl) ∙ size_both nothing (only 1 a) ∙ (let e = tally_none 1000000 in let f = size_only 1 a (lit≤ tt) (lit≤ tt) in omega arith)

-- a list of steps, one after the other
joined : (x : StepAnswer) (es more : List Event) {rest : List Event} → es ≡ stepped x [] ∷ more → more ≡ rest → es ≡ stepped x [] ∷ rest
joined x es more p q = p ∙ ap (λ z. stepped x [] ∷ z) q

module _ {A B : Type 0} (T : Theory.Ghosts A) (P : PartnerTable.Ghosts B) (room : 2 ≤ P.limit) where
  space : size nothing < P.limit
  space = let e = tally_none 1000000 in omega (arith, room)

  space_a : size with_a < P.limit
  space_a = let e = size_a in omega (arith, room)

  -- the rule "a kept, body b", applied once
  abbrev once : List Firing
  once = (1, 1 ∷ []) ∷ []

  abbrev with_b : Table
  with_b = with_record (without with_a []) 2 b

  none_again : (m : Meaning T.domain) (tuple : List ℕ) → Fit T.domain T.capacity P.limit kept_book (active 1 1 ∷ []) once 3 0 with_b m 1 0 1 tuple → ⊥
  none_again m [] f = f.0.matches
  none_again m (i ∷ []) f = f.2 (refl, subst (λ (j : ℕ). (1, j ∷ []) ∈ once) (sym f.1) here)
  none_again m (i ∷ (j ∷ is)) f = f.0.matches.1

  abbrev After : ℕ → List StepAnswer → Outcome → List Event → End → Config A B → Type 0
  After k steps o es e t = (v : Config A B) × (more : List Event) × ((rest : List StepAnswer) → more ≡ silent rest → es ≡ silent (steps ++ rest)) × RunSays T P k v more e t × Is T P kept_book o.1 o.2 o.3 o.5 v

  five : (k : ℕ) (s t : Config A B) (es : List Event) (e : End) → Is T P kept_book (goal (add 0 []) ∷ []) [] 1 nothing s → RunSays T P (suc (suc (suc (suc (suc k))))) s es e t → After k five_steps (sheet.passed 1, active 1 2 ∷ [], once, 3, kept, with_b) es e t
  five k s t es e i0 r0 =
      let x1 = run_is T P (suc (suc (suc (suc k)))) kept_book (goal (add 0 []) ∷ []) [] 1 nothing s t (sheet.activated 1, active 1 1 ∷ [], [], 2, kept, with_a) es e refl (λ z. refl) tt i0 (inr (lit≤ tt, inl (space, refl))) r0 in
      let x2 = run_is T P (suc (suc (suc k))) kept_book (active 1 1 ∷ []) [] 2 with_a x1.0 t (sheet.applied 1 (1 ∷ []), goal (add 1 []) ∷ (active 1 1 ∷ []), once, 2, made_some 0, without with_a []) x1.1 e refl (λ z. refl) refl x1.4 (inr (a, refl, inr ((lit≤ tt, lit≤ tt), (1, 0, refl, inr (1 ∷ [], ((record { matches = (refl, tt); distinct = (mem_none, tt); guarded = tt }, refl, λ z. mem_none z.1), λ other f. tt), inr (λ f. omega (arith, f.1), inr (omega arith, inr (lit≤ tt, refl)))))))) x1.3 in
      let x3 = run_is T P (suc (suc k)) kept_book (goal (add 1 []) ∷ (active 1 1 ∷ [])) once 2 (without with_a []) x2.0 t (sheet.activated 2, active 2 1 ∷ (active 1 1 ∷ []), once, 3, kept, with_b) x2.1 e refl (λ z. refl) tt x2.4 (inr (lit≤ tt, inl (space_a, refl))) x2.3 in
      let x4 = run_is T P (suc k) kept_book (active 2 1 ∷ (active 1 1 ∷ [])) once 3 with_b x3.0 t (sheet.dropped 2, active 1 1 ∷ [], once, 3, kept, with_b) x3.1 e refl (λ z. refl) tt x3.4 (inr (b, refl, inl (λ z. omega (arith, z.1), refl))) x3.3 in
      let x5 = run_is T P k kept_book (active 1 1 ∷ []) once 3 with_b x4.0 t (sheet.passed 1, active 1 2 ∷ [], once, 3, kept, with_b) x4.1 e refl (λ z. refl) tt x4.4 (inr (a, refl, inr ((lit≤ tt, lit≤ tt), (1, 0, refl, inl (none_again (meaning T x4.0), refl))))) x4.3 in
      (x5.0, x5.1, λ rest q. joined (sheet.activated 1) es x1.1 x1.2 (joined (sheet.applied 1 (1 ∷ [])) x1.1 x2.1 x2.2 (joined (sheet.activated 2) x2.1 x3.1 x3.2 (joined (sheet.dropped 2) x3.1 x4.1 x4.2 (joined (sheet.passed 1) x4.1 x5.1 x5.2 q)))), x5.3, x5.4)

  abbrev start : (s t : Config A B) → Opened T P kept_book s → PostedA T P s t → Is T P kept_book (goal (add 0 []) ∷ []) [] 1 nothing t
  start s t o p = posted_is T P kept_book [] [] 1 nothing s t (opened_is T P kept_book s o) p

  pub stopped : (s t : Config A B) → Opened T P kept_book s → PostedA T P s t → Ends T P t 5 ended.Stopped 5 five_steps
  stopped s t o p x es u (ref.at_run _ _ e r) =
      let y = five 0 t u es e (start s t o p) r in
      let z = run_stops T P kept_book (active 1 2) [] once 3 with_b y.0 u y.1 e y.4 y.3 in
      let q = y.2 [] z.1 in
      (λ i. sheet.by_run (z.0 i) (length (q i)), q)

  pub finished : (s t : Config A B) → Opened T P kept_book s → PostedA T P s t → (k : ℕ) → Ends T P t (6 + k) ended.Done 6 six_steps
  finished s t o p k x es u (ref.at_run _ _ e r) =
      let y = five (suc k) t u es e (start s t o p) (subst (λ (z : ℕ). RunSays T P z t es e u) (omega arith) r) in
      let x6 = run_is T P k kept_book (active 1 2 ∷ []) once 3 with_b y.0 u (sheet.dropped 1, [], once, 3, kept, with_b) y.1 e refl (λ z. refl) tt y.4 (inr (a, refl, inl (λ z. omega (arith, z.1), refl))) y.3 in
      let z = run_rests T P k kept_book once 3 with_b x6.0 u x6.1 e x6.4 x6.3 in
      let q = y.2 (sheet.dropped 1 ∷ []) (joined (sheet.dropped 1) y.1 x6.1 x6.2 z.1) in
      (λ i. sheet.by_run (z.0 i) (length (q i)), q)

  -- the rule "a and a removed": 1 is the only living constraint
  lone : (x : ℕ) → symbol_of (first (with_a x)) ≡ Some 0 → x ≡ 1
  lone x e = go (cases_eq 1 x)
    where
      go : (1 ≡ x) ⊎ (1 ≡ x → ⊥) → x ≡ 1
      go (inl q) = sym q
      go (inr n) = absurd (none-some _ (sym (ap (λ z. symbol_of (first z)) (with_other nothing 1 a x n)) ∙ e))

  none_alone : (w : List Entry) (m : Meaning T.domain) (h : ℕ) (tuple : List ℕ) → Fit T.domain T.capacity P.limit pair_book w [] 2 0 with_a m 1 h 1 tuple → ⊥
  none_alone w m h [] f = f.0.matches
  none_alone w m h (x ∷ []) f = f.0.matches.1
  none_alone w m h (x ∷ (y ∷ [])) f = f.0.distinct.0 (here_at [] (lone x f.0.matches.0 ∙ sym (lone y f.0.matches.1.0)))
  none_alone w m h (x ∷ (y ∷ (z ∷ zs))) f = f.0.matches.1.1

  abbrev Then : ℕ → List StepAnswer → List Entry → List Event → End → Config A B → Type 0
  Then k steps w es e t = (v : Config A B) × (more : List Event) × ((rest : List StepAnswer) → more ≡ silent rest → es ≡ silent (steps ++ rest)) × RunSays T P k v more e t × Is T P pair_book w [] 2 with_a v

  four : (k : ℕ) (w : List Entry) (s t : Config A B) (es : List Event) (e : End) → Is T P pair_book (goal (add 0 []) ∷ w) [] 1 nothing s → RunSays T P (suc (suc (suc (suc k)))) s es e t → Then k one_alone w es e t
  four k w s t es e i0 r0 =
      let x1 = run_is T P (suc (suc (suc k))) pair_book (goal (add 0 []) ∷ w) [] 1 nothing s t (sheet.activated 1, active 1 1 ∷ w, [], 2, kept, with_a) es e refl (λ z. refl) tt i0 (inr (lit≤ tt, inl (space, refl))) r0 in
      let x2 = run_is T P (suc (suc k)) pair_book (active 1 1 ∷ w) [] 2 with_a x1.0 t (sheet.passed 1, active 1 2 ∷ w, [], 2, kept, with_a) x1.1 e refl (λ z. refl) tt x1.4 (inr (a, refl, inr ((lit≤ tt, lit≤ tt), (1, 1, refl, inl (none_alone (active 1 1 ∷ w) (meaning T x1.0) 1, refl))))) x1.3 in
      let x3 = run_is T P (suc k) pair_book (active 1 2 ∷ w) [] 2 with_a x2.0 t (sheet.passed 1, active 1 3 ∷ w, [], 2, kept, with_a) x2.1 e refl (λ z. refl) tt x2.4 (inr (a, refl, inr ((lit≤ tt, lit≤ tt), (1, 0, refl, inl (none_alone (active 1 2 ∷ w) (meaning T x2.0) 0, refl))))) x2.3 in
      let x4 = run_is T P k pair_book (active 1 3 ∷ w) [] 2 with_a x3.0 t (sheet.dropped 1, w, [], 2, kept, with_a) x3.1 e refl (λ z. refl) tt x3.4 (inr (a, refl, inl (λ z. omega (arith, z.1), refl))) x3.3 in
      (x4.0, x4.1, λ rest q. joined (sheet.activated 1) es x1.1 x1.2 (joined (sheet.passed 1) x1.1 x2.1 x2.2 (joined (sheet.passed 1) x2.1 x3.1 x3.2 (joined (sheet.dropped 1) x3.1 x4.1 x4.2 q))), x4.3, x4.4)

  pub alone : (s t : Config A B) → Opened T P pair_book s → PostedA T P s t → (k : ℕ) → Ends T P t (4 + k) ended.Done 4 one_alone
  alone s t o p k x es u (ref.at_run _ _ e r) =
      let y = four k [] t u es e (posted_is T P pair_book [] [] 1 nothing s t (opened_is T P pair_book s o) p) (subst (λ (z : ℕ). RunSays T P z t es e u) (omega arith) r) in
      let z = run_rests T P k pair_book [] 2 with_a y.0 u y.1 e y.4 y.3 in
      let q = y.2 [] z.1 in
      (λ i. sheet.by_run (z.0 i) (length (q i)), q)

  -- two of them
  abbrev with_two : Table
  with_two = with_record with_a 2 a

  abbrev gone_both : Table
  gone_both = without with_two (1 ∷ (2 ∷ []))

  one_two : ◌∈◌ {A = ℕ} 1 (2 ∷ []) → ⊥
  one_two m = go (mem_cases m)
    where
      go : (◌≡◌ {A = ℕ} 1 2) ⊎ (◌∈◌ {A = ℕ} 1 []) → ⊥
      go (inl e) = omega arith
      go (inr n) = mem_none n

  from_one : (m : Meaning T.domain) (other : List ℕ) → Fit T.domain T.capacity P.limit pair_book (active 2 1 ∷ []) [] 3 0 with_two m 1 1 2 other → 1 ≤ get_or other 0 0
  from_one m [] f = absurd f.0.matches
  from_one m (zero ∷ xs) f = absurd (none-some _ f.0.matches.0)
  from_one m (suc x ∷ xs) f = omega arith

  pub pair : (s t u : Config A B) → Opened T P pair_book s → PostedA T P s t → PostedA T P t u → (k : ℕ) → Ends T P u (6 + k) ended.Done 6 two_gone
  pair s t u o p p' k x es v (ref.at_run _ _ e r) =
      let i0 = posted_is T P pair_book (goal (add 0 []) ∷ []) [] 1 nothing t u (posted_is T P pair_book [] [] 1 nothing s t (opened_is T P pair_book s o) p) p' in
      let y = four (suc (suc k)) (goal (add 0 []) ∷ []) u v es e i0 (subst (λ (z : ℕ). RunSays T P z u es e v) (omega arith) r) in
      let x5 = run_is T P (suc k) pair_book (goal (add 0 []) ∷ []) [] 2 with_a y.0 v (sheet.activated 2, active 2 1 ∷ [], [], 3, kept, with_two) y.1 e refl (λ z. refl) tt y.4 (inr (lit≤ tt, inl (space_a, refl))) y.3 in
      let x6 = run_is T P k pair_book (active 2 1 ∷ []) [] 3 with_two x5.0 v (sheet.applied 1 (1 ∷ (2 ∷ [])), [], [], 3, made_some 0, gone_both) x5.1 e refl (λ z. refl) refl x5.4 (inr (a, refl, inr ((lit≤ tt, lit≤ tt), (1, 1, refl, inr (1 ∷ (2 ∷ []), ((record { matches = (refl, (refl, tt)); distinct = (one_two, (mem_none, tt)); guarded = tt }, refl, λ z. both_ways false refl z.0), λ other f. (from_one (meaning T x5.0) other f, λ q. tt)), inr (λ f. both_ways false refl f.0, inr (omega arith, inr (lit≤ tt, refl)))))))) x5.3 in
      let z = run_rests T P k pair_book [] 3 gone_both x6.0 v x6.1 e x6.4 x6.3 in
      let q = y.2 (sheet.activated 2 ∷ (sheet.applied 1 (1 ∷ (2 ∷ [])) ∷ [])) (joined (sheet.activated 2) y.1 x5.1 x5.2 (joined (sheet.applied 1 (1 ∷ (2 ∷ []))) x5.1 x6.1 x6.2 z.1)) in
      (λ i. sheet.by_run (z.0 i) (length (q i)), q)

pub sample_runs : {A B : Type 0} (T : Theory.Ghosts A) (P : PartnerTable.Ghosts B) → SampleRuns T P
sample_runs T P = record { stopped = λ room. stopped T P room; finished = λ room. finished T P room; alone = λ room. alone T P room; pair = λ room. pair T P room }
