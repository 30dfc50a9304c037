-- Tuples that match, and what putting in and taking out leaves of what lives. Assumes nothing.
use Rattle.std.proofs.Common.{◌≡◌, ℕ, zero, suc, ◌-◌, ◌<◌, Bool, true, false, cond, eqb, ltb, ◌⊎◌, List, [], ◌∷◌, length, get_or, pos, Some, None, Option, sym, refl, ap, ◌∙◌, inl, inr, not-suc-le-zero, arith}
use Rattle.std.proofs.lemmas.Bool.{both_ways, eqb-true, eq-eqb, ne_eqb}
use Rattle.std.proofs.lemmas.Option.{none-some, same_Some}
use Rattle.terms.specs.declared.Operand.{Operand}
use Rattle.terms.specs.declared.Operand.TheVariants.{Value}
use Rattle.terms.specs.Lists.{All}
use Rattle.table.specs.declared.partner.PartnerTable as PartnerTable
use Rattle.table.specs.Lists.{is_none, first, memberb}
use Rattle.table.specs.Records.{Record, symbol_of}
use Rattle.table.specs.Tables.{with_record, without}
use Rattle.machine.specs.Lists.{◌∈◌, here, there}
use Rattle.machine.specs.Matching.{Store, Matches, head_slot, arguments_of}
use Rattle.machine.specs.Sheets.{Config}
use Rattle.machine.specs.Refined.{living}
use Rattle.machine.proofs.Members.{mem_cases, mem_none, all_get_d, memberb_of, memberb_not}

-- the record that a matched head names
pub named : (o : Option Record) (s : ℕ) → symbol_of o ≡ Some s → (r : Record) × (o ≡ Some r) × (r.symbol ≡ s)
named None s e = absurd (none-some _ e)
named (Some r) s e = (r, refl, same_Some _ _ e)

-- each constraint of a tuple that matches lives
pub matched_record : (store : Store) (hs is : List ℕ) → Matches store hs is → {i : ℕ} → i ∈ is → (r : Record) × (store i ≡ Some r)
matched_record store [] [] m k = absurd (mem_none k)
matched_record store [] (j ∷ is) m k = absurd m
matched_record store (h ∷ hs) [] m k = absurd m
matched_record store (h ∷ hs) (j ∷ is) m {i} k = go (λ n. matched_record store hs is m.1 n) (mem_cases k)
  where
    go : (i ∈ is → (r : Record) × (store i ≡ Some r)) → (i ≡ j) ⊎ (i ∈ is) → (r : Record) × (store i ≡ Some r)
    go ih (inl e) = let n = named (store j) h m.0 in (n.0, ap store e ∙ n.1)
    go ih (inr n) = ih n

pub matches_at : (store : Store) (hs is : List ℕ) → Matches store hs is → (n : ℕ) → n < length is → symbol_of (store (get_or is n 0)) ≡ Some (get_or hs n 0)
matches_at store [] [] m n l = absurd (not-suc-le-zero l)
matches_at store [] (i ∷ is) m n l = absurd m
matches_at store (h ∷ hs) [] m n l = absurd m
matches_at store (h ∷ hs) (i ∷ is) m zero l = m.0
matches_at store (h ∷ hs) (i ∷ is) m (suc n) l = matches_at store hs is m.1 n (omega arith)

-- what the tuple names in xs, it names in ys
abbrev pub Agrees : Store → Store → List ℕ → Type 0
Agrees xs ys is = (i : ℕ) → i ∈ is → (r : Record) → xs i ≡ Some r → ys i ≡ Some r

pub matches_agree : (xs ys : Store) (hs is : List ℕ) → Agrees xs ys is → Matches xs hs is → Matches ys hs is
matches_agree xs ys [] [] w m = tt
matches_agree xs ys [] (i ∷ is) w m = m
matches_agree xs ys (h ∷ hs) [] w m = m
matches_agree xs ys (h ∷ hs) (i ∷ is) w m = let n = named (xs i) h m.0 in (ap symbol_of (w i here n.0 n.1) ∙ ap Some n.2, matches_agree xs ys hs is (λ j k. w j (there k)) m.1)

pub slot_agrees : (arities : List ℕ) (xs ys : Store) (hs is : List ℕ) → Agrees xs ys is → Matches xs hs is → (k : ℕ) → head_slot arities xs hs is k ≡ head_slot arities ys hs is k
slot_agrees arities xs ys [] is w m k = refl
slot_agrees arities xs ys (h ∷ hs) [] w m k = refl
slot_agrees arities xs ys (h ∷ hs) (i ∷ is) w m k = let n = named (xs i) h m.0 in let a : xs i ≡ ys i = n.1 ∙ sym (w i here n.0 n.1) in let b = slot_agrees arities xs ys hs is (λ j c. w j (there c)) m.1 (k - get_or arities h 0) in λ j. cond (ltb k (get_or arities h 0)) (get_or (arguments_of (a j)) k (Value (pos 0))) (b j)

-- what holds of all arguments of a tuple's constraints, and of the value 0, holds of what stands in its slots
pub slot_all : (Q : Operand → Type 0) → Q (Value (pos 0)) → (arities : List ℕ) (store : Store) (hs is : List ℕ) → ((i : ℕ) → i ∈ is → All Q (arguments_of (store i))) → (k : ℕ) → Q (head_slot arities store hs is k)
slot_all Q q arities store [] is f k = q
slot_all Q q arities store (h ∷ hs) [] f k = q
slot_all Q q arities store (h ∷ hs) (i ∷ is) f k = go (slot_all Q q arities store hs is (λ j c. f j (there c)) (k - get_or arities h 0)) (ltb k (get_or arities h 0))
  where
    go : Q (head_slot arities store hs is (k - get_or arities h 0)) → (b : Bool) → Q (cond b (get_or (arguments_of (store i)) k (Value (pos 0))) (head_slot arities store hs is (k - get_or arities h 0)))
    go ih true = all_get_d Q (arguments_of (store i)) k (Value (pos 0)) (f i here) q
    go ih false = ih

-- what is left when some are gone
abbrev pub survivors : List ℕ → Store → Store
survivors gone store i = cond (memberb i gone) None (store i)

-- and what is there with one more
abbrev pub adding : ℕ → Record → Store → Store
adding n r store i = cond (eqb n i) (Some r) (store i)

pub survivor : (gone : List ℕ) (store : Store) (i : ℕ) (r : Record) → survivors gone store i ≡ Some r → (i ∈ gone → ⊥) × (store i ≡ Some r)
survivor gone store i r e = go (memberb i gone) refl e
  where
    go : (b : Bool) → memberb i gone ≡ b → cond b None (store i) ≡ Some r → (i ∈ gone → ⊥) × (store i ≡ Some r)
    go true q z = absurd (none-some _ z)
    go false q z = (λ m. both_ways (memberb i gone) q (memberb_of m), z)

pub survives : (gone : List ℕ) (store : Store) (i : ℕ) → (i ∈ gone → ⊥) → survivors gone store i ≡ store i
survives gone store i n = ap (λ b. cond b None (store i)) (memberb_not i gone n)

pub perishes : (gone : List ℕ) (store : Store) (i : ℕ) → i ∈ gone → survivors gone store i ≡ None
perishes gone store i m = ap (λ b. cond b None (store i)) (memberb_of m)

pub survivors_agree : (gone : List ℕ) (store : Store) (is : List ℕ) → Agrees (survivors gone store) store is
survivors_agree gone store is i m r e = (survivor gone store i r e).1

pub added : (n : ℕ) (r : Record) (store : Store) → adding n r store n ≡ Some r
added n r store = ap (λ b. cond b (Some r) (store n)) (eq-eqb n n refl)

pub unadded : (n : ℕ) (r : Record) (store : Store) (i : ℕ) → (n ≡ i → ⊥) → adding n r store i ≡ store i
unadded n r store i e = ap (λ b. cond b (Some r) (store i)) (ne_eqb n i e)

-- what lives is the new one, or lived before
pub added_cases : (n : ℕ) (r : Record) (store : Store) (i : ℕ) (x : Record) → adding n r store i ≡ Some x → ((n ≡ i) × (r ≡ x)) ⊎ (store i ≡ Some x)
added_cases n r store i x e = go (eqb n i) refl e
  where
    go : (b : Bool) → eqb n i ≡ b → cond b (Some r) (store i) ≡ Some x → ((n ≡ i) × (r ≡ x)) ⊎ (store i ≡ Some x)
    go true q z = inl (eqb-true n i q, same_Some _ _ z)
    go false q z = inr z

module _ {A B : Type 0} (P : PartnerTable.Ghosts B) where
  -- what lives after some were removed
  pub living_without : (s t : Config A B) (gone : List ℕ) → P.records t.table ≡ without (P.records s.table) gone → living P t ≡ survivors gone (living P s)
  living_without s t gone e = ap (λ table i. first (table i)) e ∙ (λ j i. go (memberb i gone) (P.records s.table i) j)
    where
      go : (b : Bool) (rs : List Record) → first (cond b [] rs) ≡ cond b None (first rs)
      go true rs = refl
      go false rs = refl

  -- what lives after one was put under a free identifier
  pub living_with : (s t : Config A B) (n : ℕ) (r : Record) → P.records s.table n ≡ [] → P.records t.table ≡ with_record (P.records s.table) n r → living P t ≡ adding n r (living P s)
  living_with s t n r free e = ap (λ table i. first (table i)) e ∙ (λ j i. first (cond (eqb n i) (cond (is_none (free j)) (r ∷ []) (free j)) (P.records s.table i))) ∙ (λ j i. go (eqb n i) (P.records s.table i) j)
    where
      go : (b : Bool) (rs : List Record) → first (cond b (r ∷ []) rs) ≡ cond b (Some r) (first rs)
      go true rs = refl
      go false rs = refl
