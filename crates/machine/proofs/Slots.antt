-- The slots of a tuple as one list: the arguments of its constraints, one after the other. Assumes nothing.
use Rattle.std.proofs.Common.{◌≡◌, ℕ, ◌+◌, ◌-◌, ◌<◌, ◌≤◌, ltb, ◌⊎◌, List, [], ◌∷◌, ◌++◌, length, get_or, drop, pos, Some, None, Option, sym, refl, ap, ◌∙◌, subst, ap₂, inl, inr, arith, length-append}
use Rattle.std.proofs.lemmas.List.{append_assoc, get_or_append_left, get_or-append_right}
use Rattle.std.proofs.lemmas.Bool.{cases_lt, cond-true, cond-false, lt-ltb, le-ltb}
use Rattle.terms.specs.declared.Operand.{Operand}
use Rattle.terms.specs.declared.Operand.TheVariants.{Value}
use Rattle.terms.specs.Lists.{All}
use Rattle.rules.specs.Books.{slot_count}
use Rattle.table.specs.Records.{Record, symbol_of}
use Rattle.machine.specs.Lists.{◌∈◌, Distinct}
use Rattle.machine.specs.Matching.{Store, arguments_of, head_slot, Matches}
use Rattle.machine.proofs.Members.{mem_cases, mem_none, mem_right, all_append}
use Rattle.machine.proofs.Stores.{named}

-- the arguments of the tuple's constraints
abbrev pub slots : Store → List ℕ → List Operand
slots store [] = []
slots store (i ∷ is) = arguments_of (store i) ++ slots store is

pub slots_append : (store : Store) (xs ys : List ℕ) → slots store (xs ++ ys) ≡ slots store xs ++ slots store ys
slots_append store [] ys = refl
slots_append store (x ∷ xs) ys = ap (λ l. arguments_of (store x) ++ l) (slots_append store xs ys) ∙ sym (append_assoc (arguments_of (store x)) (slots store xs) (slots store ys))

-- what holds of every argument of a living constraint holds of the slots
pub slots_all : (Q : Operand → Type 0) (store : Store) → ((i : ℕ) (r : Record) → store i ≡ Some r → All Q r.arguments) → (is : List ℕ) → All Q (slots store is)
slots_all Q store f [] = tt
slots_all Q store f (i ∷ is) = all_append Q (arguments_of (store i)) (slots store is) (one (store i) refl) (slots_all Q store f is)
  where
    one : (o : Option Record) → store i ≡ o → All Q (arguments_of o)
    one None e = tt
    one (Some r) e = f i r e

-- a tuple's part at the kept heads, and at the removed ones
pub record Parts (store : Store) (kept removed tuple : List ℕ) : Type 0 where
  pub front : List ℕ
  pub back : List ℕ
  pub is : tuple ≡ front ++ back
  pub back_is : drop (length kept) tuple ≡ back
  pub fronts : Matches store kept front
  pub backs : Matches store removed back

pub parts_of : (store : Store) (kept removed tuple : List ℕ) → Matches store (kept ++ removed) tuple → Parts store kept removed tuple
parts_of store [] removed tuple m = record { front = []; back = tuple; is = refl; back_is = refl; fronts = tt; backs = m }
parts_of store (c ∷ kept) removed [] m = absurd m
parts_of store (c ∷ kept) removed (i ∷ is) m = let s = parts_of store kept removed is m.1 in record { front = i ∷ s.front; back = s.back; is = ap (λ l. i ∷ l) s.is; back_is = s.back_is; fronts = (m.0, s.fronts); backs = s.backs }

pub distinct_parts : (xs ys : List ℕ) → Distinct (xs ++ ys) → {x : ℕ} → x ∈ xs → x ∈ ys → ⊥
distinct_parts [] ys d a b = mem_none a
distinct_parts (z ∷ xs) ys d {x} a b = go (λ n. distinct_parts xs ys d.1 n b) (mem_cases a)
  where
    go : (x ∈ xs → ⊥) → (x ≡ z) ⊎ (x ∈ xs) → ⊥
    go ih (inl e) = d.0 (mem_right xs (subst (λ y. y ∈ ys) e b))
    go ih (inr n) = ih n

-- where every living constraint has as many arguments as its symbol takes
module _ (arities : List ℕ) (store : Store) (whole : (i : ℕ) (r : Record) → store i ≡ Some r → length r.arguments ≡ get_or arities r.symbol 0) where
  pub arguments_counted : (i c : ℕ) → symbol_of (store i) ≡ Some c → length (arguments_of (store i)) ≡ get_or arities c 0
  arguments_counted i c e = let n = named (store i) c e in ap (λ o. length (arguments_of o)) n.1 ∙ whole i n.0 n.1 ∙ ap (λ z. get_or arities z 0) n.2

  pub slots_counted : (cs is : List ℕ) → Matches store cs is → length (slots store is) ≡ slot_count arities cs
  slots_counted [] [] m = refl
  slots_counted [] (i ∷ is) m = absurd m
  slots_counted (c ∷ cs) [] m = absurd m
  slots_counted (c ∷ cs) (i ∷ is) m = length-append (arguments_of (store i)) (slots store is) ∙ ap₂ (λ (a b : ℕ). a + b) (arguments_counted i c m.0) (slots_counted cs is m.1)

  -- the slot of a number is the list's element there
  pub head_slot_is : (cs is : List ℕ) → Matches store cs is → (k : ℕ) → head_slot arities store cs is k ≡ get_or (slots store is) k (Value (pos 0))
  head_slot_is [] [] m k = refl
  head_slot_is [] (i ∷ is) m k = absurd m
  head_slot_is (c ∷ cs) [] m k = absurd m
  head_slot_is (c ∷ cs) (i ∷ is) m k = go (arguments_counted i c m.0) (head_slot_is cs is m.1 (k - get_or arities c 0)) (cases_lt k (get_or arities c 0))
    where
      n : ℕ
      n = get_or arities c 0

      one : Operand
      one = get_or (arguments_of (store i)) k (Value (pos 0))

      later : Operand
      later = head_slot arities store cs is (k - get_or arities c 0)

      go : length (arguments_of (store i)) ≡ get_or arities c 0 → head_slot arities store cs is (k - get_or arities c 0) ≡ get_or (slots store is) (k - get_or arities c 0) (Value (pos 0)) → (k < get_or arities c 0) ⊎ (get_or arities c 0 ≤ k) → head_slot arities store (c ∷ cs) (i ∷ is) k ≡ get_or (arguments_of (store i) ++ slots store is) k (Value (pos 0))
      go e ih (inl l) = cond-true (ltb k n) one later (lt-ltb k n l) ∙ sym (get_or_append_left (arguments_of (store i)) (slots store is) (Value (pos 0)) k (omega arith))
      go e ih (inr l) = cond-false (ltb k n) one later (le-ltb k n l) ∙ ih ∙ sym (get_or-append_right (arguments_of (store i)) (slots store is) n k (Value (pos 0)) e l)
