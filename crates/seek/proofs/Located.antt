-- Which head a slot belongs to. Assumes nothing.
use Rattle.std.proofs.Common.{◌≡◌, ℕ, zero, suc, ◌+◌, ◌-◌, ◌<◌, ◌≤◌, Bool, true, false, cond, ltb, List, [], ◌∷◌, length, get_or, drop, pos, Some, None, Option, unwrap_or, sym, refl, ap, ◌∙◌, arith}
use Rattle.std.proofs.lemmas.List.{drop_more, drop_all}
use Rattle.std.proofs.lemmas.Bool.{lt-ltb, le-ltb}
use Rattle.std.specs.Option.{UnwrapsOrElse}
use Rattle.terms.specs.declared.Operand.{Operand}
use Rattle.terms.specs.declared.Operand.TheVariants.{Value}
use Rattle.table.specs.Lists.{nth}
use Rattle.table.specs.Records.{Record, argument_of}
use Rattle.machine.specs.Matching.{Store, head_slot, arguments_of}
use Rattle.machine.specs.Keys.{Filling, filled_argument, partial_slot}
use Rattle.seek.specs.Slots.{later, located}

or_default : {A : Type 0} (xs : List A) (n : ℕ) (d : A) → unwrap_or (nth xs n) d ≡ get_or xs n d
or_default [] n d = refl
or_default (x ∷ xs) zero d = refl
or_default (x ∷ xs) (suc n) d = or_default xs n d

-- the value, or else the default
pub unwraps_or : {A : Type 0} (d : A) (o : Option A) (r : A) → UnwrapsOrElse o (λ x. x ≡ d) r → r ≡ unwrap_or o d
unwraps_or d None r e = e
unwraps_or d (Some x) r e = e

-- so many heads later
abbrev pub shifted : ℕ → Option (ℕ × ℕ) → Option (ℕ × ℕ)
shifted n None = None
shifted n (Some o) = Some (n + o.0, o.1)

pub shifted_none : (o : Option (ℕ × ℕ)) → shifted 0 o ≡ o
shifted_none None = refl
shifted_none (Some o) = ap (λ (z : ℕ). Some (z, o.1)) (let q : 0 + o.0 ≡ o.0 = omega arith in q)

shifted_later : (n : ℕ) (o : Option (ℕ × ℕ)) → shifted n (later o) ≡ shifted (n + 1) o
shifted_later n None = refl
shifted_later n (Some o) = ap (λ (z : ℕ). Some (z, o.1)) (let q : n + suc o.0 ≡ n + 1 + o.0 = omega arith in q)

module _ (arities : List ℕ) (hs : List ℕ) (p k a : ℕ) (l : p < length hs) (e : a ≡ get_or arities (get_or hs p 0) 0) where
  more : (b : Bool) → ltb k a ≡ b → located arities (drop p hs) k ≡ cond b (Some (0, k)) (later (located arities (drop (p + 1) hs) (k - a)))
  more b z = ap (λ w. located arities w k) (drop_more hs p 0 l) ∙ ap (λ (n : ℕ). cond (ltb k n) (Some (0, k)) (later (located arities (drop (p + 1) hs) (k - n)))) (sym e) ∙ ap (λ c. cond c (Some (0, k)) (later (located arities (drop (p + 1) hs) (k - a)))) z

  pub located_here : k < a → Some (p, k) ≡ shifted p (located arities (drop p hs) k)
  located_here m = sym (ap (shifted p) (more true (lt-ltb k a m)) ∙ ap (λ (z : ℕ). Some (z, k)) (let q : p + 0 ≡ p = omega arith in q))

  pub located_later : a ≤ k → shifted p (located arities (drop p hs) k) ≡ shifted (p + 1) (located arities (drop (p + 1) hs) (k - a))
  located_later m = ap (shifted p) (more false (le-ltb k a m)) ∙ shifted_later p (located arities (drop (p + 1) hs) (k - a))

pub located_none : (arities hs : List ℕ) (p k : ℕ) → length hs ≤ p → None ≡ shifted p (located arities (drop p hs) k)
located_none arities hs p k l = sym (ap (λ w. shifted p (located arities w k)) (drop_all p hs l))

module _ (arities : List ℕ) (store : Store) where
  -- what stands at a place of a tuple
  abbrev pub there : List ℕ → Option (ℕ × ℕ) → Operand
  there is None = Value (pos 0)
  there is (Some o) = unwrap_or (filled_argument store (nth is o.0) o.1) (Value (pos 0))

  nothing_there : (o : Option (ℕ × ℕ)) → there [] o ≡ Value (pos 0)
  nothing_there None = refl
  nothing_there (Some o) = refl

  there_later : (i : ℕ) (is : List ℕ) (o : Option (ℕ × ℕ)) → there (i ∷ is) (later o) ≡ there is o
  there_later i is None = refl
  there_later i is (Some o) = refl

  argument_or : (o : Option Record) (k : ℕ) → unwrap_or (argument_of o k) (Value (pos 0)) ≡ get_or (arguments_of o) k (Value (pos 0))
  argument_or None k = refl
  argument_or (Some r) k = or_default r.arguments k (Value (pos 0))

  pub slot_there : (hs is : List ℕ) (k : ℕ) → there is (located arities hs k) ≡ head_slot arities store hs is k
  slot_there [] is k = refl
  slot_there (c ∷ cs) [] k = nothing_there (cond (ltb k (get_or arities c 0)) (Some (0, k)) (later (located arities cs (k - get_or arities c 0))))
  slot_there (c ∷ cs) (i ∷ is) k = go (ltb k (get_or arities c 0)) (slot_there cs is (k - get_or arities c 0))
    where
      go : (b : Bool) → there is (located arities cs (k - get_or arities c 0)) ≡ head_slot arities store cs is (k - get_or arities c 0) → there (i ∷ is) (cond b (Some (0, k)) (later (located arities cs (k - get_or arities c 0)))) ≡ cond b (get_or (arguments_of (store i)) k (Value (pos 0))) (head_slot arities store cs is (k - get_or arities c 0))
      go true ih = argument_or (store i) k
      go false ih = there_later i is (located arities cs (k - get_or arities c 0)) ∙ ih

  -- what stands at a place of heads that are filled in part
  abbrev pub there_partly : Filling → Option (ℕ × ℕ) → Option Operand
  there_partly f None = None
  there_partly f (Some o) = filled_argument store (f o.0) o.1

  partly_later : (f : Filling) (o : Option (ℕ × ℕ)) → there_partly f (later o) ≡ there_partly (λ p. f (suc p)) o
  partly_later f None = refl
  partly_later f (Some o) = refl

  pub partial_there : (hs : List ℕ) (f : Filling) (k : ℕ) → there_partly f (located arities hs k) ≡ partial_slot arities store hs f k
  partial_there [] f k = refl
  partial_there (c ∷ cs) f k = go (ltb k (get_or arities c 0)) (partial_there cs (λ p. f (suc p)) (k - get_or arities c 0))
    where
      go : (b : Bool) → there_partly (λ p. f (suc p)) (located arities cs (k - get_or arities c 0)) ≡ partial_slot arities store cs (λ p. f (suc p)) (k - get_or arities c 0) → there_partly f (cond b (Some (0, k)) (later (located arities cs (k - get_or arities c 0)))) ≡ cond b (filled_argument store (f 0) k) (partial_slot arities store cs (λ p. f (suc p)) (k - get_or arities c 0))
      go true ih = refl
      go false ih = partly_later f (located arities cs (k - get_or arities c 0)) ∙ ih

  pub partial_read : (hs : List ℕ) (f : Filling) (k : ℕ) (o : Option (ℕ × ℕ)) → o ≡ located arities hs k → (p : ℕ × ℕ) → o ≡ Some p → (i : Option ℕ) → i ≡ f p.0 → (x : Option Operand) → x ≡ filled_argument store i p.1 → x ≡ partial_slot arities store hs f k
  partial_read hs f k o e p q i n x m = m ∙ ap (λ z. filled_argument store z p.1) n ∙ ap (there_partly f) (sym q ∙ e) ∙ partial_there hs f k

  pub partial_unread : (hs : List ℕ) (f : Filling) (k : ℕ) (o : Option (ℕ × ℕ)) → o ≡ located arities hs k → o ≡ None → None ≡ partial_slot arities store hs f k
  partial_unread hs f k o e q = ap (there_partly f) (sym q ∙ e) ∙ partial_there hs f k

  -- a slot that no constraint fills has 0
  pub slot_or : (hs is : List ℕ) (k : ℕ) → unwrap_or (partial_slot arities store hs (λ p. nth is p) k) (Value (pos 0)) ≡ head_slot arities store hs is k
  slot_or hs is k = ap (λ z. unwrap_or z (Value (pos 0))) (sym (partial_there hs (λ p. nth is p) k)) ∙ here (located arities hs k) ∙ slot_there hs is k
    where
      here : (o : Option (ℕ × ℕ)) → unwrap_or (there_partly (λ p. nth is p) o) (Value (pos 0)) ≡ there is o
      here None = refl
      here (Some o) = refl
