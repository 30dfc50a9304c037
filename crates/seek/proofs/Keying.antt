-- The first guard that ties a slot. Assumes nothing.
use Rattle.std.proofs.Common.{◌≡◌, ℕ, ◌+◌, ◌<◌, ◌≤◌, true, false, cond, ltb, List, length, get_or, take, drop, ℤ, is_some, Some, None, Option, sym, refl, ap, ◌∙◌, arith}
use Rattle.std.specs.Option.{option_or}
use Rattle.std.proofs.lemmas.List.{drop_more, drop_all}
use Rattle.std.proofs.lemmas.Bool.{true≢false, false≢true, lt-ltb, le-ltb}
use Rattle.terms.specs.declared.Operand.{Operand}
use Rattle.terms.specs.declared.Primitive.{Primitive}
use Rattle.terms.specs.declared.Term.{Term}
use Rattle.rules.specs.Books.{Rule, heads, slot_count}
use Rattle.machine.specs.Matching.{Store}
use Rattle.machine.specs.Keys.{Filling, partial_slot, tied_to, key_from, key_at}

or_some : (o u : Option ℤ) → is_some o ≡ true → option_or o u ≡ o
or_some None u e = absurd (false≢true e)
or_some (Some v) u e = refl

or_none : (o u : Option ℤ) → is_some o ≡ false → option_or o u ≡ u
or_none None u e = refl
or_none (Some v) u e = absurd (true≢false e)

module _ (at : ℕ → Option Operand) (slot : ℕ) (gs : List (Primitive Term)) (i : ℕ) where
  module _ (d : Primitive Term) (l : i < length gs) (o : Option ℤ) (e : o ≡ tied_to at slot (get_or gs i d)) where
    more : key_from at slot (drop i gs) ≡ option_or o (key_from at slot (drop (i + 1) gs))
    more = ap (key_from at slot) (drop_more gs i d l) ∙ ap (λ z. option_or z (key_from at slot (drop (i + 1) gs))) (sym e)

    pub key_found : is_some o ≡ true → o ≡ key_from at slot (drop i gs)
    key_found s = sym (more ∙ or_some o (key_from at slot (drop (i + 1) gs)) s)

    pub key_next : is_some o ≡ false → key_from at slot (drop (i + 1) gs) ≡ key_from at slot (drop i gs)
    key_next s = sym (more ∙ or_none o (key_from at slot (drop (i + 1) gs)) s)

  pub key_none : length gs ≤ i → None ≡ key_from at slot (drop i gs)
  key_none l = sym (ap (key_from at slot) (drop_all i gs l))

-- where there is an argument, and where there is none
pub when_some : (n m : ℕ) (k : Option ℤ) → n ≡ m → (n ≡ 0 → ⊥) → k ≡ cond (ltb 0 m) k None
when_some n m k e d = sym (ap (λ b. cond b k None) (lt-ltb 0 m (positive m (λ z. d (e ∙ z)))))
  where
    positive : (m : ℕ) → (m ≡ 0 → ⊥) → 0 < m
    positive m d = omega (arith, d)

pub when_none : (n m : ℕ) (k : Option ℤ) → n ≡ m → n ≡ 0 → None ≡ cond (ltb 0 m) k None
when_none n m k e z = sym (ap (λ b. cond b k None) (le-ltb 0 m (omega (arith, e, z))))

-- the key, over heads and guards that are the rule's
pub key_over : (arities : List ℕ) (store : Store) (filling : Filling) (n : ℕ) (hs : List ℕ) (gs : List (Primitive Term)) (r : Rule) → hs ≡ heads r → gs ≡ r.guards → cond (ltb 0 (get_or arities (get_or hs n 0) 0)) (key_from (partial_slot arities store hs filling) (slot_count arities (take n hs)) gs) None ≡ key_at arities store r filling n
key_over arities store filling n hs gs r e q = ap (λ z. cond (ltb 0 (get_or arities (get_or z n 0) 0)) (key_from (partial_slot arities store z filling) (slot_count arities (take n z)) gs) None) e ∙ ap (λ z. cond (ltb 0 (get_or arities (get_or (heads r) n 0) 0)) (key_from (partial_slot arities store (heads r) filling) (slot_count arities (take n (heads r))) z) None) q
