-- The key of a search misses nothing. Assumes nothing.
use Rattle.std.proofs.Common.{◌≡◌, ℕ, zero, suc, ◌+◌, ◌-◌, ◌<◌, Bool, true, false, cond, ◌&&◌, ltb, List, [], ◌∷◌, length, get_or, take, ℤ, pos, negsuc, Some, None, Option, sym, refl, ap, ◌∙◌, subst, not-suc-le-zero, arith}
use lib.IntN.{ℤ_discrete}
use lib.Signed.{le_z}
use Rattle.std.specs.Option.{option_or}
use Rattle.std.proofs.lemmas.Bool.{eqb-true, ltb-true, lt-ltb, le-ltb, le-leb, and_from, both_ways}
use Rattle.std.proofs.lemmas.Option.{none-some, same_Some}
use Rattle.terms.specs.declared.Operand.{Operand}
use Rattle.terms.specs.declared.Operand.TheVariants.{Value, Variable}
use Rattle.terms.specs.declared.Term.{Term}
use Rattle.terms.specs.declared.Term.TheVariants as term
use Rattle.terms.specs.declared.Primitive.{Primitive}
use Rattle.terms.specs.declared.Primitive.TheVariants.{Same, Least, Most}
use Rattle.terms.specs.Lists.{All}
use Rattle.terms.specs.Domains.{Domain}
use Rattle.rules.specs.Books.{heads, slot_count}
use Rattle.theory.specs.declared.interface.Theory as Theory
use Rattle.theory.specs.Meanings.{Meaning, Failed, Follows}
use Rattle.table.specs.declared.partner.PartnerTable as PartnerTable
use Rattle.table.specs.Lists.{nth}
use Rattle.table.specs.Nexts.{has_key}
use Rattle.table.specs.Records.{Record, argument_of}
use Rattle.machine.specs.Matching.{Store, arguments_of, head_slot, fill, fill_primitive}
use Rattle.machine.specs.Refined.{meaning, living, rule_of}
use Rattle.machine.specs.Keys.{Filling, filled_argument, partial_slot, value_of, value_in, is_slot, tied_to, key_from, key_at, Agrees, KeyedPartners}
use Rattle.machine.proofs.Unique.{matches_length}

-- two values that the theory has the same are the same, while it stands
pub values_agree : {d : Domain} (m : Meaning d) → (Failed m → ⊥) → (a b : ℤ) → Follows m (Same (Value a) (Value b)) → a ≡ b
values_agree {d} m stands a b f = go (ℤ_discrete a b)
  where
    go : Dec (a ≡ b) → a ≡ b
    go (yes e) = e
    go (no n) = absurd (stands (λ v av. n (d.apart a b ((d.same (d.number a) (d.number b)).0 (f.1 v av)))))

le_self : (v : ℤ) → le_z v v ≡ true
le_self (pos a) = le-leb a a (omega arith)
le_self (negsuc a) = le-leb a a (omega arith)

same_key : (v w : ℤ) → w ≡ v → (le_z v w && le_z w v) ≡ true
same_key v w e = subst (λ z. (le_z v z && le_z z v) ≡ true) (sym e) (and_from (le_z v v) (le_z v v) (le_self v) (le_self v))

-- a key is had where the first argument, if it is a value, is that
pub keyed : (key : Option ℤ) (xs : List Operand) → ((v w : ℤ) → key ≡ Some v → get_or xs 0 (Value (pos 0)) ≡ Value w → w ≡ v) → has_key key xs ≡ true
keyed None xs f = refl
keyed (Some v) [] f = refl
keyed (Some v) (Value w ∷ xs) f = same_key v w (f v w refl refl)
keyed (Some v) (Variable x ∷ xs) f = refl

nth_get_or : {A : Type 0} (xs : List A) (k : ℕ) (d x : A) → nth xs k ≡ Some x → get_or xs k d ≡ x
nth_get_or [] k d x e = absurd (none-some _ e)
nth_get_or (y ∷ xs) zero d x e = same_Some _ _ e
nth_get_or (y ∷ xs) (suc k) d x e = nth_get_or xs k d x e

module _ (arities : List ℕ) (store : Store) where
  argument_is : (o : Option Record) (k : ℕ) (x : Operand) → argument_of o k ≡ Some x → get_or (arguments_of o) k (Value (pos 0)) ≡ x
  argument_is None k x e = absurd (none-some _ e)
  argument_is (Some r) k x e = nth_get_or r.arguments k (Value (pos 0)) x e

  filled_is : (f : Option ℕ) (i k : ℕ) (x : Operand) → ((j : ℕ) → f ≡ Some j → i ≡ j) → filled_argument store f k ≡ Some x → get_or (arguments_of (store i)) k (Value (pos 0)) ≡ x
  filled_is None i k x a e = absurd (none-some _ e)
  filled_is (Some j) i k x a e = ap (λ (z : ℕ). get_or (arguments_of (store z)) k (Value (pos 0))) (a j refl) ∙ argument_is (store j) k x e

  -- what is known of a slot from a part of the tuple is what the whole has there
  pub partial_is : (hs : List ℕ) (f : Filling) (is : List ℕ) → length is ≡ length hs → Agrees f is → (k : ℕ) (x : Operand) → partial_slot arities store hs f k ≡ Some x → head_slot arities store hs is k ≡ x
  partial_is [] f is l a k x e = absurd (none-some _ e)
  partial_is (c ∷ cs) f [] l a k x e = absurd (omega arith)
  partial_is (c ∷ cs) f (i ∷ is) l a k x e = go (ltb k (get_or arities c 0)) e (λ q. partial_is cs (λ p. f (suc p)) is (omega arith) (λ p j. a (suc p) j) (k - get_or arities c 0) x q)
    where
      go : (b : Bool) → cond b (filled_argument store (f 0) k) (partial_slot arities store cs (λ p. f (suc p)) (k - get_or arities c 0)) ≡ Some x → (partial_slot arities store cs (λ p. f (suc p)) (k - get_or arities c 0) ≡ Some x → head_slot arities store cs is (k - get_or arities c 0) ≡ x) → cond b (get_or (arguments_of (store i)) k (Value (pos 0))) (head_slot arities store cs is (k - get_or arities c 0)) ≡ x
      go true q ih = filled_is (f 0) i k x (λ j z. a 0 j z) q
      go false q ih = ih q

  -- what stands in the first slot of a head
  pub first_slot : (hs is : List ℕ) (n : ℕ) → length is ≡ length hs → n < length hs → 0 < get_or arities (get_or hs n 0) 0 → head_slot arities store hs is (slot_count arities (take n hs)) ≡ get_or (arguments_of (store (get_or is n 0))) 0 (Value (pos 0))
  first_slot [] is n l m p = absurd (not-suc-le-zero m)
  first_slot (c ∷ cs) [] n l m p = absurd (omega arith)
  first_slot (c ∷ cs) (i ∷ is) zero l m p = ap (λ b. cond b (get_or (arguments_of (store i)) 0 (Value (pos 0))) (head_slot arities store cs is (0 - get_or arities c 0))) (lt-ltb 0 (get_or arities c 0) p)
  first_slot (c ∷ cs) (i ∷ is) (suc n) l m p = ap (λ b. cond b (get_or (arguments_of (store i)) (get_or arities c 0 + slot_count arities (take n cs)) (Value (pos 0))) (head_slot arities store cs is (get_or arities c 0 + slot_count arities (take n cs) - get_or arities c 0))) (le-ltb (get_or arities c 0 + slot_count arities (take n cs)) (get_or arities c 0) (omega arith)) ∙ ap (λ (z : ℕ). head_slot arities store cs is z) (let q : get_or arities c 0 + slot_count arities (take n cs) - get_or arities c 0 ≡ slot_count arities (take n cs) = omega arith in q) ∙ first_slot cs is n (omega arith) (omega arith) p

module _ {d : Domain} (m : Meaning d) (stands : Failed m → ⊥) (at : ℕ → Option Operand) (full : ℕ → Operand) (agree : (k : ℕ) (x : Operand) → at k ≡ Some x → full k ≡ x) (slot : ℕ) (w : ℤ) (here : full slot ≡ Value w) where
  value_is : (o : Option Operand) (v : ℤ) → value_of o ≡ Some v → o ≡ Some (Value v)
  value_is None v e = absurd (none-some _ e)
  value_is (Some (Value n)) v e = ap (λ z. Some (Value z)) (same_Some _ _ e)
  value_is (Some (Variable x)) v e = absurd (none-some _ e)

  value_fills : (t : Term) (v : ℤ) → value_in at t ≡ Some v → fill full t ≡ Value v
  value_fills (term.Value n) v e = ap (λ z. Value z) (same_Some _ _ e)
  value_fills (term.Slot k) v e = agree k (Value v) (value_is (at k) v e)

  slot_fills : (t : Term) → is_slot slot t ≡ true → fill full t ≡ Value w
  slot_fills (term.Value n) e = absurd (both_ways false refl e)
  slot_fills (term.Slot k) e = ap full (eqb-true k slot e) ∙ here

  one_way : (a b : Term) (v : ℤ) → Follows m (Same (fill full a) (fill full b)) → is_slot slot a ≡ true → value_in at b ≡ Some v → w ≡ v
  one_way a b v f e q = values_agree m stands w v (subst (λ x. Follows m (Same x (Value v))) (slot_fills a e) (subst (λ x. Follows m (Same (fill full a) x)) (value_fills b v q) f))

  other_way : (a b : Term) (v : ℤ) → Follows m (Same (fill full a) (fill full b)) → is_slot slot b ≡ true → value_in at a ≡ Some v → w ≡ v
  other_way a b v f e q = sym (values_agree m stands v w (subst (λ x. Follows m (Same x (Value w))) (value_fills a v q) (subst (λ x. Follows m (Same (fill full a) x)) (slot_fills b e) f)))

  -- the value to which a guard that follows ties the slot is what stands there
  tied_is : (g : Primitive Term) (v : ℤ) → Follows m (fill_primitive full g) → tied_to at slot g ≡ Some v → w ≡ v
  tied_is (Same a b) v f e = go (is_slot slot a) refl (value_in at b) refl e
    where
      second : (c : Bool) → is_slot slot b ≡ c → cond c (value_in at a) None ≡ Some v → w ≡ v
      second true z q = other_way a b v f z q
      second false z q = absurd (none-some _ q)

      go : (c : Bool) → is_slot slot a ≡ c → (o : Option ℤ) → value_in at b ≡ o → option_or (cond c o None) (cond (is_slot slot b) (value_in at a) None) ≡ Some v → w ≡ v
      go true z (Some u) y q = one_way a b v f z (y ∙ q)
      go true z None y q = second (is_slot slot b) refl q
      go false z o y q = second (is_slot slot b) refl q
  tied_is (Least a n) v f e = absurd (none-some _ e)
  tied_is (Most a n) v f e = absurd (none-some _ e)

  pub key_is_there : (gs : List (Primitive Term)) (v : ℤ) → All (λ g. Follows m (fill_primitive full g)) gs → key_from at slot gs ≡ Some v → w ≡ v
  key_is_there [] v f e = absurd (none-some _ e)
  key_is_there (g ∷ gs) v f e = go (tied_to at slot g) refl e (λ q. key_is_there gs v f.1 q)
    where
      go : (o : Option ℤ) → tied_to at slot g ≡ o → option_or o (key_from at slot gs) ≡ Some v → (key_from at slot gs ≡ Some v → w ≡ v) → w ≡ v
      go (Some u) z q ih = tied_is g v f.0 (z ∙ q)
      go None z q ih = ih q

module _ {A B : Type 0} (T : Theory.Ghosts A) (P : PartnerTable.Ghosts B) where
  pub keyed_partners : KeyedPartners T P
  keyed_partners s stands k h i tuple f filling a n l = keyed (key_at s.book.arities (living P s) (rule_of s k) filling n) (arguments_of (living P s (get_or tuple n 0))) (λ v w e q. go v w q (ltb 0 (get_or s.book.arities (get_or (heads (rule_of s k)) n 0) 0)) refl e)
    where
      long : length tuple ≡ length (heads (rule_of s k))
      long = matches_length (living P s) (heads (rule_of s k)) tuple f.applies.matches

      go : (v w : ℤ) → get_or (arguments_of (living P s (get_or tuple n 0))) 0 (Value (pos 0)) ≡ Value w → (b : Bool) → ltb 0 (get_or s.book.arities (get_or (heads (rule_of s k)) n 0) 0) ≡ b → cond b (key_from (partial_slot s.book.arities (living P s) (heads (rule_of s k)) filling) (slot_count s.book.arities (take n (heads (rule_of s k)))) (rule_of s k).guards) None ≡ Some v → w ≡ v
      go v w q true z e = key_is_there (meaning T s) stands (partial_slot s.book.arities (living P s) (heads (rule_of s k)) filling) (head_slot s.book.arities (living P s) (heads (rule_of s k)) tuple) (partial_is s.book.arities (living P s) (heads (rule_of s k)) filling tuple long a) (slot_count s.book.arities (take n (heads (rule_of s k)))) w (first_slot s.book.arities (living P s) (heads (rule_of s k)) tuple n long l (ltb-true 0 (get_or s.book.arities (get_or (heads (rule_of s k)) n 0) 0) z) ∙ q) (rule_of s k).guards v f.applies.guarded e
      go v w q false z e = absurd (none-some _ e)
