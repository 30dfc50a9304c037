-- Terms and primitives are read exactly as they are written.
use Rattle.std.proofs.Common.{◌≡◌, ℕ, ◌<◌, ◌≤◌, cond, eqb, List, ◌++◌, ℤ, pos, sym, refl, ap, ◌∙◌, arith}
use Rattle.std.proofs.lemmas.Bool.{cond_both, eqb-true, eqb-false, ne_eqb, cond-true, cond-false, eq-eqb}
use Rattle.terms.specs.declared.Primitive.{Primitive}
use Rattle.terms.specs.declared.Primitive.TheVariants.{Same, Least, Most}
use Rattle.terms.specs.declared.Term.{Term}
use Rattle.terms.specs.declared.Term.TheVariants.{Value, Slot}
use Rattle.terms.specs.Values.{IsValue}
use Rattle.terms.specs.Primitives.{TermValid, PrimitiveValid}
use Rattle.rules.specs.Format.{number_bytes, value_bytes, term_bytes, primitive_bytes}
use Rattle.rules.specs.Parse.{got, after, index, value, term, primitive, guard}
use Rattle.rules.proofs.Codecs.{Codec, renamed, chosen, sequence, made_of}
use Rattle.rules.proofs.Numbers.{ranged_codec, index_codec, value_codec}

-- a term is its kind and what follows
abbrev term_kind : Term → ℕ
term_kind (Value v) = 0
term_kind (Slot k) = 1

abbrev term_rest : Term → List ℕ
term_rest (Value v) = value_bytes v
term_rest (Slot k) = number_bytes k

abbrev number_in : Term → ℤ
number_in (Value v) = v
number_in (Slot k) = pos 0

abbrev slot_in : Term → ℕ
slot_in (Value v) = 0
slot_in (Slot k) = k

term_bytes_are : (t : Term) → term_bytes t ≡ number_bytes (term_kind t) ++ term_rest t
term_bytes_are (Value v) = refl
term_bytes_are (Slot k) = refl

pub term_codec : (slots : ℕ) → slots ≤ 256 → Codec (term slots) term_bytes (TermValid slots)
term_codec slots h =
    renamed (sequence _ (λ kind. term_rest) (λ kind t. (term_kind t ≡ kind) × TermValid slots t) term_kind (ranged_codec 0 1 (omega arith)) rest (λ kind t w. w.0))
    (λ t _. term_bytes_are t) (λ t v. v.1.1) valid
  where
    valid : (t : Term) → TermValid slots t → ((0 ≤ term_kind t) × (term_kind t ≤ 1)) × ((term_kind t ≡ term_kind t) × TermValid slots t)
    valid (Value v) w = ((omega arith, omega arith), (refl, w))
    valid (Slot k) w = ((omega arith, omega arith), (refl, w))

    as_value : (kind : ℕ) → kind ≡ 0 → (t : Term) → (term_kind t ≡ kind) × TermValid slots t → IsValue (number_in t) × (Value (number_in t) ≡ t) × (term_rest t ≡ value_bytes (number_in t))
    as_value kind z (Value v) w = (w.1, refl, refl)
    as_value kind z (Slot k) w = absurd (omega (arith, w.0))

    as_slot : (kind : ℕ) → (kind ≡ 0 → ⊥) → (t : Term) → (term_kind t ≡ kind) × TermValid slots t → (slot_in t < slots) × (Slot (slot_in t) ≡ t) × (term_rest t ≡ number_bytes (slot_in t))
    as_slot kind z (Value v) w = absurd (z (sym w.0))
    as_slot kind z (Slot k) w = (w.1, refl, refl)

    rest : (kind : ℕ) → (0 ≤ kind) × (kind ≤ 1) → Codec (λ k s. cond (eqb kind 0) (after (value k s) (λ v. got (Value v))) (after (index slots k s) (λ n. got (Slot n)))) term_rest (λ t. (term_kind t ≡ kind) × TermValid slots t)
    rest kind b = chosen (eqb kind 0)
        (λ y. let z : kind ≡ 0 = eqb-true kind 0 y in
        renamed (made_of (λ v. Value v) number_in (λ t. (term_kind t ≡ kind) × TermValid slots t) value_codec (λ v r. ((sym z, r), refl)) (λ t w. let a = as_value kind z t w in (a.0, a.1)))
        (λ t w. (as_value kind z t w).2) (λ t w. w) (λ t w. w))
        (λ y. let z = eqb-false kind 0 y in
        renamed (made_of (λ n. Slot n) slot_in (λ t. (term_kind t ≡ kind) × TermValid slots t) (index_codec slots (omega arith)) (λ n r. ((omega arith, r), refl)) (λ t w. let a = as_slot kind z t w in (a.0, a.1)))
        (λ t w. (as_slot kind z t w).2) (λ t w. w) (λ t w. w))

-- a primitive is its kind, its left part and its right part
abbrev pub primitive_kind : Primitive Term → ℕ
primitive_kind (Same a b) = 0
primitive_kind (Least a n) = 1
primitive_kind (Most a n) = 2

abbrev left : Primitive Term → Term
left (Same a b) = a
left (Least a n) = a
left (Most a n) = a

abbrev right_term : Primitive Term → Term
right_term (Same a b) = b
right_term (Least a n) = a
right_term (Most a n) = a

abbrev right_number : Primitive Term → ℤ
right_number (Same a b) = pos 0
right_number (Least a n) = n
right_number (Most a n) = n

abbrev right_bytes : Primitive Term → List ℕ
right_bytes (Same a b) = term_bytes b
right_bytes (Least a n) = value_bytes n
right_bytes (Most a n) = value_bytes n

abbrev RightValid : ℕ → Primitive Term → Type 0
RightValid slots (Same a b) = TermValid slots b
RightValid slots (Least a n) = IsValue n
RightValid slots (Most a n) = IsValue n

-- all but the kind
abbrev pub primitive_rest : Primitive Term → List ℕ
primitive_rest p = term_bytes (left p) ++ right_bytes p

module _ (slots : ℕ) (h : slots ≤ 256) where
  abbrev Right : ℕ → Term → Primitive Term → Type 0
  Right kind a p = (left p ≡ a) × (primitive_kind p ≡ kind) × RightValid slots p

  same_right : (kind : ℕ) → kind ≡ 0 → (a : Term) (p : Primitive Term) → Right kind a p → TermValid slots (right_term p) × (Same a (right_term p) ≡ p) × (right_bytes p ≡ term_bytes (right_term p))
  same_right kind z a (Same x y) w = (w.2, ap (λ t. Same t y) (sym w.0), refl)
  same_right kind z a (Least x n) w = absurd (omega (arith, w.1))
  same_right kind z a (Most x n) w = absurd (omega (arith, w.1))

  abbrev bounded : ℕ → Term → ℤ → Primitive Term
  bounded kind a n = cond (eqb kind 1) (Least a n) (Most a n)

  bound_right : (kind : ℕ) → (kind ≡ 0 → ⊥) → (a : Term) (p : Primitive Term) → Right kind a p → IsValue (right_number p) × (bounded kind a (right_number p) ≡ p) × (right_bytes p ≡ value_bytes (right_number p))
  bound_right kind z a (Same x y) w = absurd (z (sym w.1))
  bound_right kind z a (Least x n) w = (w.2, cond-true _ _ _ (eq-eqb kind 1 (sym w.1)) ∙ ap (λ t. Least t n) (sym w.0), refl)
  bound_right kind z a (Most x n) w = (w.2, cond-false _ _ _ (ne_eqb kind 1 (omega (arith, w.1))) ∙ ap (λ t. Most t n) (sym w.0), refl)

  bound_made : (kind : ℕ) → (kind ≡ 0 → ⊥) → kind ≤ 2 → (a : Term) (n : ℤ) → IsValue n → Right kind a (bounded kind a n) × (right_number (bounded kind a n) ≡ n)
  bound_made kind z b a n r = cond_both (eqb kind 1) (Least a n) (Most a n) (λ p. Right kind a p × (right_number p ≡ n))
      (λ t. ((refl, sym (eqb-true kind 1 t), r), refl)) (λ t. let y = eqb-false kind 1 t in ((refl, omega arith, r), refl))

  right_codec : (kind : ℕ) → kind ≤ 2 → (a : Term) →
      Codec (λ k s. cond (eqb kind 0) (after (term slots k s) (λ b. got (Same a b))) (after (value k s) (λ n. got (bounded kind a n)))) right_bytes (Right kind a)
  right_codec kind b a = chosen (eqb kind 0)
      (λ y. let z : kind ≡ 0 = eqb-true kind 0 y in
      renamed (made_of (λ t. Same a t) right_term (Right kind a) (term_codec slots h) (λ t r. ((refl, sym z, r), refl)) (λ p w. let q = same_right kind z a p w in (q.0, q.1)))
      (λ p w. (same_right kind z a p w).2) (λ p w. w) (λ p w. w))
      (λ y. let z = eqb-false kind 0 y in
      renamed (made_of (bounded kind a) right_number (Right kind a) value_codec (bound_made kind z b a) (λ p w. let q = bound_right kind z a p w in (q.0, q.1)))
      (λ p w. (bound_right kind z a p w).2) (λ p w. w) (λ p w. w))

  parts_valid : (p : Primitive Term) → TermValid slots (left p) → RightValid slots p → PrimitiveValid slots p
  parts_valid (Same a b) v w = (v, w)
  parts_valid (Least a n) v w = (v, w)
  parts_valid (Most a n) v w = (v, w)

  valid_parts : (p : Primitive Term) → PrimitiveValid slots p → TermValid slots (left p) × RightValid slots p
  valid_parts (Same a b) v = v
  valid_parts (Least a n) v = v
  valid_parts (Most a n) v = v

  pub primitive_codec : (kind : ℕ) → kind ≤ 2 → Codec (primitive slots kind) primitive_rest (λ p. (primitive_kind p ≡ kind) × PrimitiveValid slots p)
  primitive_codec kind b =
      renamed (sequence _ (λ a. right_bytes) (Right kind) left (term_codec slots h) (λ a _. right_codec kind b a) (λ a p w. w.0))
      (λ p _. refl) (λ p v. (v.1.1, parts_valid p v.0 v.1.2)) (λ p v. let q = valid_parts p v.1 in (q.0, (refl, v.0, q.1)))

  pub primitive_kinds : (p : Primitive Term) → primitive_kind p ≤ 2
  primitive_kinds (Same a b) = omega arith
  primitive_kinds (Least a n) = omega arith
  primitive_kinds (Most a n) = omega arith

pub primitive_bytes_are : (p : Primitive Term) → primitive_bytes p ≡ number_bytes (primitive_kind p) ++ primitive_rest p
primitive_bytes_are (Same a b) = refl
primitive_bytes_are (Least a n) = refl
primitive_bytes_are (Most a n) = refl

pub guard_codec : (slots : ℕ) → slots ≤ 256 → Codec (guard slots) primitive_bytes (PrimitiveValid slots)
guard_codec slots h =
    renamed (sequence _ (λ kind. primitive_rest) (λ kind p. (primitive_kind p ≡ kind) × PrimitiveValid slots p) primitive_kind (ranged_codec 0 2 (omega arith)) (λ kind b. primitive_codec slots h kind b.1) (λ kind p w. w.0))
    (λ p _. primitive_bytes_are p) (λ p v. v.1.1) (λ p v. ((omega arith, primitive_kinds slots h p), (refl, v)))
