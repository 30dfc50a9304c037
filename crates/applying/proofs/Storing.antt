-- A table takes every constraint of a filled body. Assumes nothing.
use Rattle.std.proofs.Common.{◌≡◌, ℕ, ◌+◌, ◌-◌, ◌<◌, ◌≤◌, min, cond, ◌⊎◌, inl, inr, sym, ap, ap₂, ◌∙◌, Bool, true, false, ◌&&◌, T, ltb, leb, List, [], ◌∷◌, map, length, get_or, pos, negsuc, refl, arith}
use lib.Signed.{le_z}
use Rattle.std.proofs.lemmas.List.{length-map}
use Rattle.std.proofs.lemmas.Bool.{cases_lt, and_parts, and_from, lt-ltb, le-leb, cond_both}
use Rattle.terms.specs.declared.Operand.{Operand}
use Rattle.terms.specs.declared.Operand.TheVariants.{Variable}
use Rattle.terms.specs.declared.Term.{Term}
use Rattle.terms.specs.declared.Term.TheVariants as term
use Rattle.terms.specs.Lists.{All}
use Rattle.terms.specs.declared.Primitive.{Primitive}
use Rattle.terms.specs.declared.Primitive.TheVariants as primitive
use Rattle.terms.specs.Primitives.{TermValid, PrimitiveValid}
use Rattle.rules.specs.Books.{Goal, tell, add}
use Rattle.rules.specs.Valids.{GoalValid}
use Rattle.rulefile.specs.declared.loaded.Rules.{Rules}
use Rattle.rulefile.specs.Rulebooks.{rules_book}
use Rattle.rules.proofs.Slots.{few_each, few_slots}
use Rattle.rules.proofs.ValidOnce.{validity}
use Rattle.table.specs.declared.partner.PartnerTable as PartnerTable
use Rattle.table.specs.Lists.{first}
use Rattle.table.specs.Records.{Record, fit, fitting, all_fitting}
use Rattle.machine.specs.Matching.{fill, fill_primitive, fill_goal, arguments_of}
use Rattle.machine.specs.Tuples.{ids}
use Rattle.machine.proofs.Stores.{slot_all}
use Rattle.lists.specs.Entries.{storable}
use Rattle.seek.specs.Slots.{store_in, slot_in}
use Rattle.applying.specs.declared.body.Filler.{Filler}
use Rattle.applying.specs.Fillers.{Numbered, argument_counts, head_slots, operand_at, placed_at}

passed : (b : Bool) → T b → b ≡ true
passed true t = refl
passed false t = absurd t

abbrev Fitting : Operand → Type 0
Fitting o = fitting o ≡ true

each_fitting : (xs : List Operand) → all_fitting xs ≡ true → All Fitting xs
each_fitting [] e = tt
each_fitting (x ∷ xs) e = let p = and_parts (fitting x) (all_fitting xs) e in (p.0, each_fitting xs p.1)

record_fitting : (i : ℕ) (r : Record) → fit i r ≡ true → All Fitting r.arguments
record_fitting i r e =
    let a = and_parts (leb 1 i) (leb i 1_000_000 && (ltb r.symbol 32 && (leb (length r.arguments) 4 && all_fitting r.arguments))) e in
    let b = and_parts (leb i 1_000_000) (ltb r.symbol 32 && (leb (length r.arguments) 4 && all_fitting r.arguments)) a.1 in
    let c = and_parts (ltb r.symbol 32) (leb (length r.arguments) 4 && all_fitting r.arguments) b.1 in
    let d = and_parts (leb (length r.arguments) 4) (all_fitting r.arguments) c.1 in
    each_fitting r.arguments d.1

first_fitting : (i : ℕ) (rs : List Record) → All (λ r. fit i r ≡ true) rs → All Fitting (arguments_of (first rs))
first_fitting i [] f = tt
first_fitting i (r ∷ rs) f = record_fitting i r f.0

module _ (arities : List ℕ) (few : length arities ≤ 32) (short : (c : ℕ) → get_or arities c 0 ≤ 4) (n : ℕ) (at : ℕ → Operand) (fits : (k : ℕ) → Fitting (at k)) where
  fill_fitting : (t : Term) → TermValid n t → Fitting (fill at t)
  fill_fitting (term.Value v) h = and_from (le_z (negsuc 999_999) v) (le_z v (pos 1_000_000)) (passed (le_z (negsuc 999_999) v) h.0.le) (passed (le_z v (pos 1_000_000)) h.1.le)
  fill_fitting (term.Slot k) h = fits k

  fill_all : (ts : List Term) → All (TermValid n) ts → all_fitting (map (fill at) ts) ≡ true
  fill_all [] h = refl
  fill_all (t ∷ ts) h = and_from (fitting (fill at t)) (all_fitting (map (fill at) ts)) (fill_fitting t h.0) (fill_all ts h.1)

  -- a filled item of a valid body can be stored
  pub filled_storable : (g : Goal Term) → GoalValid arities n g → storable (fill_goal at g) ≡ true
  filled_storable (tell p) h = refl
  filled_storable (add c ts) h = and_from (ltb c 32) (leb (length (map (fill at) ts)) 4 && all_fitting (map (fill at) ts)) (lt-ltb c 32 (omega (arith, h.0, few))) (and_from (leb (length (map (fill at) ts)) 4) (all_fitting (map (fill at) ts)) (le-leb (length (map (fill at) ts)) 4 (omega (arith, length-map ts (fill at), h.1, short c))) (fill_all ts h.2))

-- loaded rules have 32 symbols at most, of four arguments at most
pub loaded_few : (r : Rules) → length (rules_book r).arities ≤ 32
loaded_few r = (validity (rules_book r) r.valid).few_symbols

pub loaded_short : (r : Rules) (c : ℕ) → get_or (rules_book r).arities c 0 ≤ 4
loaded_short r = few_each (rules_book r).arities (validity (rules_book r) r.valid).few_arguments

module _ {B : Type 0} (P : PartnerTable.Ghosts B) (fits : (t : B) (i : ℕ) → All (λ r. fit i r ≡ true) (P.records t i)) (f : Filler B) where
  slot_fitting : (k : ℕ) → Fitting (slot_in P f.slots k)
  slot_fitting = slot_all Fitting refl (argument_counts f) (store_in P f.slots.table.now) f.slots.heads.now (ids f.slots.tuple) (λ i m. first_fitting i (P.records f.slots.table.now i) (fits f.slots.table.now i))

  at_fitting : (k : ℕ) → Fitting (operand_at P f k)
  at_fitting k = cond_both (ltb k (head_slots f)) (slot_in P f.slots k) (Variable (f.made + (k - head_slots f))) Fitting (λ e. slot_fitting k) (λ e. refl)

  -- so is that of the code
  pub item_storable : (n : ℕ) (g : Goal Term) → GoalValid (argument_counts f) n g → storable (fill_goal (operand_at P f) g) ≡ true
  item_storable n g h = filled_storable (argument_counts f) (loaded_few f.slots.rules.now) (loaded_short f.slots.rules.now) n (operand_at P f) at_fitting g h

  -- where there are as many numbers, what the code puts in a slot is what stands there
  placed : (n k : ℕ) → Numbered f n → k < n → placed_at P f k ≡ operand_at P f k
  placed n k h l =
      let few : head_slots f ≤ 12 = omega (arith, few_slots (argument_counts f) (loaded_short f.slots.rules.now) f.slots.heads.now, h.few_heads) in
      let q : min (head_slots f) 255 ≡ head_slots f = omega (arith, few) in
      ap (λ (m : ℕ). cond (ltb k m) (slot_in P f.slots k) (Variable (min (f.made + (k - m)) 255))) q ∙ go (cases_lt k (head_slots f))
    where
      go : (k < head_slots f) ⊎ (head_slots f ≤ k) → cond (ltb k (head_slots f)) (slot_in P f.slots k) (Variable (min (f.made + (k - head_slots f)) 255)) ≡ operand_at P f k
      go (inl a) = let b = lt-ltb k (head_slots f) a in ap (λ z. cond z (slot_in P f.slots k) (Variable (min (f.made + (k - head_slots f)) 255))) b ∙ sym (ap (λ z. cond z (slot_in P f.slots k) (Variable (f.made + (k - head_slots f)))) b)
      go (inr a) = ap (λ (m : ℕ). cond (ltb k (head_slots f)) (slot_in P f.slots k) (Variable m)) (omega (arith, h.small, l, a))

  pub fill_placed : (n : ℕ) (t : Term) → Numbered f n → TermValid n t → fill (placed_at P f) t ≡ fill (operand_at P f) t
  fill_placed n (term.Value v) h e = refl
  fill_placed n (term.Slot k) h e = placed n k h e

  pub primitive_placed : (n : ℕ) (p : Primitive Term) → Numbered f n → PrimitiveValid n p → fill_primitive (placed_at P f) p ≡ fill_primitive (operand_at P f) p
  primitive_placed n (primitive.Same a b) h e = ap₂ primitive.Same (fill_placed n a h e.0) (fill_placed n b h e.1)
  primitive_placed n (primitive.Least a m) h e = ap (λ z. primitive.Least z m) (fill_placed n a h e.0)
  primitive_placed n (primitive.Most a m) h e = ap (λ z. primitive.Most z m) (fill_placed n a h e.0)
