-- When a guard follows after a step, it followed before. Assumes nothing.
use Rattle.std.proofs.Common.{◌≡◌, ℕ, List, pos, Some, None, Option, refl, ap, subst, ap₂}
use lib.Signed.{le_z_yes}
use Rattle.terms.specs.declared.Operand.{Operand}
use Rattle.terms.specs.declared.Operand.TheVariants.{Value, Variable}
use Rattle.terms.specs.declared.Term.{Term}
use Rattle.terms.specs.declared.Term.TheVariants as term
use Rattle.terms.specs.declared.Primitive.{Primitive}
use Rattle.terms.specs.declared.Primitive.TheVariants.{Same, Least, Most}
use Rattle.terms.specs.Lists.{All}
use Rattle.terms.specs.Values.{IsValue}
use Rattle.terms.specs.Primitives.{map_primitive}
use Rattle.terms.specs.Domains.{Domain, Valuation, worth, TrueIn}
use Rattle.rules.specs.Books.{Rule, heads}
use Rattle.theory.specs.Meanings.{Meaning, Known, KnownAll, Follows, Failed}
use Rattle.table.specs.Records.{Record}
use Rattle.machine.specs.Lists.{◌∈◌}
use Rattle.machine.specs.Matching.{Store, Applies, fill, fill_primitive, head_slot, arguments_of}
use Rattle.machine.specs.Refined.{AllFixed}
use Rattle.machine.proofs.Members.{all_from, all_mem}
use Rattle.machine.proofs.Stores.{Agrees, matches_agree, slot_agrees, slot_all}

pub zero_is_value : IsValue (pos 0)
zero_is_value = (le_z_yes tt, le_z_yes tt)

-- what is known of a filled primitive is known where all that fills it is
pub known_fill : (m n : ℕ) (at : ℕ → Operand) → ((k : ℕ) → Known m (at k)) → (t : Term) → Known n (fill at t) → Known m (fill at t)
known_fill m n at a (term.Value v) k = k
known_fill m n at a (term.Slot i) k = a i

pub known_guard : (m n : ℕ) (at : ℕ → Operand) → ((k : ℕ) → Known m (at k)) → (g : Primitive Term) → KnownAll n (fill_primitive at g) → KnownAll m (fill_primitive at g)
known_guard m n at a (Same s t) k = (known_fill m n at a s k.0, known_fill m n at a t k.1)
known_guard m n at a (Least s v) k = (known_fill m n at a s k.0, k.1)
known_guard m n at a (Most s v) k = (known_fill m n at a s k.0, k.1)

module _ (d : Domain) where
  -- an operand stands for the same in both
  abbrev pub Alike : Valuation d → Valuation d → Operand → Type 0
  Alike v w x = worth d v x ≡ worth d w x

  alike_fill : (v w : Valuation d) (at : ℕ → Operand) → ((k : ℕ) → Alike v w (at k)) → (t : Term) → Alike v w (fill at t)
  alike_fill v w at a (term.Value n) = refl
  alike_fill v w at a (term.Slot i) = a i

  alike_guard : (v w : Valuation d) (at : ℕ → Operand) → ((k : ℕ) → Alike v w (at k)) → (g : Primitive Term) → map_primitive (worth d v) (fill_primitive at g) ≡ map_primitive (worth d w) (fill_primitive at g)
  alike_guard v w at a (Same s t) = ap₂ Same (alike_fill v w at a s) (alike_fill v w at a t)
  alike_guard v w at a (Least s n) = ap (λ x. Least x n) (alike_fill v w at a s)
  alike_guard v w at a (Most s n) = ap (λ x. Most x n) (alike_fill v w at a s)

  fixed_arguments : (m : Meaning d) (o : Option Record) → AllFixed m o → (v w : Valuation d) → m.admits v → m.admits w → All (Alike v w) (arguments_of o)
  fixed_arguments m None f v w av aw = tt
  fixed_arguments m (Some r) f v w av aw = all_from (Alike v w) r.arguments go
    where
      go : (x : Operand) → x ∈ r.arguments → worth d v x ≡ worth d w x
      go (Value n) k = refl
      go (Variable x) k = (f x k).1 v w av aw

  -- with the tuple's variables fixed, a guard that follows later, while something is admitted, followed before
  pub fixed_before : (m n : Meaning d) (arities : List ℕ) (store : Store) (hs is : List ℕ) → n.made ≡ m.made → ((v : Valuation d) → n.admits v → m.admits v) → (Failed n → ⊥) → ((i : ℕ) → i ∈ is → AllFixed m (store i)) → (g : Primitive Term) → Follows n (fill_primitive (head_slot arities store hs is) g) → Follows m (fill_primitive (head_slot arities store hs is) g)
  fixed_before m n arities store hs is e sub stands f g k = (subst (λ z. KnownAll z (fill_primitive (head_slot arities store hs is) g)) e k.0, λ w aw. go w aw (d.decided (map_primitive (worth d w) (fill_primitive (head_slot arities store hs is) g))))
    where
      same : (v w : Valuation d) → m.admits v → m.admits w → (j : ℕ) → Alike v w (head_slot arities store hs is j)
      same v w av aw = slot_all (Alike v w) refl arities store hs is (λ i c. fixed_arguments m (store i) (f i c) v w av aw)

      go : (w : Valuation d) → m.admits w → Dec (TrueIn d w (fill_primitive (head_slot arities store hs is) g)) → TrueIn d w (fill_primitive (head_slot arities store hs is) g)
      go w aw (yes t) = t
      go w aw (no r) = absurd (stands (λ v av. r (subst d.True (alike_guard v w (head_slot arities store hs is) (same v w (sub v av) aw) g) (k.1 v av))))

  -- where no valuation was lost, what follows of known operands followed before
  pub kept_before : (m n : Meaning d) (at : ℕ → Operand) → ((v : Valuation d) → m.admits v → n.admits v) → ((k : ℕ) → Known m.made (at k)) → (g : Primitive Term) → Follows n (fill_primitive at g) → Follows m (fill_primitive at g)
  kept_before m n at sup a g k = (known_guard m.made n.made at a g k.0, λ v av. k.1 v (sup v av))

  pub applies_before : (m n : Meaning d) (arities : List ℕ) (xs ys : Store) (r : Rule) (tuple : List ℕ) → Agrees xs ys tuple → ((g : Primitive Term) → Follows n (fill_primitive (head_slot arities xs (heads r) tuple) g) → Follows m (fill_primitive (head_slot arities xs (heads r) tuple) g)) → Applies n arities xs r tuple → Applies m arities ys r tuple
  applies_before m n arities xs ys r tuple w f a = record { matches = matches_agree xs ys (heads r) tuple w a.matches; distinct = a.distinct; guarded = subst (λ (at : ℕ → Operand). All (λ g. Follows m (fill_primitive at g)) r.guards) (λ j k. slot_agrees arities xs ys (heads r) tuple w a.matches k j) (all_from (λ g. Follows m (fill_primitive (head_slot arities xs (heads r) tuple) g)) r.guards (λ g k. f g (all_mem (λ h. Follows n (fill_primitive (head_slot arities xs (heads r) tuple) h)) a.guarded k))) }
