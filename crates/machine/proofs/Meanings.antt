-- What two theories with one meaning share. Assumes nothing.
use Rattle.std.proofs.Common.{ℕ, ◌+◌, ◌<◌, ◌≤◌, Bool, true, false, T, ◌⊎◌, ◌↔◌, ℤ, pos, negsuc, ◌≤ℤ◌, sym, ap, ◌∙◌, subst, inl, inr, arith}
use lib.Signed.{le_z, le_z_yes}
use Rattle.terms.specs.declared.Operand.{Operand}
use Rattle.terms.specs.declared.Operand.TheVariants.{Value, Variable}
use Rattle.terms.specs.declared.Primitive.{Primitive}
use Rattle.terms.specs.declared.Primitive.TheVariants.{Same, Least, Most}
use Rattle.terms.specs.Values.{IsValue}
use Rattle.terms.specs.Domains.{Domain, Valuation}
use Rattle.theory.specs.Meanings.{Meaning, Known, KnownAll, Follows, Failed, Fixed, SameMeaning, Told, Made}
use Rattle.std.proofs.lemmas.Bool.{cases_lt}

pub dec_both : {A B : Type 0} → Dec A → Dec B → Dec (A × B)
dec_both (yes a) (yes b) = yes (a, b)
dec_both (yes a) (no n) = no (λ z. n z.1)
dec_both (no n) b = no (λ z. n z.0)

dec_test : (b : Bool) → Dec (T b)
dec_test true = yes tt
dec_test false = no (λ z. z)

dec_le : (a b : ℤ) → Dec (a ≤ℤ b)
dec_le a b = go (dec_test (le_z a b))
  where
    go : Dec (T (le_z a b)) → Dec (a ≤ℤ b)
    go (yes t) = yes (le_z_yes t)
    go (no n) = no (λ z. n z.le)

dec_value : (n : ℤ) → Dec (IsValue n)
dec_value n = dec_both (dec_le (negsuc 999_999) n) (dec_le n (pos 1_000_000))

dec_lt : (m n : ℕ) → Dec (m < n)
dec_lt m n = go (cases_lt m n)
  where
    go : (m < n) ⊎ (n ≤ m) → Dec (m < n)
    go (inl l) = yes l
    go (inr l) = no (λ k. omega arith)

dec_known : (made : ℕ) (x : Operand) → Dec (Known made x)
dec_known made (Value n) = dec_value n
dec_known made (Variable x) = dec_lt x made

dec_known_all : (made : ℕ) (p : Primitive Operand) → Dec (KnownAll made p)
dec_known_all made (Same a b) = dec_both (dec_known made a) (dec_known made b)
dec_known_all made (Least a n) = dec_both (dec_known made a) (dec_value n)
dec_known_all made (Most a n) = dec_both (dec_known made a) (dec_value n)

module _ {d : Domain} where
  pub same_back : (m n : Meaning d) → SameMeaning m n → SameMeaning n m
  same_back m n e = (sym e.0, λ v. ((e.1 v).1, (e.1 v).0))

  pub same_then : (m n k : Meaning d) → SameMeaning m n → SameMeaning n k → SameMeaning m k
  same_then m n k e f = (f.0 ∙ e.0, λ v. (λ z. (e.1 v).0 ((f.1 v).0 z), λ z. (f.1 v).1 ((e.1 v).1 z)))

  pub failed_same : (m n : Meaning d) → SameMeaning m n → Failed m → Failed n
  failed_same m n e f v a = f v ((e.1 v).0 a)

  pub fixed_same : (m n : Meaning d) → SameMeaning m n → (x : ℕ) → Fixed m x → Fixed n x
  fixed_same m n e x f = (subst (λ (z : ℕ). x < z) (sym e.0) f.0, λ v w a b. f.1 v w ((e.1 v).0 a) ((e.1 w).0 b))

  pub follows_same : (m n : Meaning d) → SameMeaning m n → (p : Primitive Operand) → Follows m p → Follows n p
  follows_same m n e p f = (subst (λ (z : ℕ). KnownAll z p) (sym e.0) f.0, λ v a. f.1 v ((e.1 v).0 a))

  -- after the same was told
  pub told_same : (m n m' n' : Meaning d) (p : Primitive Operand) → SameMeaning m n → Told m p m' → Told n p n' → SameMeaning m' n'
  told_same m n m' n' p e a b = (b.0 ∙ e.0 ∙ sym a.0, go (dec_known_all m.made p))
    where
      go : Dec (KnownAll m.made p) → (v : Valuation d) → n'.admits v ↔ m'.admits v
      go (yes k) v = let x = a.1 k v in let y = b.1 (subst (λ (z : ℕ). KnownAll z p) (sym e.0) k) v in (λ z. x.1 ((e.1 v).0 (y.0 z).0, (y.0 z).1), λ z. y.1 ((e.1 v).1 (x.0 z).0, (x.0 z).1))
      go (no k) v = let x = a.2 k v in let y = b.2 (λ z. k (subst (λ (i : ℕ). KnownAll i p) e.0 z)) v in (λ z. x.1 ((e.1 v).0 (y.0 z)), λ z. y.1 ((e.1 v).1 (x.0 z)))

  -- after as many were made
  pub made_same : (m n m' n' : Meaning d) (k : ℕ) → SameMeaning m n → Made m k m' → Made n k n' → SameMeaning m' n'
  made_same m n m' n' k e a b = (b.0 ∙ ap (λ (z : ℕ). z + k) e.0 ∙ sym a.0, λ v. (λ z. (a.1 v).1 ((e.1 v).0 ((b.1 v).0 z)), λ z. (b.1 v).1 ((e.1 v).1 ((a.1 v).0 z))))
