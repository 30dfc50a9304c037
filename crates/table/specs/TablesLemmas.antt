-- Tables side by side, with a record more and with records less, and their sizes.
use Rattle.std.specs.Prelude.{◌≡◌, ℕ, zero, suc, ◌+◌, ◌<◌, ◌≤◌, Bool, true, false, cond, ◌&&◌, List, [], ◌∷◌, ◌++◌, length, ◌==◌, ◌≢◌, refl}
use Rattle.std.proofs.Common.{sym, ap, ◌∙◌, inl, inr, arith, length-append}
use Rattle.std.proofs.Math.Path.{fun_ext}
use Rattle.std.proofs.lemmas.Bool.{cases_eq, eq-eqb, ne_eqb, both_ways, cond-true}
use Rattle.std.proofs.lemmas.List.{append-nil}
use Rattle.table.specs.Lists.{is_none, memberb}
use Rattle.table.specs.Records.{Record}
use Rattle.table.specs.Tables.{Table, tally, size, nothing, with_record, both, without}

-- one record
abbrev pub only : ℕ → Record → Table
only n r i = cond (n == i) (r ∷ []) []

pub none_is : {A : Type 0} (xs : List A) → is_none xs ≡ true → xs ≡ []
none_is [] h = refl
none_is (x ∷ xs) h = absurd (both_ways false refl h)

pub none_append : {A : Type 0} (xs ys : List A) → is_none (xs ++ ys) ≡ (is_none xs && is_none ys)
none_append [] ys = refl
none_append (x ∷ xs) ys = refl

-- one step of a tally
pub tally_more : (t : Table) (n : ℕ) → tally t (suc n) ≡ length (t (suc n)) + tally t n
unfolding tally
tally_more t n = refl

pub tally_none : (n : ℕ) → tally nothing n ≡ 0
unfolding tally
tally_none zero = refl
tally_none (suc n) = let e = tally_none n in omega arith

pub tally_both : (s t : Table) (n : ℕ) → tally (both s t) n ≡ tally s n + tally t n
unfolding tally
tally_both s t zero = refl
tally_both s t (suc n) =
    let e = tally_both s t n in
    let l = length-append (s (suc n)) (t (suc n)) in
    let a = tally_more (both s t) n in
    let b = tally_more s n in
    let d = tally_more t n in
    omega arith

pub size_both : (s t : Table) → size (both s t) ≡ size s + size t
size_both s t = tally_both s t 1000000

only_here : (n : ℕ) (r : Record) (i : ℕ) → n ≡ i → length (only n r i) ≡ 1
only_here n r i e = ap (λ b. length (cond b (r ∷ []) [])) (eq-eqb n i e)

only_other : (n : ℕ) (r : Record) (i : ℕ) → (n ≢ i) → length (only n r i) ≡ 0
only_other n r i e = ap (λ b. length (cond b (r ∷ []) [])) (ne_eqb n i e)

-- a record past the last identifier counted, and one among them
tally_past : (n : ℕ) (r : Record) (m : ℕ) → m < n → tally (only n r) m ≡ 0
unfolding tally
tally_past n r zero l = refl
tally_past n r (suc m) l =
    let e = tally_past n r m (omega arith) in
    let h = only_other n r (suc m) (λ z. omega arith) in
    let a = tally_more (only n r) m in
    omega arith

tally_only : (n : ℕ) (r : Record) (m : ℕ) → 1 ≤ n → n ≤ m → tally (only n r) m ≡ 1
tally_only n r zero p q = absurd (omega arith)
tally_only n r (suc m) p q =
    let a = tally_more (only n r) m in
    elim (cases_eq n (suc m)) [
      | inl same ↦ let h = only_here n r (suc m) same in let e = tally_past n r m (omega arith) in omega arith
      | inr apart ↦ let h = only_other n r (suc m) apart in let e = tally_only n r m p (omega arith) in omega arith
    ]

pub size_only : (n : ℕ) (r : Record) → 1 ≤ n → n ≤ 1000000 → size (only n r) ≡ 1
size_only n r p q = tally_only n r 1000000 p q

-- one record more
pub with_here : (t : Table) (n : ℕ) (r : Record) (i : ℕ) → is_none (t n) ≡ true → n ≡ i → with_record t n r i ≡ r ∷ []
with_here t n r i f e =
    ap (λ b. cond b (cond (is_none (t n)) (r ∷ []) (t n)) (t i)) (eq-eqb n i e) ∙ cond-true (is_none (t n)) (r ∷ []) (t n) f

pub with_other : (t : Table) (n : ℕ) (r : Record) (i : ℕ) → (n ≢ i) → with_record t n r i ≡ t i
with_other t n r i e = ap (λ b. cond b (cond (is_none (t n)) (r ∷ []) (t n)) (t i)) (ne_eqb n i e)

-- where none stands, one record more is one beside the others
pub with_both : (t : Table) (n : ℕ) (r : Record) → is_none (t n) ≡ true → with_record t n r ≡ both t (only n r)
with_both t n r f = fun_ext (λ i. elim (cases_eq n i) [
  | inl e ↦
      with_here t n r i f e
      ∙ sym (ap (λ b. t i ++ cond b (r ∷ []) []) (eq-eqb n i e)
      ∙ ap (λ xs. xs ++ r ∷ []) (ap t (sym e) ∙ none_is (t n) f))
  | inr e ↦ with_other t n r i e ∙ sym (ap (λ b. t i ++ cond b (r ∷ []) []) (ne_eqb n i e) ∙ append-nil (t i))
])

-- records less
pub without_here : (t : Table) (n i : ℕ) → n ≡ i → without t (n ∷ []) i ≡ []
without_here t n i e = ap (λ b. cond (cond b true false) [] (t i)) (eq-eqb i n (sym e))

pub without_other : (t : Table) (n i : ℕ) → (n ≢ i) → without t (n ∷ []) i ≡ t i
without_other t n i e = ap (λ b. cond (cond b true false) [] (t i)) (ne_eqb i n (λ z. e (sym z)))

pub without_both : (s t : Table) (gone : List ℕ) → both (without s gone) (without t gone) ≡ without (both s t) gone
without_both s t gone = fun_ext (λ i. go (memberb i gone) (s i) (t i))
  where
    go : (b : Bool) (xs ys : List Record) → cond b [] xs ++ cond b [] ys ≡ cond b [] (xs ++ ys)
    go true xs ys = refl
    go false xs ys = refl

-- nothing to take out
pub without_none : (t : Table) (n : ℕ) → t n ≡ [] → without t (n ∷ []) ≡ t
without_none t n f = fun_ext (λ i. elim (cases_eq n i) [
  | inl e ↦ without_here t n i e ∙ sym (ap t (sym e) ∙ f)
  | inr e ↦ without_other t n i e
])
