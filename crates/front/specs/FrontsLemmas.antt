-- Two tables as one, and what is put into one of them.
use Rattle.std.specs.Prelude.{◌≡◌, ℕ, Bool, true, false, cond, not, ◌||◌, List, [], ◌∷◌, ◌++◌, is_some, Option, Ok, Err, Result, nat_lt, refl}
use Rattle.std.proofs.Common.{sym, ap, ◌∙◌, inl, inr}
use Rattle.std.proofs.Math.Path.{fun_ext}
use Rattle.std.proofs.lemmas.Bool.{cases_eq, eq-eqb, ne_eqb, both_ways}
use Rattle.std.proofs.lemmas.List.{append-nil}
use Rattle.terms.specs.Lists.{All}
use Rattle.table.specs.Lists.{is_none, first}
use Rattle.table.specs.Records.{Record, fit, symbol_of}
use Rattle.table.specs.Tables.{Table, size, both, with_record, put_answer, put_after, judged}
use Rattle.table.specs.declared.put.PutRefusal.{PutRefusal}

pub all_append : {A : Type 0} (P : A → Type 0) (xs ys : List A) → All P xs → All P ys → All P (xs ++ ys)
all_append P [] ys p q = q
all_append P (x ∷ xs) ys p q = (p.0, all_append P xs ys p.1 q)

-- whether there is a symbol says whether there is a record
pub symbol_some : (rs : List Record) (o : Option ℕ) → o ≡ symbol_of (first rs) → is_some o ≡ not (is_none rs)
symbol_some [] o e = ap is_some e
symbol_some (r ∷ rs) o e = ap is_some e

-- where nothing stands behind, a put in front is a put; where nothing stands in front, a put behind is one
with_front : (s b : Table) (n : ℕ) (r : Record) → b n ≡ [] → both (with_record s n r) b ≡ with_record (both s b) n r
with_front s b n r e = fun_ext (λ i. elim (cases_eq n i) [
  | inl same ↦
      ap (λ t. cond t (cond (is_none (s n)) (r ∷ []) (s n)) (s i) ++ b i) (eq-eqb n i same)
      ∙ ap (λ zs. cond (is_none (s n)) (r ∷ []) (s n) ++ zs) (ap b (sym same) ∙ e)
      ∙ append-nil (cond (is_none (s n)) (r ∷ []) (s n))
      ∙ ap (λ zs. cond (is_none zs) (r ∷ []) zs) (sym (ap (λ ws. s n ++ ws) e ∙ append-nil (s n)))
      ∙ sym (ap (λ t. cond t (cond (is_none (s n ++ b n)) (r ∷ []) (s n ++ b n)) (s i ++ b i)) (eq-eqb n i same))
  | inr other ↦
      ap (λ t. cond t (cond (is_none (s n)) (r ∷ []) (s n)) (s i) ++ b i) (ne_eqb n i other)
      ∙ sym (ap (λ t. cond t (cond (is_none (s n ++ b n)) (r ∷ []) (s n ++ b n)) (s i ++ b i)) (ne_eqb n i other))
])

with_behind : (s b : Table) (n : ℕ) (r : Record) → s n ≡ [] → both s (with_record b n r) ≡ with_record (both s b) n r
with_behind s b n r e = fun_ext (λ i. elim (cases_eq n i) [
  | inl same ↦
      ap (λ t. s i ++ cond t (cond (is_none (b n)) (r ∷ []) (b n)) (b i)) (eq-eqb n i same)
      ∙ ap (λ zs. zs ++ cond (is_none (b n)) (r ∷ []) (b n)) (ap s (sym same) ∙ e)
      ∙ ap (λ zs. cond (is_none (zs ++ b n)) (r ∷ []) (zs ++ b n)) (sym e)
      ∙ sym (ap (λ t. cond t (cond (is_none (s n ++ b n)) (r ∷ []) (s n ++ b n)) (s i ++ b i)) (eq-eqb n i same))
  | inr other ↦
      ap (λ t. s i ++ cond t (cond (is_none (b n)) (r ∷ []) (b n)) (b i)) (ne_eqb n i other)
      ∙ sym (ap (λ t. cond t (cond (is_none (s n ++ b n)) (r ∷ []) (s n ++ b n)) (s i ++ b i)) (ne_eqb n i other))
])

pub put_front : (s b : Table) (n : ℕ) (r : Record) (a : Result (Unit {0}) PutRefusal) → b n ≡ [] → both (put_after s n r a) b ≡ put_after (both s b) n r a
put_front s b n r (Ok done) e = with_front s b n r e
put_front s b n r (Err refusal) e = refl

pub put_behind : (s b : Table) (n : ℕ) (r : Record) (a : Result (Unit {0}) PutRefusal) → s n ≡ [] → both s (put_after b n r a) ≡ put_after (both s b) n r a
put_behind s b n r (Ok done) e = with_behind s b n r e
put_behind s b n r (Err refusal) e = refl

-- where a record stands already, nothing changes
judged_known : (f m : Bool) (t : Table) (n : ℕ) (r : Record) → put_after t n r (judged f false m) ≡ t
judged_known true m t n r = refl
judged_known false m t n r = refl

pub known_kept : (t : Table) (limit n : ℕ) (q : Record) (u : Table) (r : Record) (a : Result (Unit {0}) PutRefusal) → is_none (t n) ≡ false → a ≡ put_answer t limit n q → put_after u n r a ≡ u
known_kept t limit n q u r a e h =
    ap (put_after u n r) (h ∙ ap (λ b. judged (fit n q) b (nat_lt (size t) limit)) e) ∙ judged_known (fit n q) (nat_lt (size t) limit) u n r

-- the answer is the same where a record stands already in each of two tables, and where none does in either and there is room in both or in neither
pub same_known : (t u : Table) (l m n : ℕ) (r : Record) → is_none (t n) ≡ false → is_none (u n) ≡ false → put_answer t l n r ≡ put_answer u m n r
same_known t u l m n r e h = ap (λ b. judged (fit n r) b (nat_lt (size t) l)) e ∙ go (fit n r) (nat_lt (size t) l) (nat_lt (size u) m) ∙ sym (ap (λ b. judged (fit n r) b (nat_lt (size u) m)) h)
  where
    go : (f x y : Bool) → judged f false x ≡ judged f false y
    go true x y = refl
    go false x y = refl

pub same_room : (t u : Table) (l m n : ℕ) (r : Record) → is_none (t n) ≡ is_none (u n) → nat_lt (size t) l ≡ nat_lt (size u) m → put_answer t l n r ≡ put_answer u m n r
same_room t u l m n r e h = ap (λ b. judged (fit n r) b (nat_lt (size t) l)) e ∙ ap (judged (fit n r) (is_none (u n))) h

-- the first of two lists, where the one before has any
pub first_some : {A : Type 0} (xs ys : List A) → is_none xs ≡ false → first xs ≡ first (xs ++ ys)
first_some [] ys e = absurd (both_ways true e refl)
first_some (x ∷ xs) ys e = refl

-- whether there is anything in one of two lists
pub some_append : {A : Type 0} (xs ys : List A) → not (is_none (xs ++ ys)) ≡ (not (is_none xs) || not (is_none ys))
some_append [] ys = refl
some_append (x ∷ xs) ys = refl
