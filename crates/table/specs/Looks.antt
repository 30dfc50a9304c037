-- What becomes of the table that a list of rows means.
use Rattle.std.specs.Prelude.{◌≡◌, ℕ, zero, suc, ◌<◌, ◌≤◌, Bool, true, false, cond, ◌&&◌, List, [], ◌∷◌, ◌++◌, length, get_or, take, ◌==◌, ◌≢◌, nat_le, nat_lt, slice_index_or, refl}
use Rattle.std.proofs.Common.{sym, ap, ◌∙◌, subst, inl, inr, arith}
use Rattle.std.proofs.Math.Path.{fun_ext}
use Rattle.std.specs.List.{remove}
use Rattle.std.proofs.lemmas.Bool.{cases_eq, eq-eqb, ne_eqb, and_parts, and_from, leb-true, ltb-true, both_ways}
use Rattle.terms.specs.Lists.{All}
use Rattle.table.specs.Lists.{is_none}
use Rattle.table.specs.Records.{Record, fit, all_fitting}
use Rattle.table.specs.Tables.{size, with_record, both, without}
use Rattle.table.specs.Rows.{record_of, look, lawful}
use Rattle.table.specs.declared.row.Row.{Row}
use Rattle.table.specs.TablesLemmas.{only, none_is, tally_none, size_both, size_only, with_both, without_here, without_other}

-- the parts of `lawful`
pub record Parts (x : Row) (xs : List Row) : Type 0 where
  pub fits : fit x.identifier (record_of x) ≡ true
  pub fresh : is_none (look xs x.identifier) ≡ true
  pub rest : lawful xs ≡ true

pub parts : (x : Row) (xs : List Row) → lawful (x ∷ xs) ≡ true → Parts x xs
parts x xs h =
    let a = and_parts _ _ h in
    let b = and_parts _ _ a.1 in
    record { fits = a.0; fresh = b.0; rest = b.1 }

joined : (x : Row) (xs : List Row) → Parts x xs → lawful (x ∷ xs) ≡ true
joined x xs p = and_from _ _ p.fits (and_from _ _ p.fresh p.rest)

-- the parts of `fit`
pub low_fit : (i : ℕ) (r : Record) → fit i r ≡ true → 1 ≤ i
low_fit i r h = leb-true 1 i (and_parts _ _ h).0

pub high_fit : (i : ℕ) (r : Record) → fit i r ≡ true → i ≤ 1000000
high_fit i r h = leb-true i 1000000 (and_parts _ _ (and_parts _ _ h).1).0

pub symbol_fit : (i : ℕ) (r : Record) → fit i r ≡ true → r.symbol < 32
symbol_fit i r h = ltb-true r.symbol 32 (third (nat_le 1 i) (nat_le i 1000000) (nat_lt r.symbol 32) (nat_le (length r.arguments) 4 && all_fitting r.arguments) h)
  where
    third : (a b c d : Bool) → (a && (b && (c && d))) ≡ true → c ≡ true
    third a b c d e = (and_parts c d (and_parts b (c && d) (and_parts a (b && (c && d)) e).1).1).0

-- the first row's identifier, and another
pub look_here : (x : Row) (xs : List Row) (i : ℕ) → x.identifier ≡ i → look (x ∷ xs) i ≡ record_of x ∷ look xs i
look_here x xs i e = ap (λ b. cond b (record_of x ∷ look xs i) (look xs i)) (eq-eqb x.identifier i e)

pub look_other : (x : Row) (xs : List Row) (i : ℕ) → (x.identifier ≢ i) → look (x ∷ xs) i ≡ look xs i
look_other x xs i e = ap (λ b. cond b (record_of x ∷ look xs i) (look xs i)) (ne_eqb x.identifier i e)

-- rows after rows are tables side by side
pub look_append : (xs ys : List Row) (i : ℕ) → look (xs ++ ys) i ≡ look xs i ++ look ys i
look_append [] ys i = refl
look_append (x ∷ xs) ys i = ap (λ zs. cond (x.identifier == i) (record_of x ∷ zs) zs) (look_append xs ys i) ∙ go (x.identifier == i) (look xs i)
  where
    go : (b : Bool) (zs : List Record) → cond b (record_of x ∷ (zs ++ look ys i)) (zs ++ look ys i) ≡ cond b (record_of x ∷ zs) zs ++ look ys i
    go true zs = refl
    go false zs = refl

pub look_first : (x : Row) (xs : List Row) → look (x ∷ xs) ≡ both (only x.identifier (record_of x)) (look xs)
look_first x xs = fun_ext (λ i. go (x.identifier == i) (look xs i))
  where
    go : (b : Bool) (zs : List Record) → cond b (record_of x ∷ zs) zs ≡ cond b (record_of x ∷ []) [] ++ zs
    go true zs = refl
    go false zs = refl

pub look_last : (xs : List Row) (x : Row) → look (xs ++ x ∷ []) ≡ both (look xs) (only x.identifier (record_of x))
look_last xs x = fun_ext (λ i. look_append xs (x ∷ []) i)

pub look_push : (xs : List Row) (x : Row) → is_none (look xs x.identifier) ≡ true → look (xs ++ x ∷ []) ≡ with_record (look xs) x.identifier (record_of x)
look_push xs x h = look_last xs x ∙ sym (with_both (look xs) x.identifier (record_of x) h)

pub size_look : (xs : List Row) → lawful xs ≡ true → size (look xs) ≡ length xs
size_look [] h = tally_none 1000000
size_look (x ∷ xs) h =
    let p = parts x xs h in
    let a = size_both (only x.identifier (record_of x)) (look xs) in
    let b = size_only x.identifier (record_of x) (low_fit _ (record_of x) p.fits) (high_fit _ (record_of x) p.fits) in
    let d = size_look xs p.rest in
    ap size (look_first x xs) ∙ omega arith

-- a row that is found later is not the first
apart_from : (x : Row) (xs : List Row) (n : ℕ) → is_none (look (x ∷ xs) n) ≡ true → (x.identifier ≢ n) × (is_none (look xs n) ≡ true)
apart_from x xs n h = elim (cases_eq x.identifier n) [
  | inl same ↦ absurd (both_ways _ (ap is_none (look_here x xs n same)) h)
  | inr apart ↦ (apart, sym (ap is_none (look_other x xs n apart)) ∙ h)
]

pub lawful_push : (xs : List Row) (x : Row) → lawful xs ≡ true → fit x.identifier (record_of x) ≡ true → is_none (look xs x.identifier) ≡ true → lawful (xs ++ x ∷ []) ≡ true
lawful_push [] x h f e = joined x [] (record { fits = f; fresh = refl; rest = refl })
lawful_push (y ∷ ys) x h f e =
    let p = parts y ys h in
    let a = apart_from y ys x.identifier e in
    joined y (ys ++ x ∷ []) (record {
      fits = p.fits;
      fresh = ap is_none (look_append ys (x ∷ []) y.identifier ∙ ap (λ zs. zs ++ look (x ∷ []) y.identifier) (none_is _ p.fresh) ∙ look_other x [] y.identifier (λ z. a.0 (sym z)));
      rest = lawful_push ys x p.rest f a.1;
    })

pub lawful_take : (xs : List Row) (k : ℕ) → lawful xs ≡ true → lawful (take k xs) ≡ true
lawful_take [] zero h = refl
lawful_take [] (suc k) h = refl
lawful_take (x ∷ xs) zero h = refl
lawful_take (x ∷ xs) (suc k) h =
    let p = parts x xs h in
    joined x (take k xs) (record { fits = p.fits; fresh = none_take xs k x.identifier p.fresh; rest = lawful_take xs k p.rest })
  where
    none_take : (ys : List Row) (j n : ℕ) → is_none (look ys n) ≡ true → is_none (look (take j ys) n) ≡ true
    none_take [] zero n e = refl
    none_take [] (suc j) n e = refl
    none_take (y ∷ ys) zero n e = refl
    none_take (y ∷ ys) (suc j) n e =
        let a = apart_from y ys n e in
        ap is_none (look_other y (take j ys) n a.0) ∙ none_take ys j n a.1

-- no later row has the first one's identifier
pub look_at : (xs : List Row) (k : ℕ) (d : Row) → k < length xs → is_none (look xs (get_or xs k d).identifier) ≡ false
look_at [] k d l = absurd (omega arith)
look_at (x ∷ xs) zero d l = ap is_none (look_here x xs _ refl)
look_at (x ∷ xs) (suc k) d l =
    let n = (get_or xs k d).identifier in
    elim (cases_eq x.identifier n) [
      | inl same ↦ ap is_none (look_here x xs n same)
      | inr other ↦ ap is_none (look_other x xs n other) ∙ look_at xs k d (omega arith)
    ]

pub first_apart : (x : Row) (xs : List Row) (k : ℕ) (d : Row) → k < length xs → is_none (look xs x.identifier) ≡ true → x.identifier ≢ (get_or xs k d).identifier
first_apart x xs k d l h e = both_ways _ (look_at xs k d l) (ap (λ n. is_none (look xs n)) (sym e) ∙ h)

-- what stands at a place is all that is found by its identifier
pub look_read : (xs : List Row) (k : ℕ) (d : Row) → lawful xs ≡ true → k < length xs → look xs (get_or xs k d).identifier ≡ record_of (slice_index_or xs k d) ∷ []
look_read [] k d h l = absurd (omega arith)
look_read (x ∷ xs) zero d h l = look_here x xs _ refl ∙ ap (λ zs. record_of x ∷ zs) (none_is _ (parts x xs h).fresh)
look_read (x ∷ xs) (suc k) d h l =
    let p = parts x xs h in
    look_other x xs _ (first_apart x xs k d (omega arith) p.fresh) ∙ look_read xs k d p.rest (omega arith)

pub look_removed : (xs : List Row) (k : ℕ) (d : Row) → k < length xs → lawful xs ≡ true → (i : ℕ) → look (remove xs k) i ≡ without (look xs) ((get_or xs k d).identifier ∷ []) i
look_removed [] k d l h i = absurd (omega arith)
look_removed (x ∷ xs) zero d l h i =
    let p = parts x xs h in
    elim (cases_eq x.identifier i) [
      | inl same ↦ ap (look xs) (sym same) ∙ none_is _ p.fresh ∙ sym (without_here (look (x ∷ xs)) x.identifier i same)
      | inr other ↦ sym (without_other (look (x ∷ xs)) x.identifier i other ∙ look_other x xs i other)
    ]
look_removed (x ∷ xs) (suc k) d l h i =
    let p = parts x xs h in
    let n = (get_or xs k d).identifier in
    let apart : x.identifier ≡ n → ⊥ = first_apart x xs k d (omega arith) p.fresh in
    let rest = look_removed xs k d (omega arith) p.rest i in
    elim (cases_eq n i) [
      | inl same ↦ look_other x (remove xs k) i (λ e. apart (e ∙ sym same)) ∙ rest ∙ without_here (look xs) n i same ∙ sym (without_here (look (x ∷ xs)) n i same)
      | inr other ↦
          ap (λ zs. cond (x.identifier == i) (record_of x ∷ zs) zs) (rest ∙ without_other (look xs) n i other)
          ∙ sym (without_other (look (x ∷ xs)) n i other)
    ]

pub lawful_removed : (xs : List Row) (k : ℕ) (d : Row) → k < length xs → lawful xs ≡ true → lawful (remove xs k) ≡ true
lawful_removed [] k d l h = absurd (omega arith)
lawful_removed (x ∷ xs) zero d l h = (parts x xs h).rest
lawful_removed (x ∷ xs) (suc k) d l h =
    let p = parts x xs h in
    let n = (get_or xs k d).identifier in
    joined x (remove xs k) (record {
      fits = p.fits;
      fresh = ap is_none (look_removed xs k d (omega arith) p.rest x.identifier ∙ without_other (look xs) n x.identifier (λ e. first_apart x xs k d (omega arith) p.fresh (sym e))) ∙ p.fresh;
      rest = lawful_removed xs k d (omega arith) p.rest;
    })

pub look_fits : (xs : List Row) → lawful xs ≡ true → (i : ℕ) → All (λ r. fit i r ≡ true) (look xs i)
look_fits [] h i = tt
look_fits (x ∷ xs) h i =
    let p = parts x xs h in
    elim (cases_eq x.identifier i) [
      | inl same ↦ subst (λ zs. All (λ r. fit i r ≡ true) zs) (sym (look_here x xs i same)) (ap (λ n. fit n (record_of x)) (sym same) ∙ p.fits, look_fits xs p.rest i)
      | inr other ↦ subst (λ zs. All (λ r. fit i r ≡ true) zs) (sym (look_other x xs i other)) (look_fits xs p.rest i)
    ]
