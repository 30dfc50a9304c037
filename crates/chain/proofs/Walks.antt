-- A walk along a chain.
use Rattle.std.proofs.Common.{◌≡◌, ℕ, zero, suc, ◌<◌, ◌≤◌, true, false, eqb, List, [], ◌∷◌, length, get_or, ℤ, Some, None, Option, sym, refl, ap, ◌∙◌, subst, inl, inr, arith}
use Rattle.std.proofs.lemmas.Bool.{cases_lt, cases_Bool, both_ways, and_parts, and_from, and_left, and_right, or_from, or_parts, eqb-true, eq-eqb, ne_eqb}
use Rattle.terms.specs.Lists.{All}
use Rattle.table.specs.Records.{Record, fit}
use Rattle.table.specs.Nexts.{NextOf, answers, any_answers, has_symbol}
use Rattle.table.specs.Rows.{look, lawful, record_of}
use Rattle.table.specs.declared.row.Row.{Row}
use Rattle.table.specs.Looks.{look_read, look_fits, high_fit, symbol_fit}
use Rattle.table.specs.NextsLemmas.{any_one}
use Rattle.chain.specs.Chains.{To, Stands, ident_at, left}

-- A walk along a chain has passed no answer.
abbrev pub Way : List Row → ℕ → Option ℤ → ℕ → Option ℕ → Type 0
Way rows s key above at = (low : ℕ) × To rows at s low × ((i : ℕ) → above < i → i ≤ low → any_answers (Some s) key (look rows i) ≡ false)

ident_is : (xs : List Row) (k : ℕ) (d : Row) → k < length xs → ident_at xs k ≡ (get_or xs k d).identifier
ident_is [] k d l = absurd (omega arith)
ident_is (x ∷ xs) zero d l = refl
ident_is (x ∷ xs) (suc k) d l = ident_is xs k d (omega arith)

-- what has not the symbol does not answer with a key either
pub no_key : (s : ℕ) (key : Option ℤ) (rs : List Record) → any_answers (Some s) None rs ≡ false → any_answers (Some s) key rs ≡ false
no_key s key [] h = refl
no_key s key (r ∷ rs) h =
    let p = or_parts _ _ h in
    or_from _ _ (elim (cases_Bool (has_symbol (Some s) r.symbol)) [
      | inl y ↦ absurd (both_ways _ p.0 (and_from _ _ y refl))
      | inr n ↦ and_left _ _ n
    ]) (no_key s key rs p.1)

-- the symbol of what answers
pub symbol_is : (s : ℕ) (r : Record) → answers (Some s) None r ≡ true → s ≡ r.symbol
symbol_is s r h = eqb-true _ _ (and_parts _ _ h).0

-- no record has a symbol past the last
pub past_symbols : (s : ℕ) (key : Option ℤ) (i : ℕ) (rs : List Record) → 32 ≤ s → All (λ r. fit i r ≡ true) rs → any_answers (Some s) key rs ≡ false
past_symbols s key i [] l f = refl
past_symbols s key i (r ∷ rs) l f =
    or_from _ _ (and_left _ _ (ne_eqb s r.symbol (λ e. omega (arith, symbol_fit i r f.0)))) (past_symbols s key i rs l f.1)

module _ (xs : List Row) (lawful_xs : lawful xs ≡ true) (s : ℕ) (key : Option ℤ) (above : ℕ) where
  -- before an identifier that the chain comes to, none answers
  before : (low n : ℕ) → NextOf (look xs) (Some s) None low (Some n) → ((i : ℕ) → above < i → i ≤ low → any_answers (Some s) key (look xs i) ≡ false) → (i : ℕ) → above < i → i < n → any_answers (Some s) key (look xs i) ≡ false
  before low n next none i a b = elim (cases_lt low i) [
    | inl c ↦ no_key s key (look xs i) (next.2 i c b)
    | inr c ↦ none i a c
  ]

  here : (k : ℕ) (x : Row) (low : ℕ) → k < length xs → x ≡ get_or xs k x → NextOf (look xs) (Some s) None low (Some (get_or xs k x).identifier) → (look xs x.identifier ≡ record_of x ∷ []) × (s ≡ x.symbol)
  here k x low l r next =
      let e : look xs x.identifier ≡ record_of x ∷ [] = ap (λ (y : Row). look xs y.identifier) r ∙ look_read xs k x lawful_xs l ∙ ap (λ y. record_of y ∷ []) (sym r) in
      (e, symbol_is s (record_of x) (sym (any_one (Some s) None (record_of x)) ∙ ap (any_answers (Some s) None) (sym e) ∙ ap (λ (y : Row). any_answers (Some s) None (look xs y.identifier)) r ∙ next.1))

  pub way_found : (k : ℕ) (x : Row) (o : Option ℕ) (n : ℕ) → Way xs s key above (Some k) → Stands xs k x o → n ≡ x.identifier → above < n → answers None key (record_of x) ≡ true → NextOf (look xs) (Some s) key above (Some n)
  way_found k x o n w st e a h =
      let r = st.at x in
      let at = here k x w.0 w.1.0 r (w.1.1 x) in
      let m : n ≡ (get_or xs k x).identifier = e ∙ ap (λ (y : Row). y.identifier) r in (
        a,
        ap (λ i. any_answers (Some s) key (look xs i)) e ∙ ap (any_answers (Some s) key) at.0
            ∙ any_one (Some s) key (record_of x) ∙ and_from _ _ (ap (λ v. eqb v x.symbol) at.1 ∙ eq-eqb x.symbol x.symbol refl) h,
        λ i b c. before w.0 (get_or xs k x).identifier (w.1.1 x) w.2 i b (omega arith),
      )

  pub way_passed : (k : ℕ) (x : Row) (o : Option ℕ) (n : ℕ) → Way xs s key above (Some k) → Stands xs k x o → n ≡ x.identifier → (above < n → answers None key (record_of x) ≡ false) → Way xs s key above o
  way_passed k x o n w st e h =
      let r = st.at x in
      let at = here k x w.0 w.1.0 r (w.1.1 x) in
      let m : (get_or xs k x).identifier ≡ n = sym (e ∙ ap (λ (y : Row). y.identifier) r) in (
        n,
        subst (λ i. To xs o s i) (sym e) (subst (λ v. To xs o v x.identifier) (sym at.1) st.next),
        λ i a b. elim (cases_lt i n) [
          | inl c ↦ before w.0 (get_or xs k x).identifier (w.1.1 x) w.2 i a (omega arith)
          | inr c ↦
              let q : i ≡ x.identifier = omega arith in
              ap (λ j. any_answers (Some s) key (look xs j)) q ∙ ap (any_answers (Some s) key) at.0 ∙ any_one (Some s) key (record_of x) ∙ and_right _ _ (h (omega arith))
        ],
      )

  pub way_ended : Way xs s key above None → NextOf (look xs) (Some s) key above None
  way_ended w i a = elim (cases_lt w.0 i) [
    | inl c ↦ no_key s key (look xs i) (w.1 i c)
    | inr c ↦ w.2 i a c
  ]

-- a step along a chain leaves less of it
pub chain_falls : (xs : List Row) (k : ℕ) (x : Row) (o : Option ℕ) → lawful xs ≡ true → k < length xs → Stands xs k x o → left xs o < left xs (Some k)
chain_falls xs k x o h l st = go o st.next
  where
    high : (get_or xs k x).identifier ≤ 1000000
    high = high_fit (get_or xs k x).identifier (record_of (get_or xs k x)) (subst (λ rs. All (λ r. fit (get_or xs k x).identifier r ≡ true) rs) (look_read xs k x h l) (look_fits xs h (get_or xs k x).identifier)).0

    go : (p : Option ℕ) → To xs p x.symbol x.identifier → left xs p < left xs (Some k)
    go None to = omega (arith, ident_is xs k x l, high)
    go (Some j) to = omega (arith, ident_is xs k x l, high, ap (λ (y : Row). y.identifier) (st.at x), ident_is xs j x to.0, (to.1 x).0)
