-- One row more in a chain.
use Rattle.std.proofs.Common.{◌≡◌, ℕ, zero, suc, ◌+◌, ◌<◌, ◌≤◌, true, false, List, [], ◌∷◌, ◌++◌, length, get_or, set, Some, None, Option, Ok, sym, refl, ap, ◌∙◌, subst, inl, inr, arith}
use Rattle.std.proofs.lemmas.Bool.{cases_eq, cases_lt, both_ways, and_from, and_left, eq-eqb, ne_eqb}
use Rattle.std.proofs.lemmas.List.{get_or_append_left, get_or_push, length_push, length-set, set-append_left, get_or-set_same, get_or-set_other, get_or_default}
use Rattle.terms.specs.declared.Operand.{Operand}
use Rattle.table.specs.Lists.{is_none}
use Rattle.table.specs.Records.{Record, recorded}
use Rattle.table.specs.Tables.{Table, with_record}
use Rattle.table.specs.Nexts.{NextOf, answers, any_answers}
use Rattle.table.specs.Rows.{look, lawful, record_of, Placed}
use Rattle.table.specs.declared.row.Row.{Row}
use Rattle.table.specs.TablesLemmas.{none_is, with_here, with_other, with_both}
use Rattle.table.specs.NextsLemmas.{any_one, next_both_not}
use Rattle.table.specs.Looks.{look_push}
use Rattle.chain.specs.Chains.{To, Linked, Before}
use Rattle.chain.proofs.Places.{one_place, row_answers, zero_answers}

-- a table with one record more that does not answer
next_with_not : (t : Table) (s low n : ℕ) (r : Record) (o : Option ℕ) → is_none (t n) ≡ true → NextOf t (Some s) None low o → (low < n → answers (Some s) None r ≡ false) → NextOf (with_record t n r) (Some s) None low o
next_with_not t s low n r o fresh least h = subst (λ u. NextOf u (Some s) None low o) (sym (with_both t n r fresh)) (next_both_not t n r (Some s) None low o least h)

-- a table with one record more, past the next
pub next_lower : (t : Table) (s n m low : ℕ) (r : Record) → m < n → NextOf t (Some s) None low (Some m) → NextOf (with_record t n r) (Some s) None low (Some m)
next_lower t s n m low r l next = (
  next.0,
  ap (any_answers (Some s) None) (with_other t n r m (λ e. omega arith)) ∙ next.1,
  λ i a b. ap (any_answers (Some s) None) (with_other t n r i (λ e. omega arith)) ∙ next.2 i a b,
)

module _ (xs : List Row) (h : lawful xs ≡ true) (x : Row) (fresh : is_none (look xs x.identifier) ≡ true) where
  table_is : look (xs ++ x ∷ []) ≡ with_record (look xs) x.identifier (record_of x)
  table_is = look_push xs x fresh

  old_at : (k : ℕ) (d : Row) → k < length xs → get_or (xs ++ x ∷ []) k d ≡ get_or xs k d
  old_at k d l = get_or_append_left xs (x ∷ []) d k l

  -- a link that stays as it is
  to_by : (o : Option ℕ) (s low : ℕ) → To xs o s low → ((p : Option ℕ) → NextOf (look xs) (Some s) None low p → NextOf (with_record (look xs) x.identifier (record_of x)) (Some s) None low p) → To (xs ++ x ∷ []) o s low
  to_by None s low to f = subst (λ t. NextOf t (Some s) None low None) (sym table_is) (f None to)
  to_by (Some k) s low to f = (
    omega (arith, length_push xs x, to.0),
    λ d. subst (λ t. NextOf t (Some s) None low (Some (get_or (xs ++ x ∷ []) k d).identifier)) (sym table_is)
        (subst (λ (y : Row). NextOf (with_record (look xs) x.identifier (record_of x)) (Some s) None low (Some y.identifier)) (sym (old_at k d to.0)) (f (Some (get_or xs k d).identifier) (to.1 d))),
  )

  pub to_kept : (o : Option ℕ) (s low : ℕ) → To xs o s low → (low < x.identifier → s ≡ x.symbol → ⊥) → To (xs ++ x ∷ []) o s low
  to_kept o s low to f =
      to_by o s low to (λ p next. next_with_not (look xs) s low x.identifier (record_of x) p fresh next
      (λ l. and_left _ _ (ne_eqb s x.symbol (f l))))

  -- the row before points past the new one's predecessor
  pub to_past : (o : Option ℕ) (s low b : ℕ) → To xs o s low → low < b → b < x.identifier → any_answers (Some s) None (look xs b) ≡ true → To (xs ++ x ∷ []) o s low
  to_past None s low b to l m a = absurd (both_ways _ (to b l) a)
  to_past (Some k) s low b to l m a = (
    omega (arith, length_push xs x, to.0),
    λ d.
        let next = to.1 d in
        let le : (get_or xs k d).identifier ≤ b = elim (cases_lt b (get_or xs k d).identifier) [
          | inl lt ↦ absurd (both_ways _ (next.2 b l lt) a)
          | inr ge ↦ ge
        ] in
        subst (λ t. NextOf t (Some s) None low (Some (get_or (xs ++ x ∷ []) k d).identifier)) (sym table_is)
        (subst (λ (y : Row). NextOf (with_record (look xs) x.identifier (record_of x)) (Some s) None low (Some y.identifier)) (sym (old_at k d to.0))
        (next_lower (look xs) s x.identifier (get_or xs k d).identifier low (record_of x) (omega arith) next)),
  )

  -- the link to the new row
  pub to_new : (s low : ℕ) → s ≡ x.symbol → low < x.identifier → ((i : ℕ) → low < i → i < x.identifier → any_answers (Some s) None (look xs i) ≡ false) → To (xs ++ x ∷ []) (Some (length xs)) s low
  to_new s low e l none = (
    omega (arith, length_push xs x),
    λ d. subst (λ t. NextOf t (Some s) None low (Some (get_or (xs ++ x ∷ []) (length xs) d).identifier)) (sym table_is)
        (subst (λ (y : Row). NextOf (with_record (look xs) x.identifier (record_of x)) (Some s) None low (Some y.identifier)) (sym (get_or_push xs x d (length xs) refl)) (
          l,
          ap (any_answers (Some s) None) (with_here (look xs) x.identifier (record_of x) x.identifier fresh refl) ∙ any_one (Some s) None (record_of x) ∙ and_from _ _ (eq-eqb s x.symbol e) refl,
          λ i a b. ap (any_answers (Some s) None) (with_other (look xs) x.identifier (record_of x) i (λ z. omega arith)) ∙ none i a b,
        )),
  )

  -- the new row's link
  pub to_rest : (o : Option ℕ) (s low : ℕ) → To xs o s low → low < x.identifier → ((i : ℕ) → low < i → i < x.identifier → any_answers (Some s) None (look xs i) ≡ false) → To (xs ++ x ∷ []) o s x.identifier
  to_rest None s low to l none = to_kept None s x.identifier (λ i a. to i (omega arith)) (λ z. absurd (omega arith))
  to_rest (Some k) s low to l none =
      to_kept (Some k) s x.identifier (
        to.0,
        λ d.
            let next = to.1 d in
            let gt : x.identifier < (get_or xs k d).identifier = elim (cases_lt x.identifier (get_or xs k d).identifier) [
              | inl lt ↦ lt
              | inr ge ↦ absurd (elim (cases_eq x.identifier (get_or xs k d).identifier) [
                | inl e ↦ both_ways _ (ap (any_answers (Some s) None) (none_is _ fresh)) (ap (λ i. any_answers (Some s) None (look xs i)) e ∙ next.1)
                | inr ne ↦ both_ways _ (none (get_or xs k d).identifier next.0 (omega arith)) next.1
              ])
            ] in
            (gt, next.1, λ i a b. next.2 i (omega arith) b),
      )
      (λ z. absurd (omega arith))

  at_old : (k : ℕ) (d : Row) (o : Option ℕ) → k < length xs → To (xs ++ x ∷ []) o (get_or xs k d).symbol (get_or xs k d).identifier → To (xs ++ x ∷ []) o (get_or (xs ++ x ∷ []) k d).symbol (get_or (xs ++ x ∷ []) k d).identifier
  at_old k d o l to = subst (λ (y : Row). To (xs ++ x ∷ []) o y.symbol y.identifier) (sym (old_at k d l)) to

  at_new : (k : ℕ) (d : Row) (o : Option ℕ) → length xs ≡ k → To (xs ++ x ∷ []) o x.symbol x.identifier → To (xs ++ x ∷ []) o (get_or (xs ++ x ∷ []) k d).symbol (get_or (xs ++ x ∷ []) k d).identifier
  at_new k d o e to = subst (λ (y : Row). To (xs ++ x ∷ []) o y.symbol y.identifier) (sym (get_or_push xs x d k e)) to

  -- before all of its symbol
  pub linked_first : (links heads : List (Option ℕ)) (s : ℕ) → s ≡ x.symbol → s < 32 → 1 ≤ x.identifier → Linked xs links heads → Before xs s x.identifier None → Linked (xs ++ x ∷ []) (links ++ get_or heads s None ∷ []) (set heads s (Some (length xs)))
  linked_first links heads s e l32 one lk bef = record {
    wide = length-set heads s (Some (length xs)) ∙ lk.wide;
    long = length_push links _ ∙ ap (λ n. n + 1) lk.long ∙ sym (length_push xs x);
    firsts = λ q l. elim (cases_eq q s) [
      | inl same ↦ subst (λ o. To (xs ++ x ∷ []) o q 0)
          (sym (ap (λ j. get_or (set heads s (Some (length xs))) j None) same ∙ get_or-set_same heads s (Some (length xs)) None (omega (arith, lk.wide))))
          (to_new q 0 (same ∙ e) (omega arith) (λ i a b. ap (λ j. any_answers (Some j) None (look xs i)) same ∙ bef i b))
      | inr other ↦ subst (λ o. To (xs ++ x ∷ []) o q 0) (sym (get_or-set_other heads s q (Some (length xs)) None other))
          (to_kept (get_or heads q None) q 0 (lk.firsts q l) (λ _ z. other (z ∙ sym e)))
    ];
    others = λ k l d. elim (cases_lt k (length xs)) [
      | inl lt ↦ subst (λ o. To (xs ++ x ∷ []) o (get_or (xs ++ x ∷ []) k d).symbol (get_or (xs ++ x ∷ []) k d).identifier)
          (sym (get_or_append_left links (get_or heads s None ∷ []) None k (omega (arith, lk.long))))
          (at_old k d (get_or links k None) lt
          (to_kept (get_or links k None) (get_or xs k d).symbol (get_or xs k d).identifier (lk.others k lt d)
          (λ below z. both_ways _ (bef (get_or xs k d).identifier below) (row_answers xs k d s h lt (z ∙ sym e)))))
      | inr ge ↦
          let k_is : length xs ≡ k = omega (arith, length_push xs x) in
          subst (λ o. To (xs ++ x ∷ []) o (get_or (xs ++ x ∷ []) k d).symbol (get_or (xs ++ x ∷ []) k d).identifier)
          (sym (get_or_push links (get_or heads s None) None k (lk.long ∙ k_is)))
          (at_new k d (get_or heads s None) k_is
          (subst (λ v. To (xs ++ x ∷ []) (get_or heads s None) v x.identifier) e
          (to_rest (get_or heads s None) s 0 (lk.firsts s l32) (omega arith) (λ i a b. bef i b))))
    ];
  }

  -- after a row of its symbol
  pub linked_after : (links heads : List (Option ℕ)) (s b : ℕ) → s ≡ x.symbol → Linked xs links heads → Before xs s x.identifier (Some b) → Linked (xs ++ x ∷ []) (set (links ++ get_or links b None ∷ []) b (Some (length xs))) heads
  linked_after links heads s b e lk bef =
      let at = bef.1 x in
      let ib = (get_or xs b x).identifier in
      let yes_b : any_answers (Some s) None (look xs ib) ≡ true = row_answers xs b x s h bef.0 at.0 in
      let links+ = links ++ get_or links b None ∷ [] in
      record {
        wide = lk.wide;
        long = length-set links+ b (Some (length xs)) ∙ length_push links _ ∙ ap (λ n. n + 1) lk.long ∙ sym (length_push xs x);
        firsts = λ q l. elim (cases_eq q s) [
          | inl same ↦ to_past (get_or heads q None) q 0 ib (lk.firsts q l)
              (positive ib yes_b) at.1 (ap (λ j. any_answers (Some j) None (look xs ib)) same ∙ yes_b)
          | inr other ↦ to_kept (get_or heads q None) q 0 (lk.firsts q l) (λ _ z. other (z ∙ sym e))
        ];
        others = λ k l d. elim (cases_eq k b) [
          | inl same ↦
              let b_is : (get_or xs k d).identifier ≡ ib = ap (λ j. (get_or xs j d).identifier) same ∙ ap (λ (y : Row). y.identifier) (get_or_default xs b d x bef.0) in
              let s_is : (get_or xs k d).symbol ≡ s = ap (λ j. (get_or xs j d).symbol) same ∙ ap (λ (y : Row). y.symbol) (get_or_default xs b d x bef.0) ∙ at.0 in
              subst (λ o. To (xs ++ x ∷ []) o (get_or (xs ++ x ∷ []) k d).symbol (get_or (xs ++ x ∷ []) k d).identifier)
              (sym (ap (λ j. get_or (set links+ b (Some (length xs))) j None) same ∙ get_or-set_same links+ b (Some (length xs)) None (omega (arith, length_push links (get_or links b None), lk.long, bef.0))))
              (at_old k d (Some (length xs)) (omega (arith, bef.0, same))
              (to_new (get_or xs k d).symbol (get_or xs k d).identifier (s_is ∙ e) (omega (arith, b_is, at.1))
              (λ i a c. ap (λ j. any_answers (Some j) None (look xs i)) s_is ∙ at.2 i (omega (arith, b_is)) c)))
          | inr other ↦
              subst (λ o. To (xs ++ x ∷ []) o (get_or (xs ++ x ∷ []) k d).symbol (get_or (xs ++ x ∷ []) k d).identifier)
              (sym (get_or-set_other links+ b k (Some (length xs)) None other))
              (elim (cases_lt k (length xs)) [
                | inl lt ↦ subst (λ o. To (xs ++ x ∷ []) o (get_or (xs ++ x ∷ []) k d).symbol (get_or (xs ++ x ∷ []) k d).identifier)
                    (sym (get_or_append_left links (get_or links b None ∷ []) None k (omega (arith, lk.long))))
                    (at_old k d (get_or links k None) lt (old_link k d lt other))
                | inr ge ↦
                    let k_is : length xs ≡ k = omega (arith, length_push xs x) in
                    subst (λ o. To (xs ++ x ∷ []) o (get_or (xs ++ x ∷ []) k d).symbol (get_or (xs ++ x ∷ []) k d).identifier)
                    (sym (get_or_push links (get_or links b None) None k (lk.long ∙ k_is)))
                    (at_new k d (get_or links b None) k_is
                    (subst (λ v. To (xs ++ x ∷ []) (get_or links b None) v x.identifier) e
                    (to_rest (get_or links b None) s ib (subst (λ v. To xs (get_or links b None) v ib) at.0 (lk.others b bef.0 x)) at.1 at.2)))
              ])
        ];
      }
    where
      positive : (i : ℕ) → any_answers (Some s) None (look xs i) ≡ true → 0 < i
      positive zero a = absurd (both_ways _ (zero_answers xs s h) a)
      positive (suc i) a = omega arith

      old_link : (k : ℕ) (d : Row) → k < length xs → (k ≡ b → ⊥) → To (xs ++ x ∷ []) (get_or links k None) (get_or xs k d).symbol (get_or xs k d).identifier
      old_link k d lt other = elim (cases_eq (get_or xs k d).symbol s) [
        | inr ne ↦ to_kept (get_or links k None) (get_or xs k d).symbol (get_or xs k d).identifier (lk.others k lt d) (λ _ z. ne (z ∙ sym e))
        | inl same ↦ elim (cases_lt (get_or xs k d).identifier x.identifier) [
          | inr ge ↦ to_kept (get_or links k None) (get_or xs k d).symbol (get_or xs k d).identifier (lk.others k lt d) (λ below _. omega arith)
          | inl below ↦
              let at = bef.1 d in
              let ib = (get_or xs b d).identifier in
              let ne : (get_or xs k d).identifier ≡ ib → ⊥ = λ z. other (one_place xs k b d h lt bef.0 z) in
              let le : (get_or xs k d).identifier ≤ ib = elim (cases_lt ib (get_or xs k d).identifier) [
                | inl gt ↦ absurd (both_ways _ (at.2 (get_or xs k d).identifier gt below) (row_answers xs k d s h lt same))
                | inr g ↦ g
              ] in
              to_past (get_or links k None) (get_or xs k d).symbol (get_or xs k d).identifier ib (lk.others k lt d) (omega arith) at.1
              (row_answers xs b d (get_or xs k d).symbol h bef.0 (at.0 ∙ sym same))
        ]
      ]

-- the same, by what is known of the row, where the link before it is led to it and gives what it was
pub chained_after : (xs ys : List Row) (links ls heads hs : List (Option ℕ)) (n s b m : ℕ) (zs : List Operand) (v : Option ℕ) → lawful xs ≡ true → is_none (look xs n) ≡ true → Linked xs links heads → Before xs s n (Some b) → Placed xs ys n (recorded s zs) (Ok tt) → v ≡ get_or links b None → ls ≡ set links b (Some m) ++ v ∷ [] → hs ≡ heads → m ≡ length xs → Linked ys ls hs
chained_after xs ys links ls heads hs n s b m zs v h fresh lk bef (x, ey, en, er) ev el eh em =
    let in_links : b < length links = omega (arith, bef.0, lk.long) in
    let ls_is : set (links ++ get_or links b None ∷ []) b (Some (length xs)) ≡ ls = set-append_left links (get_or links b None ∷ []) b (Some (length xs)) in_links ∙ ap (λ w. set links b (Some (length xs)) ++ w ∷ []) (sym ev) ∙ ap (λ k. set links b (Some k) ++ v ∷ []) (sym em) ∙ sym el in
    subst (λ bs. Linked bs ls hs) (sym ey)
    (subst (λ ks. Linked (xs ++ x ∷ []) ls ks) (sym eh)
    (subst (λ ks. Linked (xs ++ x ∷ []) ks heads) ls_is
    (linked_after xs h x (ap (λ k. is_none (look xs k)) en ∙ fresh) links heads s b (sym (ap (λ (q : Record). q.symbol) er)) lk
    (subst (λ k. Before xs s k (Some b)) (sym en) bef))))

pub chained_first : (xs ys : List Row) (links ls heads hs : List (Option ℕ)) (n s m : ℕ) (zs : List Operand) (v : Option ℕ) → lawful xs ≡ true → is_none (look xs n) ≡ true → s < 32 → 1 ≤ n → Linked xs links heads → Before xs s n None → Placed xs ys n (recorded s zs) (Ok tt) → v ≡ get_or heads s None → ls ≡ links ++ v ∷ [] → hs ≡ set heads s (Some m) → m ≡ length xs → Linked ys ls hs
chained_first xs ys links ls heads hs n s m zs v h fresh l32 one lk bef (x, ey, en, er) ev el eh em =
    subst (λ bs. Linked bs ls hs) (sym ey)
    (subst (λ ks. Linked (xs ++ x ∷ []) ls ks) (sym (eh ∙ ap (λ k. set heads s (Some k)) em))
    (subst (λ ks. Linked (xs ++ x ∷ []) ks (set heads s (Some (length xs)))) (sym (el ∙ ap (λ w. links ++ w ∷ []) ev))
    (linked_first xs h x (ap (λ k. is_none (look xs k)) en ∙ fresh) links heads s (sym (ap (λ (q : Record). q.symbol) er)) l32 (omega arith) lk
    (subst (λ k. Before xs s k None) (sym en) bef))))
