-- One row less in a chain.
use Rattle.std.proofs.Common.{◌≡◌, ℕ, ◌+◌, ◌-◌, ◌<◌, true, false, cond, List, [], ◌∷◌, map, length, get_or, Some, None, Option, sym, ap, ◌∙◌, subst, inl, inr, arith}
use Rattle.std.proofs.Math.Path.{fun_ext}
use Rattle.std.specs.List.{remove}
use Rattle.std.proofs.lemmas.Bool.{cases_eq, cases_lt, eq-eqb, ne_eqb, lt-ltb, le-ltb}
use Rattle.std.proofs.lemmas.List.{length-map, get_or-map, get_or_default}
use Rattle.std.proofs.lemmas.List.Edits.{length-remove, get_or-remove_below, get_or-remove_above}
use Rattle.table.specs.Tables.{Table, without}
use Rattle.table.specs.Nexts.{NextOf, any_answers}
use Rattle.table.specs.Rows.{look, lawful}
use Rattle.table.specs.declared.row.Row.{Row}
use Rattle.table.specs.TablesLemmas.{without_here, without_other}
use Rattle.table.specs.Looks.{look_removed}
use Rattle.chain.specs.Chains.{To, Linked, shifted, relinked}
use Rattle.chain.proofs.Places.{one_place, to_symbol}

-- what does not answer does not after
still_none : (t : Table) (s n i : ℕ) → any_answers (Some s) None (t i) ≡ false → any_answers (Some s) None (without t (n ∷ []) i) ≡ false
still_none t s n i h = elim (cases_eq n i) [
  | inl e ↦ ap (any_answers (Some s) None) (without_here t n i e)
  | inr e ↦ ap (any_answers (Some s) None) (without_other t n i e) ∙ h
]

module _ (xs : List Row) (h : lawful xs ≡ true) (p : ℕ) (d₀ : Row) (lp : p < length xs) where
  gone : ℕ
  gone = (get_or xs p d₀).identifier

  table_is : look (remove xs p) ≡ without (look xs) ((get_or xs p d₀).identifier ∷ [])
  table_is = fun_ext (look_removed xs p d₀ lp h)

  -- a link to another place, moved
  moved : (k s low : ℕ) → (k ≡ p → ⊥) → k < length xs → ((d : Row) → NextOf (without (look xs) ((get_or xs p d₀).identifier ∷ [])) (Some s) None low (Some (get_or xs k d).identifier)) → To (remove xs p) (shifted p (Some k)) s low
  moved k s low ne l next = elim (cases_lt p k) [
    | inl lt ↦ subst (λ o. To (remove xs p) o s low) (sym (ap (λ b. cond b (Some (k - 1)) (Some k)) (lt-ltb p k lt))) (
      omega (arith, length-remove xs p lp),
      λ d.
          let at : get_or (remove xs p) (k - 1) d ≡ get_or xs k d = get_or-remove_above xs p d (k - 1) (omega arith) lp ∙ ap (λ j. get_or xs j d) (omega arith) in
          subst (λ t. NextOf t (Some s) None low (Some (get_or (remove xs p) (k - 1) d).identifier)) (sym table_is)
          (subst (λ (y : Row). NextOf (without (look xs) ((get_or xs p d₀).identifier ∷ [])) (Some s) None low (Some y.identifier)) (sym at) (next d)),
    )
    | inr ge ↦ subst (λ o. To (remove xs p) o s low) (sym (ap (λ b. cond b (Some (k - 1)) (Some k)) (le-ltb p k ge))) (
      omega (arith, length-remove xs p lp),
      λ d.
          let at : get_or (remove xs p) k d ≡ get_or xs k d = get_or-remove_below xs p d k (omega arith) lp in
          subst (λ t. NextOf t (Some s) None low (Some (get_or (remove xs p) k d).identifier)) (sym table_is)
          (subst (λ (y : Row). NextOf (without (look xs) ((get_or xs p d₀).identifier ∷ [])) (Some s) None low (Some y.identifier)) (sym at) (next d)),
    )
  ]

  apart : (k : ℕ) (d : Row) → (k ≡ p → ⊥) → k < length xs → (get_or xs p d₀).identifier ≡ (get_or xs k d).identifier → ⊥
  apart k d ne l e = ne (sym (one_place xs p k d h lp l (ap (λ (y : Row). y.identifier) (get_or_default xs p d d₀ lp) ∙ e)))

  -- the link of the row that goes, from before it
  skipped : (rest : Option ℕ) (s low : ℕ) → low < (get_or xs p d₀).identifier → ((i : ℕ) → low < i → i < (get_or xs p d₀).identifier → any_answers (Some s) None (look xs i) ≡ false) → To xs rest s (get_or xs p d₀).identifier → To (remove xs p) (shifted p rest) s low
  skipped None s low l none to =
      subst (λ t. NextOf t (Some s) None low None) (sym table_is) (λ i a. elim (cases_lt i (get_or xs p d₀).identifier) [
        | inl b ↦ still_none (look xs) s (get_or xs p d₀).identifier i (none i a b)
        | inr b ↦ elim (cases_eq (get_or xs p d₀).identifier i) [
          | inl e ↦ ap (any_answers (Some s) None) (without_here (look xs) (get_or xs p d₀).identifier i e)
          | inr e ↦ still_none (look xs) s (get_or xs p d₀).identifier i (to i (omega arith))
        ]
      ])
  skipped (Some m) s low l none to =
      let ne : m ≡ p → ⊥ = λ e. let q : (get_or xs m d₀).identifier ≡ (get_or xs p d₀).identifier = ap (λ j. (get_or xs j d₀).identifier) e in omega (arith, (to.1 d₀).0) in
      moved m s low ne to.0 (λ d.
      let next = to.1 d in (
        omega (arith, next.0),
        ap (any_answers (Some s) None) (without_other (look xs) (get_or xs p d₀).identifier (get_or xs m d).identifier (apart m d ne to.0)) ∙ next.1,
        λ i a c. elim (cases_lt i (get_or xs p d₀).identifier) [
          | inl b ↦ still_none (look xs) s (get_or xs p d₀).identifier i (none i a b)
          | inr b ↦ elim (cases_eq (get_or xs p d₀).identifier i) [
            | inl e ↦ ap (any_answers (Some s) None) (without_here (look xs) (get_or xs p d₀).identifier i e)
            | inr e ↦ still_none (look xs) s (get_or xs p d₀).identifier i (next.2 i (omega arith) c)
          ]
        ],
      ))

  pub to_cut : (o rest : Option ℕ) (s low : ℕ) → To xs rest (get_or xs p d₀).symbol (get_or xs p d₀).identifier → To xs o s low → To (remove xs p) (relinked p rest o) s low
  to_cut None rest s low tr to = subst (λ t. NextOf t (Some s) None low None) (sym table_is) (λ i a. still_none (look xs) s (get_or xs p d₀).identifier i (to i a))
  to_cut (Some k) rest s low tr to = elim (cases_eq k p) [
    | inl e ↦ subst (λ o. To (remove xs p) o s low) (sym (ap (λ b. cond b (shifted p rest) (shifted p (Some k))) (eq-eqb k p e)))
        (let at : To xs (Some p) s low = subst (λ j. To xs (Some j) s low) e to in
        skipped rest s low (at.1 d₀).0 (at.1 d₀).2 (subst (λ v. To xs rest v (get_or xs p d₀).identifier) (to_symbol xs p s low d₀ h at) tr))
    | inr ne ↦ subst (λ o. To (remove xs p) o s low) (sym (ap (λ b. cond b (shifted p rest) (shifted p (Some k))) (ne_eqb k p ne)))
        (moved k s low ne to.0 (λ d.
        let next = to.1 d in (
          next.0,
          ap (any_answers (Some s) None) (without_other (look xs) (get_or xs p d₀).identifier (get_or xs k d).identifier (apart k d ne to.0)) ∙ next.1,
          λ i a c. still_none (look xs) s (get_or xs p d₀).identifier i (next.2 i a c),
        )))
  ]

  pub linked_cut : (links heads : List (Option ℕ)) → Linked xs links heads → Linked (remove xs p) (map (relinked p (get_or links p None)) (remove links p)) (map (relinked p (get_or links p None)) heads)
  linked_cut links heads lk =
      let rest = get_or links p None in
      let f = relinked p rest in
      let tr = lk.others p lp d₀ in
      let pl : p < length links = omega (arith, lk.long) in
      let short : length (remove links p) ≡ length (remove xs p) = omega (arith, length-remove links p pl, length-remove xs p lp, lk.long) in
      record {
        long = length-map (remove links p) f ∙ short;
        wide = length-map heads f ∙ lk.wide;
        firsts = λ s l. subst (λ o. To (remove xs p) o s 0) (sym (get_or-map f heads s None None (omega (arith, lk.wide))))
            (to_cut (get_or heads s None) rest s 0 tr (lk.firsts s l));
        others = λ k l d. subst (λ o. To (remove xs p) o (get_or (remove xs p) k d).symbol (get_or (remove xs p) k d).identifier) (sym (get_or-map f (remove links p) k None None (omega (arith, short))))
            (elim (cases_lt k p) [
              | inl lt ↦
                  subst (λ o. To (remove xs p) (f o) (get_or (remove xs p) k d).symbol (get_or (remove xs p) k d).identifier) (sym (get_or-remove_below links p None k lt pl))
                  (subst (λ (y : Row). To (remove xs p) (f (get_or links k None)) y.symbol y.identifier) (sym (get_or-remove_below xs p d k lt lp))
                  (to_cut (get_or links k None) rest (get_or xs k d).symbol (get_or xs k d).identifier tr (lk.others k (omega arith) d)))
              | inr ge ↦
                  subst (λ o. To (remove xs p) (f o) (get_or (remove xs p) k d).symbol (get_or (remove xs p) k d).identifier) (sym (get_or-remove_above links p None k ge pl))
                  (subst (λ (y : Row). To (remove xs p) (f (get_or links (k + 1) None)) y.symbol y.identifier) (sym (get_or-remove_above xs p d k ge lp))
                  (to_cut (get_or links (k + 1) None) rest (get_or xs (k + 1) d).symbol (get_or xs (k + 1) d).identifier tr (lk.others (k + 1) (omega (arith, length-remove xs p lp)) d)))
            ]);
      }

-- the same, by what is known of each part
pub chained_cut : (xs ys : List Row) (links ls ls' heads heads' : List (Option ℕ)) (p : ℕ) (rest : Option ℕ) (d : Row) → lawful xs ≡ true → p < length xs → Linked xs links heads → ys ≡ remove xs p → ls ≡ remove links p → rest ≡ get_or links p None → ls' ≡ map (relinked p rest) ls → heads' ≡ map (relinked p rest) heads → Linked ys ls' heads'
chained_cut xs ys links ls ls' heads heads' p rest d h lp lk ey el er em eh =
    subst (λ zs. Linked zs ls' heads') (sym ey)
    (subst (λ ks. Linked (remove xs p) ks heads') (sym (em ∙ ap (map (relinked p rest)) el ∙ ap (λ o. map (relinked p o) (remove links p)) er))
    (subst (λ ks. Linked (remove xs p) (map (relinked p (get_or links p None)) (remove links p)) ks) (sym (eh ∙ ap (λ o. map (relinked p o) heads) er))
    (linked_cut xs h p d lp links heads lk)))
