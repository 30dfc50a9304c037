-- A walk along a chain to the last row below an identifier.
use Rattle.std.proofs.Common.{◌≡◌, ℕ, zero, suc, ◌<◌, ◌≤◌, true, false, List, length, get_or, Some, None, Option, subst, arith}
use Rattle.table.specs.Nexts.{any_answers}
use Rattle.table.specs.Rows.{look, lawful}
use Rattle.table.specs.declared.row.Row.{Row}
use Rattle.table.proofs.Positions.{blank}
use Rattle.chain.specs.Chains.{To, Stands, Before}
use Rattle.chain.proofs.Places.{zero_answers, to_symbol}

-- A walk that has come past the rows of a symbol below an identifier, to the last of them and on.
abbrev pub Trail : List Row → ℕ → ℕ → Option ℕ → Option ℕ → Type 0
Trail rows s n None at = To rows at s 0
Trail rows s n (Some k) at = (k < length rows) × ((d : Row) → ((get_or rows k d).symbol ≡ s) × ((get_or rows k d).identifier < n) × To rows at s (get_or rows k d).identifier)

trail_low : (xs : List Row) (s n : ℕ) (last at : Option ℕ) → Trail xs s n last at → (low : ℕ) × To xs at s low
trail_low xs s n None at tr = (0, tr)
trail_low xs s n (Some j) at tr = ((get_or xs j blank).identifier, (tr.1 blank).2)

pub trail_next : (xs : List Row) (s n : ℕ) (last o : Option ℕ) (k : ℕ) (x : Row) → lawful xs ≡ true → Trail xs s n last (Some k) → Stands xs k x o → x.identifier < n → Trail xs s n (Some k) o
trail_next xs s n last o k x h tr st l =
    let at = trail_low xs s n last (Some k) tr in (
      at.1.0,
      λ d.
          let symbol_at = to_symbol xs k s at.0 d h at.1 in (
            symbol_at,
            subst (λ (y : Row). y.identifier < n) (st.at d) l,
            subst (λ v. To xs o v (get_or xs k d).identifier) symbol_at (subst (λ (y : Row). To xs o y.symbol y.identifier) (st.at d) st.next),
          ),
    )

gap : (xs : List Row) (s n : ℕ) → lawful xs ≡ true → ((i : ℕ) → 0 < i → i < n → any_answers (Some s) None (look xs i) ≡ false) → (i : ℕ) → i < n → any_answers (Some s) None (look xs i) ≡ false
gap xs s n h f zero l = zero_answers xs s h
gap xs s n h f (suc i) l = f (suc i) (omega arith) l

pub trail_stop : (xs : List Row) (s n : ℕ) (last : Option ℕ) (k : ℕ) (x : Row) (o : Option ℕ) → lawful xs ≡ true → Trail xs s n last (Some k) → Stands xs k x o → n ≤ x.identifier → Before xs s n last
trail_stop xs s n None k x o h tr st l =
    let le : n ≤ (get_or xs k x).identifier = subst (λ (y : Row). n ≤ y.identifier) (st.at x) l in
    gap xs s n h (λ i a b. (tr.1 x).2 i a (omega arith))
trail_stop xs s n (Some j) k x o h tr st l =
    let le : n ≤ (get_or xs k x).identifier = subst (λ (y : Row). n ≤ y.identifier) (st.at x) l in
    (tr.0, λ d. ((tr.1 d).0, (tr.1 d).1, λ i a b. ((tr.1 d).2.1 x).2 i a (omega arith)))

pub trail_end : (xs : List Row) (s n : ℕ) (last : Option ℕ) → lawful xs ≡ true → Trail xs s n last None → Before xs s n last
trail_end xs s n None h tr = gap xs s n h (λ i a b. tr i a)
trail_end xs s n (Some j) h tr = (tr.0, λ d. ((tr.1 d).0, (tr.1 d).1, λ i a b. (tr.1 d).2 i a))
