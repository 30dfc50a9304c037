-- Rows by their places: each has an identifier of its own, and answers to its symbol.
use Rattle.std.proofs.Common.{◌≡◌, ℕ, zero, suc, ◌<◌, true, false, List, [], ◌∷◌, length, get_or, Some, None, sym, refl, ap, ◌∙◌, arith}
use Rattle.std.proofs.lemmas.Bool.{and_from, eq-eqb}
use Rattle.table.specs.Nexts.{any_answers}
use Rattle.table.specs.Rows.{look, lawful, record_of}
use Rattle.table.specs.declared.row.Row.{Row}
use Rattle.table.specs.Looks.{look_fits, look_read, parts, first_apart}
use Rattle.table.specs.NextsLemmas.{any_one, zero_none}
use Rattle.chain.specs.Chains.{To}
use Rattle.chain.proofs.Walks.{symbol_is}

-- rows at two places have two identifiers
pub one_place : (xs : List Row) (j k : ℕ) (d : Row) → lawful xs ≡ true → j < length xs → k < length xs → (get_or xs j d).identifier ≡ (get_or xs k d).identifier → j ≡ k
one_place [] j k d h l m e = absurd (omega arith)
one_place (x ∷ xs) zero zero d h l m e = refl
one_place (x ∷ xs) zero (suc k) d h l m e = absurd (first_apart x xs k d (omega arith) (parts x xs h).fresh e)
one_place (x ∷ xs) (suc j) zero d h l m e = absurd (first_apart x xs j d (omega arith) (parts x xs h).fresh (sym e))
one_place (x ∷ xs) (suc j) (suc k) d h l m e = ap suc (one_place xs j k d (parts x xs h).rest (omega arith) (omega arith) e)

-- a row of the symbol answers
pub row_answers : (xs : List Row) (k : ℕ) (d : Row) (s : ℕ) → lawful xs ≡ true → k < length xs → (get_or xs k d).symbol ≡ s → any_answers (Some s) None (look xs (get_or xs k d).identifier) ≡ true
row_answers xs k d s h l e = ap (any_answers (Some s) None) (look_read xs k d h l) ∙ any_one (Some s) None (record_of (get_or xs k d)) ∙ and_from _ _ (eq-eqb s (get_or xs k d).symbol (sym e)) refl

pub zero_answers : (xs : List Row) (s : ℕ) → lawful xs ≡ true → any_answers (Some s) None (look xs 0) ≡ false
zero_answers xs s h = zero_none (Some s) None (look xs 0) (look_fits xs h 0)

-- the symbol of the row that a link leads to
pub to_symbol : (xs : List Row) (k s low : ℕ) (d : Row) → lawful xs ≡ true → To xs (Some k) s low → (get_or xs k d).symbol ≡ s
to_symbol xs k s low d h to =
    sym (symbol_is s (record_of (get_or xs k d)) (sym (any_one (Some s) None (record_of (get_or xs k d))) ∙ ap (any_answers (Some s) None) (sym (look_read xs k d h to.0)) ∙ (to.1 d).1))
