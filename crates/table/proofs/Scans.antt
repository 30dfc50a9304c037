-- A scan through rows, one row on. Assumes nothing.
use Rattle.std.proofs.Common.{◌≡◌, ℕ, ◌+◌, ◌<◌, true, false, List, [], ◌∷◌, ◌++◌, length, get_or, take, drop, ℤ, Some, Option, ◌≢◌, slice_index_or, sym, ap, ◌∙◌, subst, arith}
use Rattle.std.proofs.lemmas.List.{take_more, at_drop_more}
use Rattle.table.specs.Lists.{first}
use Rattle.table.specs.Tables.{both}
use Rattle.table.specs.Nexts.{NextOf, answers, lower}
use Rattle.table.specs.Rows.{record_of, look}
use Rattle.table.specs.declared.row.Row.{Row}
use Rattle.table.specs.TablesLemmas.{only}
use Rattle.table.specs.NextsLemmas.{next_both, next_only, next_both_not}
use Rattle.table.specs.Looks.{look_here, look_other, look_last}

-- a search that comes to the identifier, or passes another
pub found_at : (xs : List Row) (k : ℕ) (x : Row) (n : ℕ) → k < length xs → ((d : Row) → x ≡ slice_index_or xs k d) → x.identifier ≡ n → look (drop k xs) n ≡ look xs n → (d : Row) → ((get_or xs k d).identifier ≡ n) × (first (look xs n) ≡ Some (record_of (slice_index_or xs k d)))
found_at xs k x n l r i h d =
    let g : (get_or xs k d).identifier ≡ n = ap (λ (y : Row). y.identifier) (sym (r d)) ∙ i in (
      g,
      ap first (sym h ∙ at_drop_more (λ zs. look zs n) xs k d l ∙ look_here (slice_index_or xs k d) (drop (k + 1) xs) n g),
    )

pub passed_at : (xs : List Row) (k : ℕ) (x : Row) (n : ℕ) → k < length xs → ((d : Row) → x ≡ slice_index_or xs k d) → (x.identifier ≢ n) → look (drop k xs) n ≡ look xs n → look (drop (k + 1) xs) n ≡ look xs n
passed_at xs k x n l r i h =
    sym (at_drop_more (λ zs. look zs n) xs k x l
    ∙ look_other (slice_index_or xs k x) (drop (k + 1) xs) n (λ z. i (ap (λ (y : Row). y.identifier) (r x) ∙ z)))
    ∙ h

-- a scan for the least, one row on
pub look_more : (xs : List Row) (k : ℕ) (x : Row) → k < length xs → ((d : Row) → x ≡ slice_index_or xs k d) → look (take (k + 1) xs) ≡ both (look (take k xs)) (only x.identifier (record_of x))
look_more xs k x l r = ap look (take_more xs k x l ∙ ap (λ y. take k xs ++ y ∷ []) (sym (r x))) ∙ look_last (take k xs) x

pub next_more : (xs : List Row) (k : ℕ) (x : Row) (s : Option ℕ) (key : Option ℤ) (low n : ℕ) (o b : Option ℕ) → k < length xs → ((d : Row) → x ≡ slice_index_or xs k d) → NextOf (look (take k xs)) s key low o → n ≡ x.identifier → low < n → answers s key (record_of x) ≡ true → b ≡ lower o (Some n) → NextOf (look (take (k + 1) xs)) s key low b
next_more xs k x s key low n o b l r least i lt pass b_is =
    subst (λ t. NextOf t s key low b) (sym (look_more xs k x l r))
    (subst (λ c. NextOf (both (look (take k xs)) (only x.identifier (record_of x))) s key low c) (sym (b_is ∙ ap (λ m. lower o (Some m)) i))
    (next_both (look (take k xs)) (only x.identifier (record_of x)) s key low o (Some x.identifier) least
    (next_only x.identifier (record_of x) s key low (omega arith) pass)))

pub next_more_not : (xs : List Row) (k : ℕ) (x : Row) (s : Option ℕ) (key : Option ℤ) (low n : ℕ) (o b : Option ℕ) → k < length xs → ((d : Row) → x ≡ slice_index_or xs k d) → NextOf (look (take k xs)) s key low o → n ≡ x.identifier → (low < n → answers s key (record_of x) ≡ false) → b ≡ o → NextOf (look (take (k + 1) xs)) s key low b
next_more_not xs k x s key low n o b l r least i none b_is =
    subst (λ t. NextOf t s key low b) (sym (look_more xs k x l r))
    (subst (λ c. NextOf (both (look (take k xs)) (only x.identifier (record_of x))) s key low c) (sym b_is)
    (next_both_not (look (take k xs)) x.identifier (record_of x) s key low o least (λ lt. none (omega arith))))
