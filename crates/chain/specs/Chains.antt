-- Rows that are linked by rising identifier, those of each symbol. Assumes nothing.
use Rattle.std.specs.Prelude.{◌≡◌, ℕ, zero, suc, ◌-◌, ◌<◌, false, cond, List, [], ◌∷◌, length, get_or, Some, None, Option, ◌==◌, nat_lt, slice_index_or}
use Rattle.table.specs.Nexts.{NextOf, any_answers}
use Rattle.table.specs.Rows.{look}
use Rattle.table.specs.declared.row.Row.{Row}

-- a link to the row of a symbol with the least identifier above `low`, or to none where there is no such row
abbrev pub To : List Row → Option ℕ → ℕ → ℕ → Type 0
To rows None s low = NextOf (look rows) (Some s) None low None
To rows (Some k) s low = (k < length rows) × ((d : Row) → NextOf (look rows) (Some s) None low (Some (get_or rows k d).identifier))

-- for each symbol a link to its first row, and for each row a link to the next of its symbol
pub record Linked (rows : List Row) (links heads : List (Option ℕ)) : Type 0 where
  pub long : length links ≡ length rows
  pub wide : length heads ≡ 32
  pub firsts : (s : ℕ) → s < 32 → To rows (slice_index_or heads s None) s 0
  pub others : (k : ℕ) → k < length rows → (d : Row) → To rows (slice_index_or links k None) (get_or rows k d).symbol (get_or rows k d).identifier

-- the row at a place, with its link
pub record Stands (rows : List Row) (k : ℕ) (x : Row) (link : Option ℕ) : Type 0 where
  pub at : (d : Row) → x ≡ slice_index_or rows k d
  pub next : To rows link x.symbol x.identifier

-- the identifier at a place, 0 past the last
abbrev pub ident_at : List Row → ℕ → ℕ
ident_at [] k = 0
ident_at (x ∷ xs) zero = x.identifier
ident_at (x ∷ xs) (suc k) = ident_at xs k

-- what is left of a chain, as a number that falls
abbrev pub left : List Row → Option ℕ → ℕ
left rows None = 0
left rows (Some k) = 1000001 - ident_at rows k

-- a step along a chain from one link to the next, with the place and the row passed; none is passed at the end
abbrev pub Steps : List Row → Option ℕ → Option (ℕ × Row) → Option ℕ → Type 0
Steps rows at None next = (at ≡ None) × (next ≡ None)
Steps rows at (Some p) next = (at ≡ Some p.0) × Stands rows p.0 p.1 next

-- the last row of a symbol below an identifier, or none where there is no such row
abbrev pub Before : List Row → ℕ → ℕ → Option ℕ → Type 0
Before rows s n None = (i : ℕ) → i < n → any_answers (Some s) None (look rows i) ≡ false
Before rows s n (Some k) = (k < length rows) × ((d : Row) → ((get_or rows k d).symbol ≡ s) × ((get_or rows k d).identifier < n) × ((i : ℕ) → (get_or rows k d).identifier < i → i < n → any_answers (Some s) None (look rows i) ≡ false))

-- a link after the row at a place went: rows above that place stand one lower
abbrev pub shifted : ℕ → Option ℕ → Option ℕ
shifted p None = None
shifted p (Some k) = cond (nat_lt p k) (Some (k - 1)) (Some k)

-- the same, where a link to the row that went becomes that row's own, `rest`
abbrev pub relinked : ℕ → Option ℕ → Option ℕ → Option ℕ
relinked p rest None = None
relinked p rest (Some k) = cond (k == p) (shifted p rest) (shifted p (Some k))
