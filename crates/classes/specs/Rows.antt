-- Classes of variables as rows, and the valuations that they admit. Assumes nothing.
use Rattle.std.specs.Prelude.{◌≡◌, ℕ, zero, suc, ◌+◌, ◌*◌, ◌<◌, ◌≤◌, ◌↔◌, List, map, length, ℤ, slice_index, slice_index_or}
use Rattle.terms.specs.Values.{IsValue}
use Rattle.classes.specs.declared.row.ClassRow.{ClassRow}

-- the parent of each variable; one with no row is its own
abbrev pub parent_at : {C : Type 0} → List (ClassRow C) → ℕ → ℕ
parent_at rows i = slice_index_or (map (λ r. r.parent) rows) i i

-- its rank
abbrev pub rank_at : {C : Type 0} → List (ClassRow C) → ℕ → ℕ
rank_at rows i = slice_index (map (λ r. r.rank) rows) i

-- z is in what its row holds
abbrev pub held_at : {C : Type 0} → (C → ℤ → Type 0) → List (ClassRow C) → ℕ → ℤ → Type 0
held_at H rows i z = slice_index_or (map (λ r. H r.content z) rows) i ⊥

-- rows are ordered by rank, and among equals by place
abbrev pub standing_at : {C : Type 0} → List (ClassRow C) → ℕ → ℕ
standing_at rows i = 256 * rank_at rows i + i

-- there are at most 256 rows, and each row's parent is itself or a row that stands above it
abbrev pub Rooted : {C : Type 0} → List (ClassRow C) → Type 0
Rooted rows = (length rows ≤ 256) × ((i : ℕ) → i < length rows → (parent_at rows i < length rows) × (standing_at rows i ≤ standing_at rows (parent_at rows i)) × (rank_at rows i < 256))

-- k steps from parent to parent
abbrev pub climb : (ℕ → ℕ) → ℕ → ℕ → ℕ
climb p zero i = i
climb p (suc k) i = climb p k (p i)

-- more steps than standings
unfoldable pub steps : ℕ
steps = 65_536

-- the root of a variable's class
abbrev pub root_of : {C : Type 0} → List (ClassRow C) → ℕ → ℕ
root_of rows i = climb (parent_at rows) steps i

-- r is the root of x, and a row
pub record RootSays {C : Type 0} (rows : List (ClassRow C)) (x r : ℕ) : Type 0 where
  pub is : r ≡ root_of rows x
  pub within : r < length rows
  pub top : parent_at rows r ≡ r

-- r is a row with no row above it
abbrev pub IsRoot : {C : Type 0} → List (ClassRow C) → ℕ → Type 0
IsRoot rows r = (r < length rows) × (parent_at rows r ≡ r)

-- each of n variables has its parent's value, and each root one that it holds
abbrev pub Fits : ℕ → (ℕ → ℕ) → (ℕ → ℤ → Type 0) → (ℕ → ℤ) → Type 0
Fits n p h v = (i : ℕ) → i < n → (v i ≡ v (p i)) × (p i ≡ i → h i (v i))

-- every variable has a value
abbrev pub Valued : (ℕ → ℤ) → Type 0
Valued v = (x : ℕ) → IsValue (v x)

-- the valuations that rows admit
abbrev pub Admits : {C : Type 0} → (C → ℤ → Type 0) → List (ClassRow C) → (ℕ → ℤ) → Type 0
Admits H rows v = Valued v × Fits (length rows) (parent_at rows) (held_at H rows) v

-- b admits exactly the valuations of a in which P holds
pub record Restricted {C : Type 0} (H : C → ℤ → Type 0) (a : List (ClassRow C)) (P : (ℕ → ℤ) → Type 0) (b : List (ClassRow C)) : Type 0 where
  pub rooted : Rooted b
  pub size : length b ≡ length a
  pub admits : (v : ℕ → ℤ) → Admits H b v ↔ (Admits H a v × P v)

-- two roots, one above the other, and a content that is the meeting of theirs
pub record Linkable {C : Type 0} (H : C → ℤ → Type 0) (rows : List (ClassRow C)) (lower upper : ℕ) (c : C) : Type 0 where
  pub rooted : Rooted rows
  pub under : standing_at rows lower < standing_at rows upper
  pub lower_in : lower < length rows
  pub upper_in : upper < length rows
  pub lower_top : parent_at rows lower ≡ lower
  pub upper_top : parent_at rows upper ≡ upper
  pub meets : (z : ℤ) → H c z ↔ (held_at H rows lower z × held_at H rows upper z)

-- a content holds exactly what a variable can be
pub record Contained {C : Type 0} (H : C → ℤ → Type 0) (rows : List (ClassRow C)) (x : ℕ) (c : C) : Type 0 where
  pub held : (v : ℕ → ℤ) → Admits H rows v → H c (v x)
  pub reached : (z : ℤ) → H c z → (v : ℕ → ℤ) × Admits H rows v × (v x ≡ z)
