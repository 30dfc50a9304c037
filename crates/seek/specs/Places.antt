-- Rules by number, and where a symbol stands in their heads. Assumes nothing.
use Rattle.std.specs.Prelude.{◌≡◌, ℕ, ◌+◌, ◌<◌, ◌≤◌, List, ◌++◌, length, Some, slice_index_or}
use Rattle.std.specs.declared.ops.ControlFlow.{ControlFlow}
use Rattle.std.specs.declared.ops.ControlFlow.TheVariants.{Break, Continue}
use Rattle.table.specs.Lists.{nth}
use Rattle.rules.specs.Books.{Rule, Book, heads}
use Rattle.machine.specs.Matching.{rule_at}
use Rattle.machine.specs.Occurrences.{places_from}

-- there is a rule of that number
pub record InRange (b : Book) (k : ℕ) : Type 0 where
  pub low : 1 ≤ k
  pub high : k ≤ length b.rules

-- r is the rule of that number
pub record RuleIs (b : Book) (k : ℕ) (r : Rule) : Type 0 where
  pub range : InRange b k
  pub is : r ≡ rule_at b k

-- the rule of the number k has the symbol at the head h
pub record HeadHas (b : Book) (s k h : ℕ) : Type 0 where
  pub range : InRange b k
  pub within : h < length (heads (rule_at b k))
  pub is : slice_index_or (heads (rule_at b k)) h 0 ≡ s

-- the occurrence at the index is the head h, whatever the rule's number and the rules after it
pub record PlaceFound (hs : List ℕ) (s index h : ℕ) : Type 0 where
  pub within : h < length hs
  pub is : slice_index_or hs h 0 ≡ s
  pub occurs : (k : ℕ) (rest : List (ℕ × ℕ)) → nth (places_from k s hs 0 ++ rest) index ≡ Some (k, h)
  pub small : index ≤ length hs

-- the occurrence at the index is the one at `left` in the rules after
pub record PlaceLater (hs : List ℕ) (s index left : ℕ) : Type 0 where
  pub occurs : (k : ℕ) (rest : List (ℕ × ℕ)) → nth (places_from k s hs 0 ++ rest) index ≡ nth rest left
  pub small : index ≤ left + length hs

-- where the occurrence at the index stands, among the heads of one rule and the rules after it
abbrev pub PlaceIn : List ℕ → ℕ → ℕ → ControlFlow ℕ ℕ → Type 0
PlaceIn hs s index (Break h) = PlaceFound hs s index h
PlaceIn hs s index (Continue left) = PlaceLater hs s index left
