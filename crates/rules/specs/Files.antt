-- What a file says, or why it is refused. Assumes nothing.
use Rattle.std.specs.Prelude.{◌≡◌, ℕ, ◌≤◌, Bool, true, false, cond, ◌&&◌, ◌⊎◌, ◌↔◌, List, [], ◌∷◌, length, drop, Ok, Err, Result, ◌==◌, nat_lt}
use Rattle.rules.specs.Books.{Book}
use Rattle.rules.specs.Valids.{Valid}
use Rattle.rules.specs.Format.{mark, file_bytes}
use Rattle.rules.specs.Parse.{Outcome, got, refused, book}
use Rattle.rules.specs.declared.LoadRefusal.{LoadRefusal}
use Rattle.rules.specs.declared.LoadRefusal.TheVariants.{TooLong, Foreign, Trailing, NoMemory}

-- whether a list begins with another
abbrev pub begins : List ℕ → List ℕ → Bool
begins [] s = true
begins (m ∷ ms) [] = false
begins (m ∷ ms) (b ∷ s) = b == m && begins ms s

-- no byte may be left over
abbrev pub whole : Outcome Book → Result Book LoadRefusal
whole (got b k []) = Ok b
whole (got b k (x ∷ s)) = Err (Trailing k)
whole (refused e) = Err e

-- the rules of a file, or the first refusal
abbrev pub file : List ℕ → Result Book LoadRefusal
file s = cond (nat_lt 4096 (length s)) (Err TooLong) (cond (begins mark s) (whole (book 4 (drop 4 s))) (Err Foreign))

-- what a load answers to a file: what the file says, or that memory was wanting
abbrev pub Loaded : {R : Type 0} → (R → Book) → Result Book LoadRefusal → Result R LoadRefusal → Type 0
Loaded view o (Ok x) = o ≡ Ok (view x)
Loaded view o (Err e) = (o ≡ Err e) ⊎ (e ≡ NoMemory)

-- a file is accepted as the rules b exactly when b is valid, the file has at most 4,096 bytes, and they are the encoding of b
pub record AcceptedExactly (s : List ℕ) : Type 0 where
  pub exactly : (b : Book) → (file s ≡ Ok b) ↔ (Valid b × (length s ≤ 4096) × (s ≡ file_bytes b))
