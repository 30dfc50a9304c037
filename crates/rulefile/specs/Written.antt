-- What it is to write bytes into a buffer. Assumes nothing.
use Rattle.std.specs.Prelude.{◌≡◌, ℕ, ◌+◌, ◌<◌, List, [], ◌∷◌, length, Ok, Err, Result, slice_set}
use Rattle.rulefile.specs.declared.writer.Writer.{Writer}

abbrev pub one : ℕ → List ℕ
one b = b ∷ []

-- d with the bytes from the place k on
abbrev pub written : List ℕ → ℕ → List ℕ → List ℕ
written d k [] = d
written d k (b ∷ bs) = written (slice_set d k b) (k + 1) bs

-- w became v as the bytes were written, over the same buffer
pub record Wrote (bytes : List ℕ) (w v : Writer) : Type 0 where
  pub same : v.dst.ghost_name ≡ w.dst.ghost_name
  pub after : v.dst.now ≡ written w.dst.now w.pos bytes
  pub place : v.pos ≡ w.pos + length bytes

-- w had too little room for the bytes, and v is over the same buffer
pub record RanOut (bytes : List ℕ) (w v : Writer) : Type 0 where
  pub same : v.dst.ghost_name ≡ w.dst.ghost_name
  pub short : length w.dst.now < w.pos + length bytes

-- the bytes were written, or there was too little room for them
abbrev pub Writes : {A E : Type 0} → List ℕ → Writer → Result A E → Writer → Type 0
Writes bytes w (Ok _) v = Wrote bytes w v
Writes bytes w (Err _) v = RanOut bytes w v
