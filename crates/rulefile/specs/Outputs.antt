-- What a write answers, and what it leaves in the buffer. Assumes nothing.
use Rattle.std.specs.Prelude.{◌≡◌, ℕ, ◌<◌, ◌≤◌, List, ◌++◌, length, drop, Ok, Err, Result}
use Rattle.rulefile.specs.declared.refusal.WriteRefusal.{WriteRefusal}
use Rattle.rulefile.specs.declared.refusal.WriteRefusal.TheVariants.{ShortBuffer}

-- the file stands at the start of the buffer, later bytes are as they were, and the answer is the file's length; or the buffer is shorter than the file, and as it was
abbrev pub WrittenOut : List ℕ → List ℕ → Result ℕ WriteRefusal → List ℕ → Type 0
WrittenOut bytes out (Ok n) out' = (n ≡ length bytes) × (length bytes ≤ length out) × (out' ≡ bytes ++ drop (length bytes) out)
WrittenOut bytes out (Err ShortBuffer) out' = (length out < length bytes) × (out' ≡ out)
