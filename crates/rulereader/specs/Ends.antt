-- Whether bytes are left over. Assumes nothing.
use Rattle.std.specs.Prelude.{◌≡◌, ℕ, ◌<◌, ◌≤◌, length, Some, None, Option}
use Rattle.rulereader.specs.declared.reader.Reader.{Reader}

-- the place of the first byte that is left over, or none
abbrev pub AtEnd : Reader → Option ℕ → Type 0
AtEnd r (Some k) = (k ≡ r.pos) × (r.pos < length r.src.now)
AtEnd r None = length r.src.now ≤ r.pos
