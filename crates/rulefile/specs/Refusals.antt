-- The number of each refusal of a write. Assumes nothing.
use Rattle.std.specs.Prelude.{ℕ}
use Rattle.rulefile.specs.declared.refusal.WriteRefusal.{WriteRefusal}
use Rattle.rulefile.specs.declared.refusal.WriteRefusal.TheVariants.{ShortBuffer}

abbrev pub write_refusal_number : WriteRefusal → ℕ
write_refusal_number ShortBuffer = 31
