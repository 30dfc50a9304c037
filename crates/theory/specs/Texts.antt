-- What a theory's answers are printed as. Assumes nothing.
use Rattle.std.specs.Prelude.{ℕ, List, codes}
use Rattle.theory.specs.declared.told.Told.{Told}
use Rattle.theory.specs.declared.told.Told.TheVariants.{Kept, Failed, Unknown}

abbrev pub told_text : Told → List ℕ
told_text Kept = codes "kept"
told_text Failed = codes "failed"
told_text Unknown = codes "unknown"
