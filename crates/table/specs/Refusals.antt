-- The words for the refusals of a put. Assumes nothing.
use Rattle.std.specs.Prelude.{ℕ, List, codes}
use Rattle.table.specs.declared.put.PutRefusal.{PutRefusal}
use Rattle.table.specs.declared.put.PutRefusal.TheVariants.{Unfit, Twice, Full}

abbrev pub refusal_text : PutRefusal → List ℕ
refusal_text Unfit = codes "unfit"
refusal_text Twice = codes "twice"
refusal_text Full = codes "full"
