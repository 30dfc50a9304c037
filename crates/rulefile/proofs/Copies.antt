-- A buffer as long as the file holds the file after a write.
use Rattle.std.proofs.Common.{◌≡◌, ℕ, ◌≤◌, List, ◌++◌, length, Ok, Err, Result, ap, ◌∙◌, append-nil, arith, drop_of_length-le}
use Rattle.rulefile.specs.Outputs.{WrittenOut}
use Rattle.rulefile.specs.declared.refusal.WriteRefusal.{WriteRefusal}
use Rattle.rulefile.specs.declared.refusal.WriteRefusal.TheVariants.{ShortBuffer}

pub written_whole : (file out out' : List ℕ) (o : Result ℕ WriteRefusal) → length out ≡ length file → WrittenOut file out o out' → out' ≡ file
written_whole file out out' (Ok n) l w =
    let le : length out ≤ length file = omega arith in
    w.2 ∙ ap (λ t. file ++ t) (drop_of_length-le out le) ∙ append-nil file
written_whole file out out' (Err ShortBuffer) l w = absurd (omega (arith, w.0))
