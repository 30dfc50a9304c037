-- Text that is written call by call.
use Rattle.std.proofs.Common.{◌≡◌, ℕ, true, List, [], ◌++◌, refl}
use Rattle.std.specs.Fmt.{IsPlainFormatter, HasWritten}
use Rattle.std.specs.declared.fmt.Formatter.{Formatter}
use Rattle.std.proofs.Output.{writes_in_calls_nil, has_written_append, has_written_of_eq}

module _ {W : Type 0} {took : W → List ℕ → W → Type 0} where
  pub nothing : {f : Formatter W} → IsPlainFormatter f → HasWritten took f [] f
  nothing {f} plain = record { wrote = writes_in_calls_nil took _; plain = plain }

  -- one call more, which answered Ok
  pub more : {f g h : Formatter W} {bs cs : List ℕ} → HasWritten took f bs g → (IsPlainFormatter g → true ≡ true → HasWritten took g cs h) → HasWritten took f (bs ++ cs) h
  more a b = has_written_append took _ _ _ _ _ a (b a.plain refl)

  -- the same text, spelled otherwise
  pub spelled : {f g : Formatter W} {bs cs : List ℕ} → bs ≡ cs → HasWritten took f bs g → HasWritten took f cs g
  spelled e a = has_written_of_eq took _ _ _ _ e a
