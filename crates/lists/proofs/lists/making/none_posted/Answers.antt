use Rattle.std.proofs.Common.{◌≡◌, ℕ, zero, suc, false, get_or, replicate, refl}
use Rattle.lists.proofs.lists.making.none_posted.Goals as goal

none_there : (n x : ℕ) → get_or (replicate n false) x false ≡ false
none_there zero x = refl
none_there (suc n) zero = refl
none_there (suc n) (suc x) = none_there n x

pub returns : goal.returns
returns c x = none_there 256 x
