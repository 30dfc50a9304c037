-- The two parts of a list that is cut at a place, or at its end where that comes first.
use Rattle.std.proofs.Common.{◌≡◌, ℕ, ◌-◌, min, List, length, take, drop, ap, ◌∙◌, arith, length-drop}
use Rattle.std.proofs.lemmas.List.{take_all, take_min, drop_min}

pub front_cut : (k m : ℕ) (xs : List ℕ) → m ≡ min (length xs) k → take m xs ≡ take k xs
front_cut k m xs e = let q : m ≡ min k (length xs) = omega arith in ap (λ n. take n xs) q ∙ take_min k xs

pub back_cut : (k m : ℕ) (xs : List ℕ) → m ≡ min (length xs) k → take (length xs - m) (drop m xs) ≡ drop k xs
back_cut k m xs e =
    let q : m ≡ min k (length xs) = omega arith in
    take_all (length xs - m) (drop m xs) (omega (arith, length-drop m xs)) ∙ ap (λ n. drop n xs) q ∙ drop_min k xs
