-- Copying a list place by place.
use Rattle.std.proofs.Common.{◌≡◌, ℕ, ◌+◌, ◌<◌, List, [], ◌∷◌, ◌++◌, length, get_or, take, set, sym, ap, ◌∙◌}
use Rattle.std.proofs.lemmas.List.{take_more_set, take_more}

-- a loop that copies ys into xs, one place on
pub copied_more : {A : Type 0} (xs ys : List A) (i : ℕ) (d x : A) → x ≡ get_or ys i d → i < length xs → i < length ys → take i xs ≡ take i ys → take (i + 1) (set xs i x) ≡ take (i + 1) ys
copied_more xs ys i d x e l m h = take_more_set xs i x l ∙ ap (λ zs. zs ++ x ∷ []) h ∙ ap (λ y. take i ys ++ y ∷ []) e ∙ sym (take_more ys i d m)
