-- One more at the end of a list. Assumes nothing.
use Rattle.std.proofs.Common.{◌≡◌, ℕ, ◌<◌, ◌≤◌, List, [], ◌∷◌, ◌++◌, map, length, take, ap, ◌∙◌, arith, length-append}
use Rattle.std.proofs.lemmas.List.{take_all, take-append-le, length-map, map-append}

pub map_push : {A B : Type 0} (f : A → B) (xs ys : List A) (x : A) → ys ≡ xs ++ (x ∷ []) → map f ys ≡ map f xs ++ (f x ∷ [])
map_push f xs ys x e = ap (map f) e ∙ map-append f xs (x ∷ [])

-- of a list of at most n, where there is room
pub pushed : {A B : Type 0} (f : A → B) (n : ℕ) (xs : List A) (x : A) → length (map f xs) < n → map f (take n (xs ++ (x ∷ []))) ≡ map f xs ++ (f x ∷ [])
pushed f n xs x l = ap (map f) (take_all n (xs ++ (x ∷ [])) (omega (arith, length-append xs (x ∷ []), length-map xs f))) ∙ map-append f xs (x ∷ [])

-- and nothing changes, where there is none
pub not_pushed : {A B : Type 0} (f : A → B) (n : ℕ) (xs : List A) (x : A) → n ≤ length (map f xs) → length xs ≤ n → map f (take n (xs ++ (x ∷ []))) ≡ map f xs
not_pushed f n xs x h l = ap (map f) (take-append-le n xs (x ∷ []) (omega (arith, h, length-map xs f)) ∙ take_all n xs l)
