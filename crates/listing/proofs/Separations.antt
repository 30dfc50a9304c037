-- Texts with a comma between each two, one after another.
use Rattle.std.proofs.Common.{◌≡◌, ℕ, suc, ◌+◌, ◌<◌, List, [], ◌∷◌, ◌++◌, map, length, get_or, take, codes, sym, refl, ap, ◌∙◌, append_assoc, arith}
use Rattle.std.proofs.lemmas.List.{take_more, map_push, length-take-le, length-map}
use Rattle.std.proofs.lemmas.Bool.{cond-false, ne_eqb}
use Rattle.listing.specs.Texts.{separated, comma_before}

comma_after : (n : ℕ) → comma_before (suc n) ≡ codes ", "
comma_after n = let z : suc n ≡ 0 → ⊥ = omega arith in cond-false _ _ _ (ne_eqb (suc n) 0 z)

pub separated_push : (xs : List (List ℕ)) (x : List ℕ) → separated (xs ++ x ∷ []) ≡ separated xs ++ comma_before (length xs) ++ x
separated_push [] x = refl
separated_push (a ∷ []) x = ap (λ t. a ++ t ++ x) (sym (comma_after 0))
separated_push (a ∷ (b ∷ ys)) x =
    ap (λ t. a ++ codes ", " ++ t) (separated_push (b ∷ ys) x)
    ∙ ap (λ t. a ++ codes ", " ++ (separated (b ∷ ys) ++ t ++ x)) (comma_after (length ys) ∙ sym (comma_after (suc (length ys))))
    ∙ sym (append_assoc (a ++ codes ", ") (separated (b ∷ ys) ++ comma_before (suc (suc (length ys)))) x)
    ∙ ap (λ t. t ++ x) (sym (append_assoc (a ++ codes ", ") (separated (b ∷ ys)) (comma_before (suc (suc (length ys))))))

module _ {A : Type 0} (f : A → List ℕ) where
  -- one part more
  pub separated_more : (xs : List A) (i : ℕ) (a : A) → i < length xs → a ≡ get_or xs i a → separated (map f (take i xs)) ++ comma_before i ++ f a ≡ separated (map f (take (i + 1) xs))
  separated_more xs i a h e =
      let pushed : map f (take (i + 1) xs) ≡ map f (take i xs) ++ f a ∷ [] = ap (map f) (take_more xs i a h ∙ ap (λ x. take i xs ++ x ∷ []) (sym e)) ∙ map_push f (take i xs) a in
      let long : length (map f (take i xs)) ≡ i = length-map (take i xs) f ∙ length-take-le i xs (omega arith) in
      ap (λ n. separated (map f (take i xs)) ++ comma_before n ++ f a) (sym long) ∙ sym (separated_push (map f (take i xs)) (f a)) ∙ ap separated (sym pushed)
