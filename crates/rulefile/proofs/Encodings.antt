-- The encoding of parts in a row, from what each part means.
use Rattle.std.proofs.Common.{◌≡◌, List, [], ◌∷◌, ◌++◌, ℕ, map, length, sym, refl, ap, ◌∙◌}
use lib.ListN.{length-map}
use Rattle.rules.specs.Format.{number_bytes, each, counted}

module _ {A B : Type 0} (f : B → List ℕ) (g : A → B) where
  each_map : (xs : List A) → each f (map g xs) ≡ each (λ x. f (g x)) xs
  each_map [] = refl
  each_map (x ∷ xs) = ap (λ t. f (g x) ++ t) (each_map xs)

  pub counted_map : (xs : List A) → counted (λ x. f (g x)) xs ≡ counted f (map g xs)
  counted_map xs = ap (λ n. number_bytes n ++ each (λ x. f (g x)) xs) (sym (length-map xs g)) ∙ ap (λ t. number_bytes (length (map g xs)) ++ t) (sym (each_map xs))
