-- A list that is gone through from its end. Assumes nothing.
use Rattle.std.proofs.Common.{◌≡◌, List, [], ◌∷◌, ◌++◌, length, ap, ◌∙◌, append_assoc}
use Rattle.std.proofs.lemmas.List.{nil_from_length}

module _ {A : Type 0} where
  -- the last of the rest is done next
  pub one_back : (before done : List A) (x : A) {xs rest : List A} → xs ≡ rest ++ done → rest ≡ before ++ (x ∷ []) → xs ≡ before ++ (x ∷ done)
  one_back before done x whole e = whole ∙ ap (λ z. z ++ done) e ∙ append_assoc before (x ∷ []) done

  -- where nothing is left, all is done
  pub all_back : (rest : List A) {xs done : List A} → xs ≡ rest ++ done → length rest ≡ 0 → xs ≡ done
  all_back rest {done = done} whole e = whole ∙ ap (λ z. z ++ done) (nil_from_length rest e)
