-- What one step of a reader does to the bytes ahead of it.
use Rattle.std.proofs.Common.{◌≡◌, ℕ, suc, ◌+◌, ◌-◌, ◌<◌, ◌≤◌, List, [], ◌∷◌, ◌++◌, sym, refl, ap, ◌∙◌, subst, append_assoc, append-nil, arith}
use Rattle.rules.specs.Parse.{Outcome, Parser, got, refused, after, many}
use Rattle.rules.specs.declared.LoadRefusal.{LoadRefusal}

-- of n parts in a row, xs are read, and m are left at the place k with the bytes s; o is the outcome of the whole
abbrev pub Sofar : {A : Type 0} → Parser A → Outcome (List A) → ℕ → List A → ℕ → List ℕ → Type 0
Sofar p o m xs k s = o ≡ after (many m p k s) (λ ys. got (xs ++ ys))

module _ {A : Type 0} (p : Parser A) where
  again : (o : Outcome (List A)) → o ≡ after o (λ ys. got ys)
  again (got a k s) = refl
  again (refused e) = refl

  one : (xs : List A) (a : A) (o : Outcome (List A)) → after (after o (λ ys. got (a ∷ ys))) (λ ys. got (xs ++ ys)) ≡ after o (λ ys. got ((xs ++ a ∷ []) ++ ys))
  one xs a (got ys k s) = ap (λ zs. got zs k s) (sym (append_assoc xs (a ∷ []) ys))
  one xs a (refused e) = refl

  pub sofar_more : (o : Outcome (List A)) (n i : ℕ) (xs : List A) (k : ℕ) (s : List ℕ) (a : A) (k' : ℕ) (s' : List ℕ) (xs' : List A) → i < n →
      Sofar p o (n - i) xs k s → p k s ≡ got a k' s' → xs' ≡ xs ++ a ∷ [] → Sofar p o (n - (i + 1)) xs' k' s'
  sofar_more o n i xs k s a k' s' xs' lt h e q =
      let c : n - i ≡ suc (n - (i + 1)) = omega arith in
      subst (λ ys. Sofar p o (n - (i + 1)) ys k' s') (sym q) (subst (λ m. Sofar p o m xs k s) c h
      ∙ ap (λ x. after (after x (λ a k₁ s₁. after (many (n - (i + 1)) p k₁ s₁) (λ ys. got (a ∷ ys)))) (λ ys. got (xs ++ ys))) e
      ∙ one xs a (many (n - (i + 1)) p k' s'))

  pub sofar_refused : (o : Outcome (List A)) (n i : ℕ) (xs : List A) (k : ℕ) (s : List ℕ) (e : LoadRefusal) → i < n →
      Sofar p o (n - i) xs k s → p k s ≡ refused e → o ≡ refused e
  sofar_refused o n i xs k s e lt h q =
      let c : n - i ≡ suc (n - (i + 1)) = omega arith in
      subst (λ m. Sofar p o m xs k s) c h
      ∙ ap (λ x. after (after x (λ a k₁ s₁. after (many (n - (i + 1)) p k₁ s₁) (λ ys. got (a ∷ ys)))) (λ ys. got (xs ++ ys))) q

  pub sofar_all : (o : Outcome (List A)) (n i : ℕ) (xs : List A) (k : ℕ) (s : List ℕ) → n ≤ i → Sofar p o (n - i) xs k s → o ≡ got xs k s
  sofar_all o n i xs k s le h =
      let c : n - i ≡ 0 = omega arith in
      subst (λ m. Sofar p o m xs k s) c h ∙ ap (λ zs. got zs k s) (append-nil xs)
