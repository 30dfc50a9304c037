-- Words on lists. Assumes nothing.
use Rattle.std.specs.Prelude.{◌≡◌, ℕ, ◌<◌, ◌≤◌, List, [], ◌∷◌, ◌++◌}
use Rattle.terms.specs.Lists.{All}

infix 40 ◌∈◌
-- x is an element of the list
pub data ◌∈◌ {A : Type 0} (x : A) : List A → Type 0 where
  here : {xs : List A} → x ∈ (x ∷ xs)
  there : {y : A} {xs : List A} → x ∈ xs → x ∈ (y ∷ xs)

-- no element comes twice
abbrev pub Distinct : {A : Type 0} → List A → Type 0
Distinct [] = Unit {0}
Distinct (x ∷ xs) = (x ∈ xs → ⊥) × Distinct xs

-- the same elements, each as often
pub data Shuffle {A : Type 0} : List A → List A → Type 0 where
  none : Shuffle [] []
  next : (x : A) (ys zs : List A) {xs : List A} → Shuffle xs (ys ++ zs) → Shuffle (x ∷ xs) (ys ++ (x ∷ zs))

-- xs is no later than ys where lists of one length are compared place by place
abbrev pub NoLater : List ℕ → List ℕ → Type 0
NoLater [] ys = Unit {0}
NoLater (x ∷ xs) [] = ⊥
NoLater (x ∷ xs) (y ∷ ys) = (x ≤ y) × (x ≡ y → NoLater xs ys)

-- each number is below all after it
abbrev pub Rising : List ℕ → Type 0
Rising [] = Unit {0}
Rising (x ∷ xs) = All (λ y. x < y) xs × Rising xs
