-- A book and a file, from what their parts got.
use Rattle.std.proofs.Common.{◌≡◌, ℕ, zero, suc, ◌<◌, ◌≤◌, true, ltb, List, [], ◌∷◌, map, length, get_or, drop, Err, sym, ap, ◌∙◌, subst, drop-cons}
use Rattle.std.proofs.lemmas.Bool.{ltb-false, le-ltb}
use Rattle.terms.specs.Lists.{All}
use Rattle.rules.specs.Books.{Book}
use Rattle.rules.specs.Files.{begins, whole, file}
use Rattle.rules.specs.Format.{mark}
use Rattle.rules.specs.Parse.{Parser, got, number, ranged, many, list, book}
use Rattle.rules.specs.declared.LoadRefusal.TheVariants.{TooLong, Foreign, Trailing}
use Rattle.rules.proofs.Outcomes.{branch, inverted, got_is, on, off}
use Rattle.rules.proofs.Slots.{few_each}
use Rattle.rulereader.specs.Reads.{ahead, run, Passed}
use Rattle.rulereader.specs.declared.reader.Reader.{Reader}
use Rattle.rulereader.proofs.RuleParts.{got_same, many_length}

ranged_inside : (low high k : ℕ) (s : List ℕ) (a k' : ℕ) (s' : List ℕ) → ranged low high k s ≡ got a k' s' → a ≤ high
ranged_inside low high k s a k' s' e =
    inverted (number k s) _ a k' s' e (λ n k₁ s₁ _ e₁.
    branch (ltb n low) e₁ (λ _ x. cc) (λ _ x.
    branch (ltb high n) x (λ _ y. cc) (λ u y. rw (got_is n a _ _ _ _ y).0 (ltb-false high n u))))

many_all : {A : Type 0} (p : Parser A) (P : A → Type 0) → ((k : ℕ) (s : List ℕ) (a : A) (k' : ℕ) (s' : List ℕ) → p k s ≡ got a k' s' → P a) →
    (n : ℕ) (k : ℕ) (s : List ℕ) (xs : List A) (k' : ℕ) (s' : List ℕ) → many n p k s ≡ got xs k' s' → All P xs
many_all p P f zero k s xs k' s' e = rw (got_is [] xs _ _ _ _ e).0 tt
many_all p P f (suc n) k s xs k' s' e =
    inverted (p k s) _ xs k' s' e (λ a k₁ s₁ e₀ e₁.
    inverted (many n p k₁ s₁) _ xs k' s' e₁ (λ ys k₂ s₂ e₂ e₃. rw (got_is (a ∷ ys) xs _ _ _ _ e₃).0 (f k s a k₁ s₁ e₀, many_all p P f n k₁ s₁ ys k₂ s₂ e₂)))

-- the argument counts of a file
pub arities_read : (xs : List ℕ) (r r₁ : Reader) → Passed (list 1 32 (ranged 0 4)) r (map (λ (x : ℕ). x) xs) r₁ → (length xs ≤ 32) × ((c : ℕ) → get_or xs c 0 ≤ 4)
arities_read xs r r₁ e =
    inverted (run (ranged 1 32) r) _ xs r₁.pos (ahead r₁) (got_same xs e.1) (λ n k s e₀ e₁. (
      subst (λ m. m ≤ 32) (sym (many_length (ranged 0 4) n k s xs _ _ e₁)) (ranged_inside 1 32 r.pos (ahead r) n k s e₀),
      few_each xs (many_all (ranged 0 4) (λ a. a ≤ 4) (λ k s a k' s' q. ranged_inside 0 4 k s a k' s' q) n k s xs _ _ e₁),
    ))

-- of a file whose book is read, r₁ stands after the book
pub file_over : (s : List ℕ) (b : Book) (r r₁ : Reader) (k : ℕ) → length s ≤ 4096 → begins mark s ≡ true → r.pos ≡ 4 → r.src.now ≡ s → Passed book r b r₁ →
    k ≡ r₁.pos → r₁.pos < length r₁.src.now → file s ≡ Err (Trailing k)
file_over s b r r₁ k l m p q e z h =
    let at : book 4 (drop 4 s) ≡ got b r₁.pos (ahead r₁) = subst (λ t. book 4 (drop 4 t) ≡ got b r₁.pos (ahead r₁)) q (subst (λ n. book n (drop n r.src.now) ≡ got b r₁.pos (ahead r₁)) p e.1) in
    let lt : r₁.pos < length s = subst (λ t. r₁.pos < length t) (e.0 ∙ q) h in
    let left = ap (drop r₁.pos) (e.0 ∙ q) ∙ drop-cons s r₁.pos 0 lt in
    rw z (off (Err TooLong) _ (le-ltb 4096 (length s) l) (on _ (Err Foreign) m (ap whole (at ∙ ap (λ t. got b r₁.pos t) left))))
