-- Body items and rules, from what their parts got.
use Rattle.std.proofs.Common.{◌≡◌, ℕ, zero, suc, ◌+◌, List, [], ◌∷◌, map, length, refl, ap, ◌∙◌, map-id}
use mathlib.Core.Path.{fun_ext}
use Rattle.rules.specs.Parse.{Outcome, Parser, got, refused, after, index, head_counts, many, rule_rest, rule}
use Rattle.rules.proofs.Outcomes.{inverted, got_is}
use Rattle.rulereader.specs.Heads.{rule_heads}

-- parts that mean themselves
pub got_same : {A : Type 0} {o : Outcome (List A)} (xs : List A) {k : ℕ} {s : List ℕ} → o ≡ got (map (λ (x : A). x) xs) k s → o ≡ got xs k s
got_same xs {k} {s} e = e ∙ ap (λ ys. got ys k s) (map-id xs)

pub many_length : {A : Type 0} (p : Parser A) (n : ℕ) (k : ℕ) (s : List ℕ) (xs : List A) (k' : ℕ) (s' : List ℕ) → many n p k s ≡ got xs k' s' → length xs ≡ n
many_length p zero k s xs k' s' e = ap length (got_is [] xs _ _ _ _ e).0
many_length p (suc n) k s xs k' s' e =
    inverted (p k s) _ xs k' s' e (λ a k₁ s₁ _ e₁.
    inverted (many n p k₁ s₁) _ xs k' s' e₁ (λ ys k₂ s₂ e₂ e₃. ap length (got_is (a ∷ ys) xs _ _ _ _ e₃).0 ∙ ap suc (many_length p n k₁ s₁ ys k₂ s₂ e₂)))

after_after : {A B C : Type 0} (o : Outcome A) (f : A → Parser B) (g : B → Parser C) → after o (λ a k s. after (f a k s) g) ≡ after (after o f) g
after_after (got a k s) f g = refl
after_after (refused e) f g = refl

-- a rule is its heads and the rest
pub rule_by_heads : (arities : List ℕ) (k : ℕ) (s : List ℕ) → rule arities k s ≡ after (rule_heads arities k s) (λ h. rule_rest arities h.0 h.1)
rule_by_heads arities k s =
    ap (λ f. after (head_counts k s) f) (fun_ext (λ c. fun_ext (λ k₁. fun_ext (λ s₁. after_after (many (c.0 + c.1) (index (length arities)) k₁ s₁) (λ hs. got (c.0, hs)) (λ h. rule_rest arities h.0 h.1)))))
    ∙ after_after (head_counts k s) (λ c k₁ s₁. after (many (c.0 + c.1) (index (length arities)) k₁ s₁) (λ hs. got (c.0, hs))) (λ h. rule_rest arities h.0 h.1)
