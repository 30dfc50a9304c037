-- Primitives told one after another, in any order.
use Rattle.std.proofs.Common.{◌≡◌, ℕ, ◌+◌, ◌<◌, ◌≤◌, ◌↔◌, List, [], ◌∷◌, ◌++◌, length, get_or, take, sym, ◌∙◌, subst}
use Rattle.std.specs.List.{All, Contains}
use Rattle.std.proofs.lemmas.List.{take_all, take_more}
use Rattle.std.proofs.lemmas.List.Elements.{All-nil, All-cons, All-head, All-tail, All-push, All-weaker, All-contains, All-contains_itself}
use Rattle.terms.specs.declared.Operand.{Operand}
use Rattle.terms.specs.declared.Primitive.{Primitive}
use Rattle.terms.specs.Domains.{Domain, Valuation, TrueIn}
use Rattle.theory.specs.declared.told.Told.{Told as Answer}
use Rattle.theory.specs.declared.told.Told.TheVariants as told
use Rattle.theory.specs.Meanings.{Meaning, KnownAll}
use Rattle.theory.specs.Says.{TellSays}
use Rattle.theory.specs.Runs.{ToldAll, SameInAnyOrder}

all_last : {X : Type 0} (P : X → Type 0) (xs : List X) (y : X) → All P (xs ++ y ∷ []) → All P xs × P y
all_last P [] y a = (All-nil P, All-head P y [] a)
all_last P (x ∷ xs) y a = let b = all_last P xs y (All-tail P x (xs ++ y ∷ []) a) in (All-cons P x xs (All-head P x (xs ++ y ∷ []) a) b.0, b.1)

same_elements : {X : Type 0} (P : X → Type 0) (xs ys : List X) → ((x : X) → Contains ys x → Contains xs x) → All P xs → All P ys
same_elements P xs ys e a = All-weaker (Contains ys) P (λ x h. All-contains P xs x a (e x h)) ys (All-contains_itself ys)

module _ {d : Domain} where
  module _ (m n k : Meaning d) (ps : List (Primitive Operand)) (p : Primitive Operand) (a : ToldAll m ps n) (e : k.made ≡ n.made) where
    push_known : KnownAll n.made p → ((v : Valuation d) → k.admits v ↔ (n.admits v × TrueIn d v p)) → ToldAll m (ps ++ p ∷ []) k
    push_known known s = (
      e ∙ a.0,
      λ v. (
        λ h. let x = (s v).0 h in let y = (a.1 v).0 x.0 in (y.0, All-push (λ q. KnownAll m.made q → TrueIn d v q) ps p y.1 (λ _. x.1)),
        λ h. let y = all_last (λ q. KnownAll m.made q → TrueIn d v q) ps p h.1 in
            (s v).1 ((a.1 v).1 (h.0, y.0), y.1 (subst (λ (i : ℕ). KnownAll i p) a.0 known)),
      ),
    )

    push_unknown : (KnownAll n.made p → ⊥) → ((v : Valuation d) → k.admits v ↔ n.admits v) → ToldAll m (ps ++ p ∷ []) k
    push_unknown unknown s = (
      e ∙ a.0,
      λ v. (
        λ h. let y = (a.1 v).0 ((s v).0 h) in
            (y.0, All-push (λ q. KnownAll m.made q → TrueIn d v q) ps p y.1 (λ c. absurd (unknown (subst (λ (i : ℕ). KnownAll i p) (sym a.0) c)))),
        λ h. let y = all_last (λ q. KnownAll m.made q → TrueIn d v q) ps p h.1 in (s v).1 ((a.1 v).1 (h.0, y.0)),
      ),
    )

  -- one more
  pub told_push : (m n k : Meaning d) (ps : List (Primitive Operand)) (p : Primitive Operand) (r : Answer) → ToldAll m ps n → TellSays n p r k → ToldAll m (ps ++ p ∷ []) k
  told_push m n k ps p told.Kept a t = push_known m n k ps p a t.1.0 t.0 (t.1.1 t.0)
  told_push m n k ps p told.Failed a t = push_known m n k ps p a t.1.0 t.0 (t.1.1 t.0)
  told_push m n k ps p told.Unknown a t = push_unknown m n k ps p a t.1.0 t.0 (t.1.2 t.0)

  pub told_more : (m n k : Meaning d) (ps : List (Primitive Operand)) (i : ℕ) (p : Primitive Operand) (r : Answer) → i < length ps →
      ToldAll m (take i ps) n → TellSays n (get_or ps i p) r k → ToldAll m (take (i + 1) ps) k
  told_more m n k ps i p r l a t =
      subst (λ (qs : List (Primitive Operand)). ToldAll m qs k) (sym (take_more ps i p l)) (told_push m n k (take i ps) (get_or ps i p) r a t)

  pub told_all : (m n : Meaning d) (ps : List (Primitive Operand)) (i : ℕ) → length ps ≤ i → ToldAll m (take i ps) n → ToldAll m ps n
  told_all m n ps i l a = subst (λ (qs : List (Primitive Operand)). ToldAll m qs n) (take_all i ps l) a

  -- the order does not matter
  pub same_in_any_order : (m n k l : Meaning d) (ps qs : List (Primitive Operand)) → ToldAll m ps n → ToldAll k qs l → SameInAnyOrder m ps n k qs l
  same_in_any_order m n k l ps qs a b e s = (
    b.0 ∙ (e.0 ∙ sym a.0),
    λ v. (
      λ h. let y = (b.1 v).0 h in
          (a.1 v).1 ((e.1 v).0 y.0, subst (λ (i : ℕ). All (λ q. KnownAll i q → TrueIn d v q) ps) e.0 (same_elements (λ q. KnownAll k.made q → TrueIn d v q) qs ps (λ p. (s p).0) y.1)),
      λ h. let y = (a.1 v).0 h in
          (b.1 v).1 ((e.1 v).1 y.0, subst (λ (i : ℕ). All (λ q. KnownAll i q → TrueIn d v q) qs) (sym e.0) (same_elements (λ q. KnownAll m.made q → TrueIn d v q) ps qs (λ p. (s p).1) y.1)),
    ),
  )
