-- The text of a rule, from the texts of its parts.
use Rattle.std.proofs.Common.{◌≡◌, ℕ, zero, suc, ◌+◌, ◌<◌, ◌≤◌, List, [], ◌∷◌, ◌++◌, map, length, get_or, take, sym, refl, ap, ◌∙◌, arith}
use mathlib.Core.List.{map-map}
use Rattle.std.proofs.lemmas.List.{take_more, length-take-le}
use Rattle.terms.specs.declared.Term.TheVariants.{Slot}
use Rattle.rules.specs.Books.{slot_count}
use Rattle.rules.specs.Views.{goal_of}
use Rattle.rules.specs.declared.Item.{Item}
use Rattle.listing.specs.Texts.{separated, comma_before, goal_text, constraint_text, slots_from, head_texts, heads_text, body_text}
use Rattle.rules.proofs.Slots.{slot_count_push}
use Rattle.listing.proofs.Separations.{separated_push}

pub body_is : (is : List Item) → (length is ≡ 0 → ⊥) → separated (map (λ i. goal_text (goal_of i)) is) ≡ body_text (map goal_of is)
body_is [] h = absurd (h refl)
body_is (i ∷ is) h = ap (λ t. separated (goal_text (goal_of i) ∷ t)) (sym (map-map goal_text goal_of is))

-- the slots of a head, of which there are at most four
pub slots_are : (k n : ℕ) → n ≤ 4 → take n (Slot k ∷ Slot (k + 1) ∷ Slot (k + 2) ∷ Slot (k + 3) ∷ []) ≡ slots_from k n
slots_are k zero h = refl
slots_are k (suc zero) h = refl
slots_are k (suc (suc zero)) h = refl
slots_are k (suc (suc (suc zero))) h = let a : k + 2 ≡ k + 1 + 1 = omega arith in ap (λ x. Slot k ∷ Slot (k + 1) ∷ Slot x ∷ []) a
slots_are k (suc (suc (suc (suc zero)))) h =
    let a : k + 2 ≡ k + 1 + 1 = omega arith in
    let b : k + 3 ≡ k + 1 + 1 + 1 = omega arith in
    ap (λ x. Slot k ∷ Slot (k + 1) ∷ Slot x ∷ Slot (k + 3) ∷ []) a ∙ ap (λ x. Slot k ∷ Slot (k + 1) ∷ Slot (k + 1 + 1) ∷ Slot x ∷ []) b
slots_are k (suc (suc (suc (suc (suc n))))) h = absurd (omega arith)

pub head_texts_push : (arities : List ℕ) (k : ℕ) (cs : List ℕ) (c : ℕ) →
    head_texts arities k (cs ++ c ∷ []) ≡ head_texts arities k cs ++ constraint_text c (slots_from (k + slot_count arities cs) (get_or arities c 0)) ∷ []
head_texts_push arities k [] c = let a : k ≡ k + 0 = omega arith in ap (λ x. constraint_text c (slots_from x (get_or arities c 0)) ∷ []) a
head_texts_push arities k (x ∷ cs) c =
    let a : k + get_or arities x 0 + slot_count arities cs ≡ k + (get_or arities x 0 + slot_count arities cs) = omega arith in
    ap (λ t. constraint_text x (slots_from k (get_or arities x 0)) ∷ t)
    (head_texts_push arities (k + get_or arities x 0) cs c ∙ ap (λ n. head_texts arities (k + get_or arities x 0) cs ++ constraint_text c (slots_from n (get_or arities c 0)) ∷ []) a)

pub length_head_texts : (arities : List ℕ) (k : ℕ) (cs : List ℕ) → length (head_texts arities k cs) ≡ length cs
length_head_texts arities k [] = refl
length_head_texts arities k (c ∷ cs) = ap suc (length_head_texts arities (k + get_or arities c 0) cs)

-- one head more
module _ (arities cs : List ℕ) (i : ℕ) (h : i < length cs) where
  pub slots_more : slot_count arities (take (i + 1) cs) ≡ slot_count arities (take i cs) + get_or arities (get_or cs i 0) 0
  slots_more = ap (slot_count arities) (take_more cs i 0 h) ∙ slot_count_push arities (take i cs) (get_or cs i 0)

  pub heads_more : (first slot count : ℕ) → slot ≡ first + slot_count arities (take i cs) → count ≡ get_or arities (get_or cs i 0) 0 →
      heads_text arities first (take i cs) ++ comma_before i ++ constraint_text (get_or cs i 0) (slots_from slot count) ≡ heads_text arities first (take (i + 1) cs)
  heads_more first slot count e₁ e₂ =
      let texts = head_texts arities first (take i cs) in
      let c = get_or cs i 0 in
      let long : length texts ≡ i = length_head_texts arities first (take i cs) ∙ length-take-le i cs (omega arith) in
      ap (λ n. separated texts ++ comma_before n ++ constraint_text c (slots_from slot count)) (sym long)
      ∙ ap (λ n. separated texts ++ comma_before (length texts) ++ constraint_text c (slots_from n count)) e₁
      ∙ ap (λ n. separated texts ++ comma_before (length texts) ++ constraint_text c (slots_from (first + slot_count arities (take i cs)) n)) e₂
      ∙ sym (separated_push texts (constraint_text c (slots_from (first + slot_count arities (take i cs)) (get_or arities c 0))))
      ∙ ap separated (sym (head_texts_push arities first (take i cs) c) ∙ ap (head_texts arities first) (sym (take_more cs i 0 h)))
