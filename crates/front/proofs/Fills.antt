-- A put into a front, by where it goes.
use Rattle.std.proofs.Common.{◌≡◌, ℕ, zero, suc, ◌+◌, ◌<◌, ◌≤◌, min, Bool, true, false, not, ◌&&◌, ltb, ◌⊎◌, List, [], ◌∷◌, ◌++◌, length, take, drop, is_some, Some, None, Option, Ok, Err, Result, sym, refl, ap, ◌∙◌, subst, inl, inr, arith, take-append-drop, length-take}
use Rattle.std.proofs.lemmas.Bool.{cases_lt, lt-ltb, le-ltb}
use Rattle.std.proofs.lemmas.List.{take_all, length_push}
use Rattle.std.proofs.lemmas.List.Edits.{length-remove}
use Rattle.table.specs.Lists.{is_none}
use Rattle.table.specs.Records.{Record, fit}
use Rattle.table.specs.Rows.{look, lawful, Placed, TakenOut}
use Rattle.table.specs.Tables.{Table, size, both, without, put_answer, put_after, judged}
use Rattle.table.specs.declared.put.PutRefusal.{PutRefusal}
use Rattle.table.specs.declared.row.Row.{Row}
use Rattle.table.specs.Looks.{look_append, size_look, lawful_take}
use Rattle.table.proofs.Positions.{taken_some}
use Rattle.table.specs.TablesLemmas.{none_append, size_both, without_both}
use Rattle.front.specs.Fronts.{own_limit, front_limit, own_records, front_records, OwnFirst}
use Rattle.front.specs.FrontsLemmas.{put_front, put_behind, known_kept, same_known, same_room}

-- what a put into a front ensures
pub record Filled (limit : ℕ) (xs ys : List Row) (b b' : Table) (n : ℕ) (r : Record) (a : Result (Unit {0}) PutRefusal) : Type 0 where
  pub value : a ≡ put_answer (front_records limit xs b) (front_limit limit) n r
  pub after : front_records limit ys b' ≡ put_after (front_records limit xs b) n r a
  pub order : OwnFirst limit (own_records limit xs) b (own_records limit ys) b' n r a

placed_kept : (xs ys : List Row) (t : Table) (l n : ℕ) (q r : Record) (a : Result (Unit {0}) PutRefusal) → is_none (t n) ≡ false → a ≡ put_answer t l n q → Placed xs ys n r a → ys ≡ xs
placed_kept xs ys t l n q r a e h p = go (fit n q) (ltb (size t) l) (subst (Placed xs ys n r) (h ∙ ap (λ b. judged (fit n q) b (ltb (size t) l)) e) p)
  where
    go : (f m : Bool) → Placed xs ys n r (judged f false m) → ys ≡ xs
    go true m z = z
    go false m z = z

placed_length : (xs ys : List Row) (n : ℕ) (r : Record) (a : Result (Unit {0}) PutRefusal) → Placed xs ys n r a → length ys ≤ length xs + 1
placed_length xs ys n r (Ok done) p = omega (arith, ap length p.1, length_push xs p.0)
placed_length xs ys n r (Err refusal) p = omega (arith, ap length p)

taken_length : (xs ys : List Row) (n : ℕ) (o : Option ℕ) → TakenOut xs ys n o → length ys ≤ length xs
taken_length xs ys n None p = omega (arith, ap length p.1)
taken_length xs ys n (Some k) p = omega (arith, ap length p.2, length-remove xs k p.0)

-- few rows are all its own
own_all : (limit : ℕ) (xs : List Row) → length xs ≤ own_limit limit → own_records limit xs ≡ look xs
own_all limit xs l = ap look (take_all (own_limit limit) xs l)

-- what stands in its own rows stands among the rows
own_known : (limit : ℕ) (xs : List Row) (n : ℕ) → is_none (own_records limit xs n) ≡ false → is_none (look xs n) ≡ false
own_known limit xs n e =
    let k = own_limit limit in
    ap (λ zs. is_none (look zs n)) (sym (take-append-drop k xs)) ∙ ap is_none (look_append (take k xs) (drop k xs) n) ∙ none_append (look (take k xs) n) (look (drop k xs) n)
    ∙ ap (λ b. b && is_none (look (drop k xs) n)) e

pub own_size : (limit : ℕ) (xs : List Row) → lawful xs ≡ true → size (own_records limit xs) ≡ min (own_limit limit) (length xs)
own_size limit xs h = size_look (take (own_limit limit) xs) (lawful_take xs (own_limit limit) h) ∙ length-take (own_limit limit) xs

-- under an identifier that has a record of its own
pub filled_known : (limit : ℕ) (xs ys : List Row) (b : Table) (l n : ℕ) (r : Record) (a : Result (Unit {0}) PutRefusal) → is_none (own_records limit xs n) ≡ false → a ≡ put_answer (look xs) l n r → Placed xs ys n r a → Filled limit xs ys b b n r a
filled_known limit xs ys b l n r a e h p =
    let s = own_records limit xs in
    let all_known = own_known limit xs n e in
    let same : ys ≡ xs = placed_kept xs ys (look xs) l n r r a all_known h p in
    let none_both : is_none (both s b n) ≡ false = none_append (s n) (b n) ∙ ap (λ x. x && is_none (b n)) e in
    let own_same : own_records limit ys ≡ s = ap (own_records limit) same in
    record {
      value = h ∙ same_known (look xs) (both s b) l (front_limit limit) n r all_known none_both;
      after = ap (λ t. both t b) own_same ∙ sym (known_kept (look xs) l n r (both s b) r a all_known h);
      order = record {
        while_free = λ _. (own_same ∙ sym (known_kept (look xs) l n r s r a all_known h), refl);
        then_behind = λ _. (own_same, sym (known_kept (look xs) l n r b r a all_known h));
      };
    }

-- into a free row of its own, where nothing stands behind
pub filled_free : (limit : ℕ) (xs ys : List Row) (b : Table) (l n : ℕ) (r : Record) (a : Result (Unit {0}) PutRefusal) → lawful xs ≡ true → b n ≡ [] → length xs < own_limit limit → own_limit limit ≤ l → size b ≤ limit → a ≡ put_answer (look xs) l n r → Placed xs ys n r a → look ys ≡ put_after (look xs) n r a → Filled limit xs ys b b n r a
filled_free limit xs ys b l n r a lawful_xs none free room within h p after =
    let own = own_all limit xs (omega arith) in
    let own' = own_all limit ys (omega (arith, placed_length xs ys n r a p)) in
    let moved : own_records limit ys ≡ put_after (own_records limit xs) n r a = own' ∙ after ∙ ap (λ t. put_after t n r a) (sym own) in
    let all_size = size_look xs lawful_xs in
    let in_both : size (both (own_records limit xs) b) < front_limit limit = omega (arith, size_both (own_records limit xs) b, ap size own, all_size) in
    record {
      value = h ∙ same_room (look xs) (both (own_records limit xs) b) l (front_limit limit) n r
          (sym (none_append (own_records limit xs n) (b n) ∙ ap (λ zs. is_none (own_records limit xs n) && is_none zs) none ∙ and_true (is_none (own_records limit xs n)) ∙ ap (λ t. is_none (t n)) own))
          (lt-ltb (size (look xs)) l (omega arith) ∙ sym (lt-ltb (size (both (own_records limit xs) b)) (front_limit limit) in_both));
      after = ap (λ t. both t b) moved ∙ put_front (own_records limit xs) b n r a none;
      order = record {
        while_free = λ _. (moved, refl);
        then_behind = λ full. absurd (omega (arith, ap size own, all_size));
      };
    }
  where
    and_true : (x : Bool) → (x && true) ≡ x
    and_true true = refl
    and_true false = refl

-- behind, where a record stands there already, or where its own rows are all in use
pub filled_behind : (limit : ℕ) (xs : List Row) (b b' : Table) (n : ℕ) (r : Record) (a : Result (Unit {0}) PutRefusal) → lawful xs ≡ true → own_records limit xs n ≡ [] → (is_none (b n) ≡ false) ⊎ (own_limit limit ≤ length xs) → a ≡ put_answer b limit n r → b' ≡ put_after b n r a → Filled limit xs xs b b' n r a
filled_behind limit xs b b' n r a lawful_xs none why h after =
    let s = own_records limit xs in
    let behind_none : is_none (b n) ≡ is_none (both s b n) = ap (λ zs. is_none (zs ++ b n)) (sym none) in
    record {
      value = h ∙ elim why [
        | inl known ↦ same_known b (both s b) limit (front_limit limit) n r known (sym behind_none ∙ known)
        | inr full ↦ same_room b (both s b) limit (front_limit limit) n r behind_none (room (size b) (size (both s b)) (omega (arith, size_both s b, own_size limit xs lawful_xs)))
      ];
      after = ap (both s) after ∙ put_behind s b n r a none;
      order = record {
        while_free = λ free. elim why [
          | inl known ↦ (sym (known_kept b limit n r s r a known h), after ∙ known_kept b limit n r b r a known h)
          | inr full ↦ absurd (omega (arith, own_size limit xs lawful_xs))
        ];
        then_behind = λ _. (refl, after);
      };
    }
  where
    room : (p q : ℕ) → q ≡ own_limit limit + p → ltb p limit ≡ ltb q (front_limit limit)
    room p q e = elim (cases_lt p limit) [
      | inl l ↦ lt-ltb p limit l ∙ sym (lt-ltb q (front_limit limit) (omega arith))
      | inr g ↦ le-ltb p limit g ∙ sym (le-ltb q (front_limit limit) (omega arith))
    ]

-- an identifier is taken out of both parts
pub taken_both : (limit : ℕ) (xs mid ys : List Row) (b b' : Table) (k n : ℕ) (o : Option ℕ) → mid ≡ take k xs → k ≡ own_limit limit → TakenOut mid ys n o → look ys ≡ without (look mid) (n ∷ []) → b' ≡ without b (n ∷ []) → front_records limit ys b' ≡ without (front_records limit xs b) (n ∷ [])
taken_both limit xs mid ys b b' k n o e f p own behind =
    let short : length ys ≤ own_limit limit = omega (arith, taken_length mid ys n o p, ap length e, length-take k xs) in
    ap (λ t. both t b') (own_all limit ys short ∙ own ∙ ap (λ zs. without (look zs) (n ∷ [])) (e ∙ ap (λ j. take j xs) f))
    ∙ ap (both (without (own_records limit xs) (n ∷ []))) behind
    ∙ without_both (own_records limit xs) b (n ∷ [])

-- whether there was anything in its own rows
pub taken_own : (limit : ℕ) (xs mid ys : List Row) (k n : ℕ) (o : Option ℕ) → mid ≡ take k xs → k ≡ own_limit limit → TakenOut mid ys n o → is_some o ≡ not (is_none (own_records limit xs n))
taken_own limit xs mid ys k n o e f p = taken_some mid ys n o p ∙ ap (λ zs. not (is_none (look zs n))) (e ∙ ap (λ j. take j xs) f)

-- the first of none are none
pub take_none : {A : Type 0} (k : ℕ) → take {A = A} k [] ≡ []
take_none zero = refl
take_none (suc k) = refl
