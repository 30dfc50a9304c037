-- What a put is answered, by its parts.
use Rattle.std.proofs.Common.{◌≡◌, ℕ, ◌<◌, ◌≤◌, Bool, true, false, not, ltb, List, ◌∷◌, [], ◌++◌, is_some, Some, Option, Ok, Err, sym, refl, ap, ◌∙◌, subst}
use Rattle.std.proofs.lemmas.Bool.{lt-ltb, le-ltb, ltb-true}
use Rattle.table.specs.Lists.{is_none}
use Rattle.table.specs.Records.{Record, fit}
use Rattle.table.specs.Tables.{Table, size, with_record, judged, put_answer}
use Rattle.table.specs.Rows.{look, lawful, record_of, Made, Position}
use Rattle.table.specs.declared.put.PutRefusal.TheVariants.{Twice, Full}
use Rattle.table.specs.declared.row.Row.{Row}
use Rattle.table.proofs.Positions.{known_is, added_lawful, added_look}

-- what is known of rows where a row x is to be put for the record r under n, and b says whether one stands there
pub record Asked (xs : List Row) (n : ℕ) (r : Record) (x : Row) (b : Bool) : Type 0 where
  pub fits : fit n r ≡ true
  pub under : x.identifier ≡ n
  pub means : record_of x ≡ r
  pub fresh : is_none (look xs n) ≡ not b

pub asked : {xs ys : List Row} {x : Row} {b : Bool} (n : ℕ) (r : Record) (o : Option Row) (k : Option ℕ) → Made n r o → o ≡ Some x → ys ≡ xs → Position ys n k → b ≡ is_some k → Asked xs n r x b
asked {xs} {ys} {x} {b} n r o k m e f p h =
    let made = subst (Made n r) e m in
    record { fits = made.0; under = made.1; means = made.2; fresh = known_is xs ys n k b f p h }

module _ {xs : List Row} {n : ℕ} {r : Record} {x : Row} {b : Bool} (limit : ℕ) (a : Asked xs n r x b) where
  answer_is : put_answer (look xs) limit n r ≡ judged true (not b) (ltb (size (look xs)) limit)
  answer_is = ap (λ f. judged f (is_none (look xs n)) (ltb (size (look xs)) limit)) a.fits ∙ ap (λ f. judged true f (ltb (size (look xs)) limit)) a.fresh

  pub is_twice : b ≡ true → Err Twice ≡ put_answer (look xs) limit n r
  is_twice h = sym (answer_is ∙ ap (λ f. judged true (not f) (ltb (size (look xs)) limit)) h)

  pub is_full : b ≡ false → limit ≤ size (look xs) → Err Full ≡ put_answer (look xs) limit n r
  is_full h l = sym (answer_is ∙ ap (λ f. judged true (not f) (ltb (size (look xs)) limit)) h ∙ ap (judged true true) (le-ltb (size (look xs)) limit l))

  pub is_added : b ≡ false → size (look xs) < limit → Ok tt ≡ put_answer (look xs) limit n r
  is_added h l = sym (answer_is ∙ ap (λ f. judged true (not f) (ltb (size (look xs)) limit)) h ∙ ap (judged true true) (lt-ltb (size (look xs)) limit l))

-- the rows with that row more
module _ {xs ys : List Row} {n : ℕ} {r : Record} {x : Row} {b : Bool} (a : Asked xs n r x b) (h : b ≡ false) (e : ys ≡ xs ++ x ∷ []) where
  pub one_lawful : lawful xs ≡ true → lawful ys ≡ true
  one_lawful l = added_lawful xs ys x n r e a.under a.means l a.fits (a.fresh ∙ ap not h)

  pub one_look : look ys ≡ with_record (look xs) n r
  one_look = added_look xs ys x n r e a.under a.means (a.fresh ∙ ap not h)

-- what is known of a record that was added
pub when_added : (t : Table) (limit n : ℕ) (r : Record) → Ok tt ≡ put_answer t limit n r → (fit n r ≡ true) × (is_none (t n) ≡ true) × (size t < limit)
when_added t limit n r e = let p = go (fit n r) (is_none (t n)) (ltb (size t) limit) e in (p.0, p.1, ltb-true (size t) limit p.2)
  where
    go : (a b c : Bool) → Ok tt ≡ judged a b c → (a ≡ true) × (b ≡ true) × (c ≡ true)
    go true true true h = (refl, refl, refl)
    go true true false h = (cc)
    go true false c h = (cc)
    go false b c h = (cc)
