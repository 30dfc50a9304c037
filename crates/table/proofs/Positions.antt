-- The place of an identifier's row, and the rows with one more and one less.
use Rattle.std.proofs.Common.{◌≡◌, ℕ, zero, suc, ◌<◌, ◌≢◌, Bool, true, false, not, List, [], ◌∷◌, ◌++◌, length, get_or, is_some, Some, None, Option, sym, refl, ap, ◌∙◌, arith}
use Rattle.std.proofs.Math.Path.{fun_ext}
use Rattle.std.specs.List.{remove, AllWithin, HoldsAt}
use Rattle.std.specs.Option.{MatchOption}
use Rattle.table.specs.Lists.{is_none, first}
use Rattle.table.specs.Records.{Record, fit}
use Rattle.table.specs.Tables.{with_record, without}
use Rattle.table.specs.Rows.{record_of, look, lawful, Position, TakenOut}
use Rattle.table.specs.declared.row.Row.{Row}
use Rattle.table.specs.Looks.{look_here, look_other, look_push, lawful_push, look_removed, look_at}

-- a row that stands for none, where a default is wanted
pub blank : Row
blank = record { identifier = 0; symbol = 0; arguments = record { places = []; filled = 0; few = omega arith } }

-- the first row of an identifier, which those before it have not
first_at : (xs : List Row) (n k : ℕ) (d : Row) → k < length xs → (get_or xs k d).identifier ≡ n → ((j : ℕ) → j < k → (get_or xs j d).identifier ≢ n) → first (look xs n) ≡ Some (record_of (get_or xs k d))
first_at [] n k d l e f = absurd (omega arith)
first_at (x ∷ xs) n zero d l e f = ap first (look_here x xs n e)
first_at (x ∷ xs) n (suc k) d l e f = ap first (look_other x xs n (f 0 (omega arith))) ∙ first_at xs n k d (omega arith) e (λ j m. f (suc j) (omega arith))

none_at : (xs : List Row) (n : ℕ) (d : Row) → ((j : ℕ) → j < length xs → (get_or xs j d).identifier ≢ n) → look xs n ≡ []
none_at [] n d f = refl
none_at (x ∷ xs) n d f = look_other x xs n (f 0 (omega arith)) ∙ none_at xs n d (λ j m. f (suc j) (omega arith))

pub position_is : (xs : List Row) (n : ℕ) (o : Option ℕ) → MatchOption o (AllWithin (λ (x : Row). x.identifier ≢ n) xs 0 (length xs)) (λ k. (k < length xs) × HoldsAt (λ (x : Row). x.identifier ≡ n) xs k × AllWithin (λ (x : Row). x.identifier ≢ n) xs 0 k) → Position xs n o
position_is xs n None f = none_at xs n blank (λ j l. f j blank (omega arith) l)
position_is xs n (Some k) p = (p.0, λ d. (p.1 d, first_at xs n k d p.0 (p.1 d) (λ j l. p.2 j d (omega arith) l)))

some_first : {A : Type 0} (xs : List A) (x : A) → first xs ≡ Some x → is_none xs ≡ false
some_first [] x e = cc
some_first (y ∷ ys) x e = refl

-- whether a place was found, of rows that are the same
pub known_is : (xs ys : List Row) (n : ℕ) (o : Option ℕ) (b : Bool) → ys ≡ xs → Position ys n o → b ≡ is_some o → is_none (look xs n) ≡ not b
known_is xs ys n None b e p f = ap (λ zs. is_none (look zs n)) (sym e) ∙ ap is_none p ∙ ap not (sym f)
known_is xs ys n (Some k) b e p f = ap (λ zs. is_none (look zs n)) (sym e) ∙ some_first (look ys n) _ (p.1 blank).1 ∙ ap not (sym f)

-- whether a row was taken out
pub taken_some : (xs ys : List Row) (n : ℕ) (o : Option ℕ) → TakenOut xs ys n o → is_some o ≡ not (is_none (look xs n))
taken_some xs ys n None p = sym (ap (λ zs. not (is_none zs)) p.0)
taken_some xs ys n (Some k) p = sym (ap not (ap (λ m. is_none (look xs m)) (sym (p.1 blank)) ∙ look_at xs k blank p.0))

-- one row more, by what is known of it
pub added_lawful : (xs ys : List Row) (x : Row) (n : ℕ) (r : Record) → ys ≡ xs ++ x ∷ [] → x.identifier ≡ n → record_of x ≡ r → lawful xs ≡ true → fit n r ≡ true → is_none (look xs n) ≡ true → lawful ys ≡ true
added_lawful xs ys x n r e i v h f g =
    ap lawful e ∙ lawful_push xs x h (ap (λ m. fit m (record_of x)) i ∙ ap (fit n) v ∙ f) (ap (λ m. is_none (look xs m)) i ∙ g)

pub added_look : (xs ys : List Row) (x : Row) (n : ℕ) (r : Record) → ys ≡ xs ++ x ∷ [] → x.identifier ≡ n → record_of x ≡ r → is_none (look xs n) ≡ true → look ys ≡ with_record (look xs) n r
added_look xs ys x n r e i v g =
    ap look e ∙ look_push xs x (ap (λ m. is_none (look xs m)) i ∙ g)
    ∙ ap (λ m. with_record (look xs) m (record_of x)) i ∙ ap (with_record (look xs) n) v

-- one row less
pub taken_look : (xs ys : List Row) (k n : ℕ) (d : Row) → ys ≡ remove xs k → k < length xs → lawful xs ≡ true → (get_or xs k d).identifier ≡ n → look ys ≡ without (look xs) (n ∷ [])
taken_look xs ys k n d e l h i = ap look e ∙ fun_ext (look_removed xs k d l h) ∙ ap (λ m. without (look xs) (m ∷ [])) i
