-- A file is accepted exactly when it is the encoding of valid rules.
use Rattle.std.proofs.Common.{◌≡◌, ℕ, zero, suc, ◌≤◌, true, eqb, ltb, List, [], ◌∷◌, ◌++◌, length, get_or, drop, Ok, Err, sym, refl, ap, ◌∙◌, subst, append-nil, w8, Fits}
use Rattle.std.proofs.lemmas.Bool.{and_parts, eqb-true, ltb-false, le-ltb}
use Rattle.rules.specs.Books.{Book}
use Rattle.rules.specs.Valids.{Valid}
use Rattle.rules.specs.Format.{Bytes, mark, number_bytes, counted, rule_bytes, file_bytes}
use Rattle.rules.specs.Parse.{Outcome, got, refused, book}
use Rattle.rules.specs.Files.{begins, whole, file, AcceptedExactly}
use Rattle.rules.specs.declared.LoadRefusal.TheVariants.{TooLong}
use Rattle.rules.proofs.Outcomes.{branch, off}
use Rattle.rules.proofs.RuleCodecs.{book_codec}

-- what a byte's type says
pub typed_bytes : (s : List ℕ) → ((i : ℕ) → Fits w8 (get_or s i 0)) → Bytes s
typed_bytes [] f = tt
typed_bytes (b ∷ s) f = ((f 0).fits, typed_bytes s (λ i. f (suc i)))

pub begins_with : (ms s : List ℕ) → begins ms s ≡ true → s ≡ ms ++ drop (length ms) s
begins_with [] s t = refl
begins_with (m ∷ ms) [] t = cc
begins_with (m ∷ ms) (b ∷ s) t =
    let p = and_parts (eqb b m) _ t in
    rw (eqb-true b m p.0) (ap (λ r. m ∷ r) (begins_with ms s p.1))

whole_is : (o : Outcome Book) (b : Book) {G : Type 0} → whole o ≡ Ok b → ((k : ℕ) → o ≡ got b k [] → G) → G
whole_is (got a k []) b e f = let q : a ≡ b = cc in f k (ap (λ x. got x k []) q)
whole_is (got a k (x ∷ s)) b e f = cc
whole_is (refused x) b e f = cc

bytes_after : (n : ℕ) (s : List ℕ) → Bytes s → Bytes (drop n s)
bytes_after zero s v = v
bytes_after (suc n) [] v = tt
bytes_after (suc n) (b ∷ s) v = bytes_after n s v.1

pub accepted_exactly : (s : List ℕ) → Bytes s → AcceptedExactly s
accepted_exactly s bs = record { exactly = λ b. (to b, from b) }
  where
    to : (b : Book) → file s ≡ Ok b → Valid b × (length s ≤ 4096) × (s ≡ file_bytes b)
    to b e =
        branch (ltb 4096 (length s)) e (λ _ x. cc) (λ t x.
        branch (begins mark s) x (λ u y.
        whole_is (book 4 (drop 4 s)) b y (λ k q.
        let r = book_codec.reads 4 (drop 4 s) b k [] (bytes_after 4 s bs) q in
        (r.1, ltb-false 4096 (length s) t, begins_with mark s u ∙ ap (λ z. mark ++ z) (r.0 ∙ append-nil _))))
        (λ _ y. cc))

    from : (b : Book) → Valid b × (length s ≤ 4096) × (s ≡ file_bytes b) → file s ≡ Ok b
    from b v =
        let t = counted number_bytes b.arities ++ counted rule_bytes b.rules in
        let w = book_codec.writes b v.0 4 [] in
        let l : length (file_bytes b) ≤ 4096 = subst (λ z. length z ≤ 4096) v.2 v.1 in
        let q : book 4 t ≡ got b w.0 [] = ap (λ z. book 4 z) (sym (append-nil t)) ∙ w.1 in
        ap file v.2 ∙ off (Err TooLong) (whole (book 4 t)) (le-ltb 4096 (length (file_bytes b)) l) (ap whole q)
