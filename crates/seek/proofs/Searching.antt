-- The search for partners: what each turn of it shows. Assumes nothing.
use Rattle.std.proofs.Common.{◌≡◌, ℕ, zero, suc, ◌+◌, ◌-◌, ◌<◌, ◌≤◌, Bool, true, false, cond, eqb, ◌⊎◌, List, [], ◌∷◌, ◌++◌, length, get_or, take, is_some, Some, None, Option, sym, refl, ap, ◌∙◌, subst, inl, inr, zero-le, not-suc-le-zero, arith}
use Rattle.std.specs.Bool.{then_some}
use Rattle.std.specs.Option.{option_map, option_or}
use Rattle.std.proofs.lemmas.List.{append-nil, length-append, get_or_at, get_or_append_left, take_all}
use Rattle.std.proofs.lemmas.Bool.{cases_order, cases_lt, cases_eq, true≢false, false≢true, both_ways, eqb-true}
use Rattle.std.proofs.lemmas.Option.{none-some, same_Some}
use Rattle.terms.specs.declared.Primitive.{Primitive}
use Rattle.terms.specs.declared.Term.{Term}
use Rattle.terms.specs.Answers.{Answers}
use Rattle.terms.specs.Lists.{All}
use Rattle.rules.specs.Books.{Rule, heads}
use Rattle.theory.specs.declared.interface.Theory as Theory
use Rattle.theory.specs.Meanings.{Follows}
use Rattle.table.specs.declared.partner.PartnerTable as PartnerTable
use Rattle.table.specs.Lists.{nth}
use Rattle.table.specs.Nexts.{has_key, any_answers, NextOf}
use Rattle.table.specs.Records.{symbol_of, fit}
use Rattle.machine.specs.Lists.{◌∈◌, NoLater}
use Rattle.machine.specs.Matching.{Matches, arguments_of, head_slot, fill_primitive}
use Rattle.machine.specs.Sheets.{Config}
use Rattle.machine.specs.Refined.{rule_of, meaning, living, removes_nothing, Fits}
use Rattle.machine.specs.Keys.{Agrees, key_at}
use Rattle.machine.proofs.Keys.{keyed_partners}
use Rattle.machine.proofs.Unique.{matches_length}
use Rattle.seek.specs.Fillings.{filler_at}
use Rattle.seek.specs.Searches.{AtHead, Begun, Ready, FirstFrom, MayFill, KeyFits, Searched}
use Rattle.seek.proofs.Fitting.{first_answers, low_first, matches_next, matches_more, distinct_more, distinct_next, distinct_at, no_later_front, no_later_less, one_more}
use Rattle.seek.proofs.Order.{in_order}

-- lengths, apart from all else
short : {m n p : ℕ} → m < n → p ≡ n → p ≡ m + 0 → ⊥
short a b c = omega arith

over : {m n p q : ℕ} (l : ℕ) → q ≤ m → p ≡ n → p ≡ m + suc l → q ≡ n → ⊥
over l a b c d = omega arith

within_all : {m n q h : ℕ} → q ≤ m → q ≡ n → h < n → h < m
within_all a b c = omega arith

all_within : {m n q : ℕ} → q ≤ m → q ≡ n → n ≤ m
all_within a b = omega arith

one_room : {m n p : ℕ} → m < n → p ≡ m + 1 → p ≤ n
one_room a b = omega arith

not_last : {m h p : ℕ} → h < p → p ≡ m + 1 → (m ≡ h → ⊥) → h < m
not_last a b c = omega arith

as_many : {m n q : ℕ} → m < q → q ≡ n → m < n
as_many a b = omega arith

inside : {h n p : ℕ} → h < n → p ≡ n → h < p
inside a b = omega arith

not_none : {y : ℕ} → y ≤ 0 → 1 ≤ y → ⊥
not_none a b = omega arith

between : {x y : ℕ} → y ≤ x → x ≤ y → y ≡ x
between a b = omega arith

-- the heads and the tuple as the code reads them: where a head is left, its symbol, and the tuple with one more
module _ {hs HS ps pre : List ℕ} (same : hs ≡ HS) (place : ps ≡ pre) where
  pub room_for : length ps < length hs → length pre < length HS
  room_for l = omega (arith, ap length same, ap length place)

  pub head_symbol : get_or hs (length ps) 0 ≡ get_or HS (length pre) 0
  head_symbol = ap (λ z. get_or z (length ps) 0) same ∙ ap (λ z. get_or HS (length z) 0) place

module _ (pre : List ℕ) (x : ℕ) {n : ℕ} (l : length pre < n) (few : n ≤ 3) {t : List ℕ} (e : t ≡ take 3 (pre ++ (x ∷ []))) where
  pub with_one : t ≡ pre ++ (x ∷ [])
  with_one = e ∙ take_all 3 (pre ++ (x ∷ [])) (omega (arith, length-append pre (x ∷ [])))

  pub fewer_left : 3 - length t < 3 - length pre
  fewer_left = omega (arith, ap length with_one, length-append pre (x ∷ []))

-- the fillers agree with a tuple that begins with those identifiers and has the active one at its head
nth_in : (pre ys : List ℕ) (p j : ℕ) → nth pre p ≡ Some j → get_or (pre ++ ys) p 0 ≡ j
nth_in [] ys p j e = absurd (none-some _ e)
nth_in (x ∷ pre) ys zero j e = same_Some _ _ e
nth_in (x ∷ pre) ys (suc p) j e = nth_in pre ys p j e

agrees : (pre ys : List ℕ) (h i : ℕ) → get_or (pre ++ ys) h 0 ≡ i → Agrees (filler_at pre h i) (pre ++ ys)
agrees pre ys h i at p j e = go (nth pre p) refl (eqb p h) refl e
  where
    go : (o : Option ℕ) → nth pre p ≡ o → (b : Bool) → eqb p h ≡ b → option_or o (cond b (Some i) None) ≡ Some j → get_or (pre ++ ys) p 0 ≡ j
    go (Some x) q b z w = nth_in pre ys p j (q ∙ w)
    go None q true z w = ap (λ (n : ℕ). get_or (pre ++ ys) n 0) (eqb-true p h z) ∙ at ∙ same_Some _ _ w
    go None q false z w = absurd (none-some _ w)

-- what was not applied before is ready where the guards follow, over heads and guards that are the rule's
pub ready_from : {A B : Type 0} (T : Theory.Ghosts A) (P : PartnerTable.Ghosts B) (s : Config A B) (k : ℕ) (r : Rule) (tuple : List ℕ) → ((removes_nothing r ≡ true) × ((k, tuple) ∈ s.history) → ⊥) → (hs : List ℕ) → hs ≡ heads r → (gs : List (Primitive Term)) → gs ≡ r.guards → (b : Bool) → Answers b (All (λ g. Follows (meaning T s) (fill_primitive (head_slot s.book.arities (living P s) hs tuple) g)) gs) → Answers b (Ready T P s k r tuple)
ready_from T P s k r tuple n hs e gs q b a = go b (subst (λ z. Answers b (All (λ g. Follows (meaning T s) (fill_primitive (head_slot s.book.arities (living P s) z tuple) g)) r.guards)) e (subst (λ z. Answers b (All (λ g. Follows (meaning T s) (fill_primitive (head_slot s.book.arities (living P s) hs tuple) g)) z)) q a))
  where
    go : (b : Bool) → Answers b (All (λ g. Follows (meaning T s) (fill_primitive (head_slot s.book.arities (living P s) (heads r) tuple) g)) r.guards) → Answers b (Ready T P s k r tuple)
    go true x = record { new = n; guarded = x }
    go false x = λ d. x d.guarded

module _ {A B : Type 0} (T : Theory.Ghosts A) (P : PartnerTable.Ghosts B) (s : Config A B) (k h i : ℕ) where
  -- nothing up to a place leads to a fitting tuple
  abbrev pub Passed : List ℕ → ℕ → Type 0
  Passed pre last = (y : ℕ) (ys : List ℕ) → y ≤ last → Fits T P s k h i (pre ++ (y ∷ ys)) → ⊥

  -- nor anything below one
  abbrev pub NoneBelow : List ℕ → ℕ → Type 0
  NoneBelow pre x = (y : ℕ) (ys : List ℕ) → y < x → Fits T P s k h i (pre ++ (y ∷ ys)) → ⊥

  -- nor, where nothing at the next place does, up to that
  pub passed_more : (pre : List ℕ) (x : ℕ) → NoneBelow pre x → ((ys : List ℕ) → Fits T P s k h i (pre ++ (x ∷ ys)) → ⊥) → Passed pre x
  passed_more pre x below here y ys l f = go (cases_lt y x)
    where
      go : (y < x) ⊎ (x ≤ y) → ⊥
      go (inl m) = below y ys m f
      go (inr m) = here ys (subst (λ z. Fits T P s k h i (pre ++ (z ∷ ys))) (between l m) f)

module _ {A B : Type 0} {T : Theory.Ghosts A} {P : PartnerTable.Ghosts B} {s : Config A B} {k h i : ℕ} where
  long : (xs : List ℕ) → Fits T P s k h i xs → length xs ≡ length (heads (rule_of s k))
  long xs f = matches_length (living P s) (heads (rule_of s k)) xs f.applies.matches

  -- where one more is to be filled
  next_there : (pre ys : List ℕ) → length pre < length (heads (rule_of s k)) → Fits T P s k h i (pre ++ ys) → (y : ℕ) × (zs : List ℕ) × (ys ≡ y ∷ zs)
  next_there pre [] l f = absurd (short l (long (pre ++ []) f) (length-append pre []))
  next_there pre (y ∷ zs) l f = (y, zs, refl)

  next_symbol : (pre : List ℕ) (y : ℕ) (ys : List ℕ) → Fits T P s k h i (pre ++ (y ∷ ys)) → symbol_of (living P s y) ≡ Some (get_or (heads (rule_of s k)) (length pre) 0)
  next_symbol pre y ys f = matches_next (living P s) (heads (rule_of s k)) pre y ys f.applies.matches

  next_new : (pre : List ℕ) (y : ℕ) (ys : List ℕ) → Fits T P s k h i (pre ++ (y ∷ ys)) → y ∈ pre → ⊥
  next_new pre y ys f = distinct_next pre y ys f.applies.distinct

  -- what is found from a tuple that is begun is found from an equal one
  pub found_from : {r : Rule} {pre other : List ℕ} → pre ≡ other → (o : Option (List ℕ)) → (Begun T P s k h i r pre → FirstFrom T P s k h i pre o) → Begun T P s k h i r other → FirstFrom T P s k h i other o
  found_from {r = r} e o f b = subst (λ z. FirstFrom T P s k h i z o) e (f (subst (Begun T P s k h i r) (sym e) b))

  module _ {r : Rule} {pre : List ℕ} (b : Begun T P s k h i r pre) where
    same_heads : heads r ≡ (heads (rule_of s k))
    same_heads = ap heads b.rule

    count : length (heads r) ≡ length (heads (rule_of s k))
    count = ap length same_heads

    -- nothing leads to one below the first identifier
    pub passed_none : ((y : ℕ) → All (λ r. fit y r ≡ true) (P.records s.table y)) → Passed T P s k h i pre 0
    passed_none fits y ys l f = not_none l (low_first y (P.records s.table y) (get_or (heads (rule_of s k)) (length pre) 0) (fits y) (next_symbol pre y ys f))

    -- nor through one from which none is found
    pub tried_any : {D : Type 0} (f : D → List ℕ) (x : ℕ) (o : Option D) → is_some o ≡ false → FirstFrom T P s k h i (pre ++ (x ∷ [])) (option_map f o) → (ys : List ℕ) → Fits T P s k h i (pre ++ (x ∷ ys)) → ⊥
    tried_any f x None e w ys g = w ys (subst (Fits T P s k h i) (sym (one_more pre ys x)) g)
    tried_any f x (Some a) e w ys g = absurd (true≢false e)

    -- where all heads are filled
    filled_none : length (heads r) ≤ length pre → (Ready T P s k r pre → ⊥) → FirstFrom T P s k h i pre None
    filled_none l n [] f = n (subst (λ z. Ready T P s k z pre) (sym b.rule) (let g = subst (Fits T P s k h i) (append-nil pre) f in record { new = g.new; guarded = g.applies.guarded }))
    filled_none l n (y ∷ ys) f = over (length ys) l (long (pre ++ (y ∷ ys)) f) (length-append pre (y ∷ ys)) count

    filled_some : length (heads r) ≤ length pre → Ready T P s k r pre → FirstFrom T P s k h i pre (Some pre)
    filled_some l d = record { rest = []; begins = sym (append-nil pre); fits = fits (subst (λ z. Ready T P s k z pre) b.rule d); least = λ ys g. no_later_front pre ys }
      where
        fits : Ready T P s k (rule_of s k) pre → Fits T P s k h i pre
        fits q = record { applies = record { matches = subst (λ z. Matches (living P s) z pre) (take_all (length pre) (heads (rule_of s k)) (all_within l count)) b.matches; distinct = b.distinct; guarded = q.guarded }; at = b.at (within_all l count b.place.within); new = q.new }

    -- a tuple that fills all heads is found if the rule is ready for it
    pub filled : length (heads r) ≤ length pre → {X : Type 0} (f : X → List ℕ) (x : X) → f x ≡ pre → (b : Bool) → Answers b (Ready T P s k r pre) → FirstFrom T P s k h i pre (option_map f (then_some b x))
    filled l f x e true d = subst (λ z. FirstFrom T P s k h i pre (Some z)) (sym e) (filled_some l d)
    filled l f x e false n = filled_none l n

    -- one head more
    more : (y : ℕ) → length pre < length (heads (rule_of s k)) → symbol_of (living P s y) ≡ Some (get_or (heads (rule_of s k)) (length pre) 0) → (y ∈ pre → ⊥) → (length pre ≡ h → y ≡ i) → Begun T P s k h i r (pre ++ (y ∷ []))
    more y l e n a = record { place = b.place; rule = b.rule; few = one_room l (length-append pre (y ∷ [])); matches = matches_more (living P s) (heads (rule_of s k)) pre y l b.matches e; distinct = distinct_more pre y b.distinct n; at = λ m. go (cases_eq (length pre) h) m }
      where
        go : (length pre ≡ h) ⊎ (length pre ≡ h → ⊥) → h < length (pre ++ (y ∷ [])) → get_or (pre ++ (y ∷ [])) h 0 ≡ i
        go (inl q) m = get_or_at pre y [] 0 h q ∙ a q
        go (inr q) m = let m' : h < length pre = not_last m (length-append pre (y ∷ [])) q in get_or_append_left pre (y ∷ []) 0 h m' ∙ b.at m'

    module _ (l : length pre < length (heads r)) where
      room : length pre < length (heads (rule_of s k))
      room = as_many l count

      -- at the active head
      active_next : (ys : List ℕ) → length pre ≡ h → Fits T P s k h i (pre ++ ys) → (zs : List ℕ) × (ys ≡ i ∷ zs)
      active_next [] e f = absurd (short room (long (pre ++ []) f) (length-append pre []))
      active_next (y ∷ zs) e f = (zs, ap (λ z. z ∷ zs) (sym (get_or_at pre y zs 0 h e) ∙ f.at))

      pub active_twice : length pre ≡ h → i ∈ pre → FirstFrom T P s k h i pre None
      active_twice e m ys f = let z = active_next ys e f in next_new pre i z.0 (subst (λ w. Fits T P s k h i (pre ++ w)) z.1 f) m

      pub active_begun : length pre ≡ h → (i ∈ pre → ⊥) → Begun T P s k h i r (pre ++ (i ∷ []))
      active_begun e n = more i room (b.place.alive ∙ ap (λ p. Some (get_or (heads (rule_of s k)) p 0)) (sym e)) n (λ q. refl)

      pub active_found : length pre ≡ h → (o : Option (List ℕ)) → FirstFrom T P s k h i (pre ++ (i ∷ [])) o → FirstFrom T P s k h i pre o
      active_found e None n = λ ys f. let z = active_next ys e f in n z.0 (subst (Fits T P s k h i) (ap (λ w. pre ++ w) z.1 ∙ sym (one_more pre z.0 i)) f)
      active_found e (Some xs) w = record { rest = i ∷ w.rest; begins = w.begins ∙ one_more pre w.rest i; fits = w.fits; least = λ ys f. go ys f (active_next ys e f) }
        where
          go : (ys : List ℕ) → Fits T P s k h i (pre ++ ys) → ((zs : List ℕ) × (ys ≡ i ∷ zs)) → NoLater xs (pre ++ ys)
          go ys f z = let q : pre ++ ys ≡ (pre ++ (i ∷ [])) ++ z.0 = ap (λ w. pre ++ w) z.1 ∙ sym (one_more pre z.0 i) in subst (NoLater xs) (sym q) (w.least z.0 (subst (Fits T P s k h i) q f))

      -- the key of the next head
      key_fits : KeyFits T P s k h i pre (key_at s.book.arities (living P s) r (filler_at pre h i) (length pre))
      key_fits y ys f = subst (λ o. has_key o (arguments_of (living P s y)) ≡ true) (sym (ap (λ z. key_at s.book.arities (living P s) z (filler_at pre h i) (length pre)) b.rule)) (subst (λ (x : ℕ). has_key (key_at s.book.arities (living P s) (rule_of s k) (filler_at pre h i) (length pre)) (arguments_of (living P s x)) ≡ true) (get_or_at pre y ys 0 (length pre) refl) (keyed_partners T P s b.place.stands k h i (pre ++ (y ∷ ys)) f (filler_at pre h i) (agrees pre (y ∷ ys) h i f.at) (length pre) room))

      -- at another head
      module _ {symbol : ℕ} (is : symbol ≡ get_or (heads r) (length pre) 0) where
        has_symbol : symbol ≡ get_or (heads (rule_of s k)) (length pre) 0
        has_symbol = is ∙ ap (λ z. get_or z (length pre) 0) same_heads

        replies : (y : ℕ) (ys : List ℕ) → Fits T P s k h i (pre ++ (y ∷ ys)) → any_answers (Some symbol) (key_at s.book.arities (living P s) r (filler_at pre h i) (length pre)) (P.records s.table y) ≡ true
        replies y ys f = first_answers (P.records s.table y) symbol (key_at s.book.arities (living P s) r (filler_at pre h i) (length pre)) (next_symbol pre y ys f ∙ ap (λ z. Some z) (sym has_symbol)) (key_fits y ys f)

        -- no identifier below the next answer leads to a fitting tuple
        pub passed_below : (last x : ℕ) → Passed T P s k h i pre last → NextOf (P.records s.table) (Some symbol) (key_at s.book.arities (living P s) r (filler_at pre h i) (length pre)) last (Some x) → NoneBelow T P s k h i pre x
        passed_below last x p n y ys l f = go (cases_lt last y)
          where
            go : (last < y) ⊎ (y ≤ last) → ⊥
            go (inr m) = p y ys m f
            go (inl m) = both_ways (any_answers (Some symbol) (key_at s.book.arities (living P s) r (filler_at pre h i) (length pre)) (P.records s.table y)) (n.2 y m l) (replies y ys f)

        -- nothing up to the next answer does, if nothing does there
        pub passed_on : (last x : ℕ) {high : ℕ} → high ≡ x → Passed T P s k h i pre last → NextOf (P.records s.table) (Some symbol) (key_at s.book.arities (living P s) r (filler_at pre h i) (length pre)) last (Some x) → ((ys : List ℕ) → Fits T P s k h i (pre ++ (x ∷ ys)) → ⊥) → Passed T P s k h i pre high
        passed_on last x e p n here = subst (Passed T P s k h i pre) (sym e) (passed_more T P s k h i pre x (passed_below last x p n) here)

        pub none_left : (last : ℕ) → Passed T P s k h i pre last → NextOf (P.records s.table) (Some symbol) (key_at s.book.arities (living P s) r (filler_at pre h i) (length pre)) last None → FirstFrom T P s k h i pre None
        none_left last p n ys f = let z = next_there pre ys room f in go z.0 z.1 (subst (λ w. Fits T P s k h i (pre ++ w)) z.2 f) (cases_lt last z.0)
          where
            go : (y : ℕ) (zs : List ℕ) → Fits T P s k h i (pre ++ (y ∷ zs)) → (last < y) ⊎ (y ≤ last) → ⊥
            go y zs f (inr m) = p y zs m f
            go y zs f (inl m) = both_ways (any_answers (Some symbol) (key_at s.book.arities (living P s) r (filler_at pre h i) (length pre)) (P.records s.table y)) (n y m) (replies y zs f)

        pub fill_begun : (x : ℕ) → (length pre ≡ h → ⊥) → MayFill (living P s) i symbol pre x → Begun T P s k h i r (pre ++ (x ∷ []))
        fill_begun x n m = more x room (m.has ∙ ap (λ z. Some z) has_symbol) m.new (λ q. absurd (n q))

        next_other : (y : ℕ) (ys : List ℕ) → (length pre ≡ h → ⊥) → Fits T P s k h i (pre ++ (y ∷ ys)) → y ≡ i → ⊥
        next_other y ys n f e = n (sym (distinct_at pre y ys h f.applies.distinct (inside b.place.within (long (pre ++ (y ∷ ys)) f)) (f.at ∙ sym e)))

        pub unfit : (x : ℕ) → (length pre ≡ h → ⊥) → (MayFill (living P s) i symbol pre x → ⊥) → (ys : List ℕ) → Fits T P s k h i (pre ++ (x ∷ ys)) → ⊥
        unfit x n m ys f = m (record { other = next_other x ys n f; new = next_new pre x ys f; has = next_symbol pre x ys f ∙ ap (λ z. Some z) (sym has_symbol) })

      found_here : (x : ℕ) (xs : List ℕ) → NoneBelow T P s k h i pre x → FirstFrom T P s k h i (pre ++ (x ∷ [])) (Some xs) → FirstFrom T P s k h i pre (Some xs)
      found_here x xs below w = record { rest = x ∷ w.rest; begins = w.begins ∙ one_more pre w.rest x; fits = w.fits; least = λ ys f. let z = next_there pre ys room f in subst (λ v. NoLater xs (pre ++ v)) (sym z.2) (go z.0 z.1 (subst (λ v. Fits T P s k h i (pre ++ v)) z.2 f) (cases_order x z.0)) }
        where
          go : (y : ℕ) (zs : List ℕ) → Fits T P s k h i (pre ++ (y ∷ zs)) → (x ≡ y) ⊎ ((x < y) ⊎ (y < x)) → NoLater xs (pre ++ (y ∷ zs))
          go y zs f (inl e) = subst (λ v. NoLater xs (pre ++ (v ∷ zs))) e (subst (NoLater xs) (one_more pre zs x) (w.least zs (subst (Fits T P s k h i) (sym (one_more pre zs x)) (subst (λ v. Fits T P s k h i (pre ++ (v ∷ zs))) (sym e) f))))
          go y zs f (inr (inl m)) = subst (λ v. NoLater v (pre ++ (y ∷ zs))) (sym (w.begins ∙ one_more pre w.rest x)) (no_later_less pre x y w.rest zs m)
          go y zs f (inr (inr m)) = absurd (below y zs m f)

      pub found_any : {D : Type 0} (f : D → List ℕ) (x : ℕ) → NoneBelow T P s k h i pre x → (o : Option D) → is_some o ≡ true → FirstFrom T P s k h i (pre ++ (x ∷ [])) (option_map f o) → FirstFrom T P s k h i pre (option_map f o)
      found_any f x below None e w = absurd (false≢true e)
      found_any f x below (Some a) e w = found_here x (f a) below w

module _ {A B : Type 0} (T : Theory.Ghosts A) (P : PartnerTable.Ghosts B) (s : Config A B) (k h i : ℕ) where
  -- from the empty tuple on
  pub begun_none : (r : Rule) → AtHead T P s k h i → r ≡ rule_of s k → Begun T P s k h i r []
  begun_none r a e = record { place = a; rule = e; few = zero-le; matches = tt; distinct = tt; at = λ l. absurd (not-suc-le-zero l) }

  pub searched : {D : Type 0} (f : D → List ℕ) (o : Option D) → FirstFrom T P s k h i [] (option_map f o) → Searched T P s k h i (option_map f o)
  searched f None n = n
  searched f (Some x) w = record { fits = w.fits; before = λ other g. in_order (f x) other h (w.fits.at ∙ sym g.at) (length (heads (rule_of s k))) (long (f x) w.fits) (long other g) (w.least other g) }
