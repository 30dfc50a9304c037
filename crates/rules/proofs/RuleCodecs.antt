-- Body items, rules and books are read exactly as they are written.
use Rattle.std.proofs.Common.{◌≡◌, ℕ, ◌+◌, ◌<◌, ◌≤◌, cond, eqb, ltb, List, [], ◌∷◌, ◌++◌, length, get_or, take, drop, sym, refl, ap, ◌∙◌, append_assoc, arith, length-append, length-drop, take-append-drop}
use lib.Seq.{take-append_seam, drop-append_seam}
use Rattle.std.proofs.lemmas.Bool.{eqb-true, eqb-false, ltb-false, le-ltb}
use Rattle.terms.specs.declared.Primitive.{Primitive}
use Rattle.terms.specs.declared.Primitive.TheVariants.{Same}
use Rattle.terms.specs.declared.Term.{Term}
use Rattle.terms.specs.declared.Term.TheVariants.{Slot}
use Rattle.terms.specs.Lists.{All}
use Rattle.terms.specs.Primitives.{TermValid, PrimitiveValid}
use Rattle.rules.specs.Books.{Goal, tell, add, Rule, Book, heads, slot_count}
use Rattle.rules.specs.Valids.{GoalValid, RuleValid, Valid}
use Rattle.rules.specs.Format.{Bytes, number_bytes, term_bytes, primitive_bytes, each, counted, goal_bytes, rule_bytes}
use Rattle.rules.specs.Parse.{got, after, number, index, primitive, many, addition, goal, head_counts, rule_rest, rule, book}
use Rattle.rules.proofs.Outcomes.{got_is, branch, inverted}
use Rattle.rules.proofs.Codecs.{Codec, joined, renamed, chosen, sequence, made_of, many_codec}
use Rattle.rules.proofs.Numbers.{number_codec, ranged_codec, index_codec, list_codec}
use Rattle.rules.proofs.Terms.{term_codec, primitive_kind, primitive_rest, primitive_codec, primitive_kinds, primitive_bytes_are, guard_codec}
use Rattle.rules.proofs.Slots.{few_each, few_slots}

-- a body item is its kind and what follows
abbrev goal_kind : Goal Term → ℕ
goal_kind (tell p) = primitive_kind p
goal_kind (add c ts) = 3

abbrev symbol_in : Goal Term → ℕ
symbol_in (tell p) = 0
symbol_in (add c ts) = c

abbrev arguments_in : Goal Term → List Term
arguments_in (tell p) = []
arguments_in (add c ts) = ts

abbrev primitive_in : Goal Term → Primitive Term
primitive_in (tell p) = p
primitive_in (add c ts) = Same (Slot 0) (Slot 0)

abbrev goal_rest : Goal Term → List ℕ
goal_rest (tell p) = primitive_rest p
goal_rest (add c ts) = number_bytes c ++ each term_bytes ts

goal_bytes_are : (g : Goal Term) → goal_bytes g ≡ number_bytes (goal_kind g) ++ goal_rest g
goal_bytes_are (tell p) = primitive_bytes_are p
goal_bytes_are (add c ts) = refl

module _ (arities : List ℕ) (few : length arities ≤ 32) (slots : ℕ) (h : slots ≤ 256) where
  abbrev Added : ℕ → Goal Term → Type 0
  Added c g = (add c (arguments_in g) ≡ g) × (length (arguments_in g) ≡ get_or arities c 0) × All (TermValid slots) (arguments_in g)

  addition_codec : Codec (addition arities slots) (λ g. number_bytes (symbol_in g) ++ each term_bytes (arguments_in g)) (λ g. (symbol_in g < length arities) × Added (symbol_in g) g)
  addition_codec =
      sequence _ (λ c g. each term_bytes (arguments_in g)) Added symbol_in (index_codec (length arities) (omega arith))
      (λ c _. made_of (λ ts. add c ts) arguments_in (Added c) (many_codec (term_codec slots h) (get_or arities c 0)) (λ ts v. ((refl, v.0, v.1), refl)) (λ g w. ((w.1, w.2), w.0)))
      (λ c g w. sym (ap symbol_in w.0))

  abbrev Kind : ℕ → Goal Term → Type 0
  Kind kind g = (goal_kind g ≡ kind) × GoalValid arities slots g

  added : (kind : ℕ) → kind ≡ 3 → (g : Goal Term) → Kind kind g → (symbol_in g < length arities) × Added (symbol_in g) g
  added kind z (tell p) w = let l = primitive_kinds slots h p in absurd (omega (arith, w.0))
  added kind z (add c ts) w = (w.1.0, (refl, w.1.1, w.1.2))

  addition_valid : (kind : ℕ) → kind ≡ 3 → (g : Goal Term) → (symbol_in g < length arities) × Added (symbol_in g) g → Kind kind g
  addition_valid kind z (tell p) w = cc w.1.0
  addition_valid kind z (add c ts) w = (sym z, (w.0, w.1.1, w.1.2))

  addition_rest : (kind : ℕ) → kind ≡ 3 → (g : Goal Term) → Kind kind g → goal_rest g ≡ number_bytes (symbol_in g) ++ each term_bytes (arguments_in g)
  addition_rest kind z (tell p) w = let l = primitive_kinds slots h p in absurd (omega (arith, w.0))
  addition_rest kind z (add c ts) w = refl

  told : (kind : ℕ) → (kind ≡ 3 → ⊥) → (g : Goal Term) → Kind kind g → ((primitive_kind (primitive_in g) ≡ kind) × PrimitiveValid slots (primitive_in g)) × (tell (primitive_in g) ≡ g) × (goal_rest g ≡ primitive_rest (primitive_in g))
  told kind z (tell p) w = (w, refl, refl)
  told kind z (add c ts) w = absurd (z (sym w.0))

  goal_rest_codec : (kind : ℕ) → kind ≤ 3 → Codec (λ k s. cond (eqb kind 3) (addition arities slots k s) (after (primitive slots kind k s) (λ p. got (tell p)))) goal_rest (Kind kind)
  goal_rest_codec kind b = chosen (eqb kind 3)
      (λ y. let z : kind ≡ 3 = eqb-true kind 3 y in
      renamed addition_codec (λ g w. addition_rest kind z g (addition_valid kind z g w)) (addition_valid kind z) (added kind z))
      (λ y. let z = eqb-false kind 3 y in
      renamed (made_of (λ p. tell p) primitive_in (Kind kind) (primitive_codec slots h kind (omega arith)) (λ p v. (v, refl)) (λ g w. let q = told kind z g w in (q.0, q.1)))
      (λ g w. (told kind z g w).2) (λ g w. w) (λ g w. w))

  goal_kinds : (g : Goal Term) → goal_kind g ≤ 3
  goal_kinds (tell p) = let l = primitive_kinds slots h p in omega arith
  goal_kinds (add c ts) = omega arith

  goal_codec : Codec (goal arities slots) goal_bytes (GoalValid arities slots)
  goal_codec =
      renamed (sequence _ (λ kind. goal_rest) Kind goal_kind (ranged_codec 0 3 (omega arith)) (λ kind b. goal_rest_codec kind b.1) (λ kind g w. w.0))
      (λ g _. goal_bytes_are g) (λ g v. v.1.1) (λ g v. ((omega arith, goal_kinds g), (refl, v)))

-- the two counts of a rule's heads
abbrev Heads : ℕ × ℕ → Type 0
Heads c = (1 ≤ c.0 + c.1) × (c.0 + c.1 ≤ 3)

head_counts_codec : Codec head_counts (λ c. number_bytes c.0 ++ number_bytes c.1) Heads
head_counts_codec = record { reads = sound; writes = whole }
  where
    sound : (k : ℕ) (s : List ℕ) (c : ℕ × ℕ) (k' : ℕ) (s' : List ℕ) → Bytes s → head_counts k s ≡ got c k' s' → (s ≡ (number_bytes c.0 ++ number_bytes c.1) ++ s') × Heads c × Bytes s'
    sound k s c k' s' bs e =
        inverted (number k s) _ c k' s' e (λ a k₁ s₁ e₁ e₂.
        let m = number_codec.reads k s a k₁ s₁ bs e₁ in
        inverted (number k₁ s₁) _ c k' s' e₂ (λ b k₂ s₂ e₃ e₄.
        let n = number_codec.reads k₁ s₁ b k₂ s₂ m.2 e₃ in
        branch (ltb (a + b) 1) e₄ (λ _ x. cc) (λ t x.
        branch (ltb 3 (a + b)) x (λ _ y. cc) (λ u y.
        let p = got_is (a, b) c _ _ _ _ y in
        rw (p.0, p.1) (joined s (number_bytes a) (number_bytes b) s₁ s₂ m.0 n.0, (ltb-false (a + b) 1 t, ltb-false 3 (a + b) u), n.2)))))

    whole : (c : ℕ × ℕ) → Heads c → (k : ℕ) (s : List ℕ) → (k' : ℕ) × (head_counts k ((number_bytes c.0 ++ number_bytes c.1) ++ s) ≡ got c k' s)
    whole c v k s =
        let m = number_codec.writes c.0 (omega arith) k (number_bytes c.1 ++ s) in
        let n = number_codec.writes c.1 (omega arith) m.0 s in
        (n.0, simp (append_assoc, m.1, n.1, le-ltb _ 1 v.0, le-ltb 3 _ v.1))

regrouped : (a b c d e f : List ℕ) → ((((a ++ b) ++ c) ++ d) ++ e) ++ f ≡ (a ++ b) ++ (c ++ (d ++ (e ++ f)))
regrouped a b c d e f = simp append_assoc

rule_is : (a b : List ℕ) (gs : List (Primitive Term)) (f : ℕ) (r : Rule) → r.kept ≡ a → r.removed ≡ b → r.guards ≡ gs → r.fresh ≡ f →
    record { kept = a; removed = b; guards = gs; fresh = f; body = r.body } ≡ r
rule_is a b gs f r e₁ e₂ e₃ e₄ = rw (← e₁, ← e₂, ← e₃, ← e₄) refl

module _ (arities : List ℕ) where
  -- what is said of a rule once its heads are read, of which the first kept are kept
  abbrev Split : ℕ → List ℕ → Rule → Type 0
  Split kept hs r = (r.kept ≡ take kept hs) × (r.removed ≡ drop kept hs)

  abbrev BodyOf : ℕ → List ℕ → List (Primitive Term) → ℕ → Rule → Type 0
  BodyOf kept hs gs fresh r =
      Split kept hs r × (r.guards ≡ gs) × (r.fresh ≡ fresh) ×
      (((0 ≤ length r.body) × (length r.body ≤ 6)) × All (GoalValid arities (slot_count arities hs + fresh)) r.body)

  abbrev FreshOf : ℕ → List ℕ → List (Primitive Term) → Rule → Type 0
  FreshOf kept hs gs r = ((0 ≤ r.fresh) × (r.fresh ≤ 4)) × BodyOf kept hs gs r.fresh r

  abbrev RestOf : ℕ → List ℕ → Rule → Type 0
  RestOf kept hs r = (((0 ≤ length r.guards) × (length r.guards ≤ 4)) × All (PrimitiveValid (slot_count arities hs)) r.guards) × FreshOf kept hs r.guards r

  abbrev HeadsOf : ℕ × ℕ → Rule → Type 0
  HeadsOf c r = ((length (heads r) ≡ c.0 + c.1) × All (λ s. s < length arities) (heads r)) × RestOf c.0 (heads r) r

  same_heads : (kept : ℕ) (hs : List ℕ) (r : Rule) → RestOf kept hs r → heads r ≡ hs
  same_heads kept hs r w = let p = w.1.1.0 in rw (p.0, p.1) (take-append-drop kept hs)

  same_counts : (c : ℕ × ℕ) (r : Rule) → HeadsOf c r → (length r.kept, length r.removed) ≡ c
  same_counts c r w =
      let n = w.0.0 in
      let l = length-append r.kept r.removed in
      let d = ap length w.1.1.1.0.1 ∙ length-drop c.0 (heads r) in
      let e₁ : length r.removed ≡ c.1 = omega arith in
      let e₀ : length r.kept ≡ c.0 = omega arith in
      rw (e₀, e₁) refl

module _ (arities : List ℕ) (few : length arities ≤ 32) (short : All (λ n. n ≤ 4) arities) where
  rule_rest_codec : (kept : ℕ) (hs : List ℕ) → slot_count arities hs ≤ 12 →
      Codec (rule_rest arities kept hs) (λ r. counted primitive_bytes r.guards ++ (number_bytes r.fresh ++ counted goal_bytes r.body)) (RestOf arities kept hs)
  rule_rest_codec kept hs fits =
      sequence _ (λ gs r. number_bytes r.fresh ++ counted goal_bytes r.body) (FreshOf arities kept hs) (λ r. r.guards) (list_codec 0 4 (omega arith) (guard_codec (slot_count arities hs) (omega arith)))
      (λ gs _. sequence _ (λ fresh r. counted goal_bytes r.body) (BodyOf arities kept hs gs) (λ r. r.fresh) (ranged_codec 0 4 (omega arith))
      (λ fresh b. made_of (λ body. record { kept = take kept hs; removed = drop kept hs; guards = gs; fresh = fresh; body = body }) (λ r. r.body) (BodyOf arities kept hs gs fresh)
      (list_codec 0 6 (omega arith) (goal_codec arities few (slot_count arities hs + fresh) (omega (arith, b.1))))
      (λ body v. (((refl, refl), refl, refl, v), refl))
      (λ r w. (w.3, rule_is _ _ gs fresh r w.0.0 w.0.1 w.1 w.2)))
      (λ fresh r w. w.2))
      (λ gs r w. w.1.1)

  heads_codec : (c : ℕ × ℕ) → Heads c →
      Codec (λ k s. after (many (c.0 + c.1) (index (length arities)) k s) (λ hs. rule_rest arities c.0 hs))
      (λ r. each number_bytes (heads r) ++ (counted primitive_bytes r.guards ++ (number_bytes r.fresh ++ counted goal_bytes r.body))) (HeadsOf arities c)
  heads_codec c v =
      sequence _ (λ hs r. counted primitive_bytes r.guards ++ (number_bytes r.fresh ++ counted goal_bytes r.body)) (RestOf arities c.0) heads
      (many_codec (index_codec (length arities) (omega arith)) (c.0 + c.1))
      (λ hs w. let n = few_slots arities (few_each arities short) hs in rule_rest_codec c.0 hs (omega (arith, w.0)))
      (same_heads arities c.0)

  read_valid : (r : Rule) → Heads (length r.kept, length r.removed) × HeadsOf arities (length r.kept, length r.removed) r → RuleValid arities r
  read_valid r v =
      let l = length-append r.kept r.removed in
      record {
        some_head = omega (arith, v.0.0);
        few_heads = omega (arith, v.0.1);
        declared = v.1.0.1;
        few_guards = v.1.1.0.0.1;
        guards = v.1.1.0.1;
        few_fresh = v.1.1.1.0.1;
        few_items = v.1.1.1.1.3.0.1;
        body = v.1.1.1.1.3.1;
      }

  valid_read : (r : Rule) → RuleValid arities r → Heads (length r.kept, length r.removed) × HeadsOf arities (length r.kept, length r.removed) r
  valid_read r v =
      let l = length-append r.kept r.removed in (
        (omega (arith, v.some_head), omega (arith, v.few_heads)),
        ((l, v.declared), (((omega arith, v.few_guards), v.guards), ((omega arith, v.few_fresh), ((sym (take-append_seam r.kept r.removed), sym (drop-append_seam r.kept r.removed)), refl, refl, ((omega arith, v.few_items), v.body))))),
      )

  rule_codec : Codec (rule arities) rule_bytes (RuleValid arities)
  rule_codec =
      renamed {p = rule arities} (sequence (λ c k s. after (many (c.0 + c.1) (index (length arities)) k s) (λ hs. rule_rest arities c.0 hs)) (λ c r. each number_bytes (heads r) ++ (counted primitive_bytes r.guards ++ (number_bytes r.fresh ++ counted goal_bytes r.body))) (HeadsOf arities) (λ r. (length r.kept, length r.removed)) head_counts_codec heads_codec (same_counts arities))
      (λ r _. regrouped (number_bytes (length r.kept)) (number_bytes (length r.removed)) (each number_bytes (heads r)) (counted primitive_bytes r.guards) (number_bytes r.fresh) (counted goal_bytes r.body)) read_valid valid_read

abbrev RulesOf : List ℕ → Book → Type 0
RulesOf arities b = (b.arities ≡ arities) × (((0 ≤ length b.rules) × (length b.rules ≤ 32)) × All (RuleValid arities) b.rules)

book_is : (xs : List ℕ) (b : Book) → b.arities ≡ xs → record { arities = xs; rules = b.rules } ≡ b
book_is xs b e = rw (← e) refl

pub book_codec : Codec book (λ b. counted number_bytes b.arities ++ counted rule_bytes b.rules) Valid
book_codec =
    renamed (sequence _ (λ xs b. counted rule_bytes b.rules) RulesOf (λ b. b.arities) (list_codec 1 32 (omega arith) (ranged_codec 0 4 (omega arith)))
    (λ xs v. made_of (λ rs. record { arities = xs; rules = rs }) (λ b. b.rules) (RulesOf xs) (list_codec 0 32 (omega arith) (rule_codec xs v.0.1 (few xs v.1)))
    (λ rs w. ((refl, w), refl)) (λ b w. (w.1, book_is xs b w.0)))
    (λ xs b w. w.0))
    (λ b _. refl)
    (λ b v. record { some_symbol = v.0.0.0; few_symbols = v.0.0.1; few_arguments = few b.arities v.0.1; few_rules = v.1.1.0.1; rules = v.1.1.1 })
    (λ b v. (((v.some_symbol, v.few_symbols), many b.arities v.few_arguments), (refl, ((omega arith, v.few_rules), v.rules))))
  where
    few : (xs : List ℕ) → All (λ n. (0 ≤ n) × (n ≤ 4)) xs → All (λ n. n ≤ 4) xs
    few [] v = tt
    few (a ∷ xs) v = (v.0.1, few xs v.1)

    many : (xs : List ℕ) → All (λ n. n ≤ 4) xs → All (λ n. (0 ≤ n) × (n ≤ 4)) xs
    many [] v = tt
    many (a ∷ xs) v = ((omega arith, v.0), many xs v.1)
