-- The source text of a rule and of its parts. Assumes nothing.
use Rattle.std.specs.Prelude.{ℕ, zero, suc, ◌+◌, cond, List, [], ◌∷◌, ◌++◌, map, codes, decimal, ◌==◌, slice_index}
use Rattle.std.specs.Fmt.{signed_decimal}
use Rattle.terms.specs.declared.Primitive.{Primitive}
use Rattle.terms.specs.declared.Primitive.TheVariants.{Same, Least, Most}
use Rattle.terms.specs.declared.Term.{Term}
use Rattle.terms.specs.declared.Term.TheVariants.{Value, Slot}
use Rattle.rules.specs.Books.{Goal, tell, add, Rule, slot_count}

-- texts with a comma and a space between each two
abbrev pub separated : List (List ℕ) → List ℕ
separated [] = []
separated (x ∷ []) = x
separated (x ∷ (y ∷ ys)) = x ++ codes ", " ++ separated (y ∷ ys)

-- what stands before the part k of such texts
abbrev pub comma_before : ℕ → List ℕ
comma_before k = cond (k == 0) [] (codes ", ")

-- a value in decimal; slot k is Xk
abbrev pub term_text : Term → List ℕ
term_text (Value v) = signed_decimal v
term_text (Slot k) = codes "X" ++ decimal k

-- two terms with a sign between them
abbrev pub both_text : List ℕ → Term → Term → List ℕ
both_text sign a b = term_text a ++ sign ++ term_text b

-- a primitive, with the sign that says that two terms are the same
abbrev pub primitive_text : List ℕ → Primitive Term → List ℕ
primitive_text same (Same a b) = both_text same a b
primitive_text same (Least a n) = both_text (codes " >= ") a (Value n)
primitive_text same (Most a n) = both_text (codes " =< ") a (Value n)

-- a guard asks
abbrev pub guard_text : Primitive Term → List ℕ
guard_text p = primitive_text (codes " == ") p

-- a body tells
abbrev pub told_text : Primitive Term → List ℕ
told_text p = primitive_text (codes " = ") p

-- arguments stand in parentheses, where there are any
abbrev pub arguments_text : List Term → List ℕ
arguments_text [] = []
arguments_text (t ∷ ts) = codes "(" ++ separated (map term_text (t ∷ ts)) ++ codes ")"

-- symbol k is ck
abbrev pub constraint_text : ℕ → List Term → List ℕ
constraint_text c ts = codes "c" ++ decimal c ++ arguments_text ts

abbrev pub goal_text : Goal Term → List ℕ
goal_text (tell p) = told_text p
goal_text (add c ts) = constraint_text c ts

-- n slots from k on
abbrev pub slots_from : ℕ → ℕ → List Term
slots_from k zero = []
slots_from k (suc n) = Slot k ∷ slots_from (k + 1) n

-- the texts of heads whose slots are numbered from k on
abbrev pub head_texts : List ℕ → ℕ → List ℕ → List (List ℕ)
head_texts arities k [] = []
head_texts arities k (c ∷ cs) = constraint_text c (slots_from k (slice_index arities c)) ∷ head_texts arities (k + slice_index arities c) cs

abbrev pub heads_text : List ℕ → ℕ → List ℕ → List ℕ
heads_text arities k cs = separated (head_texts arities k cs)

-- kept heads alone, removed heads alone, or both
abbrev pub sides_text : List ℕ → List ℕ → List ℕ → List ℕ
sides_text arities kept [] = heads_text arities 0 kept ++ codes " ==> "
sides_text arities [] (c ∷ cs) = heads_text arities 0 (c ∷ cs) ++ codes " <=> "
sides_text arities (k ∷ ks) (c ∷ cs) = heads_text arities 0 (k ∷ ks) ++ codes " \\ " ++ heads_text arities (slot_count arities (k ∷ ks)) (c ∷ cs) ++ codes " <=> "

-- guards stand before a bar, where there are any
abbrev pub guards_text : List (Primitive Term) → List ℕ
guards_text [] = []
guards_text (g ∷ gs) = separated (map guard_text (g ∷ gs)) ++ codes " | "

abbrev pub body_text : List (Goal Term) → List ℕ
body_text [] = codes "true"
body_text (g ∷ gs) = separated (map goal_text (g ∷ gs))

-- rule number n
abbrev pub rule_text : List ℕ → ℕ → Rule → List ℕ
rule_text arities n r = codes "r" ++ decimal n ++ codes " @ " ++ sides_text arities r.kept r.removed ++ guards_text r.guards ++ body_text r.body ++ codes ".\n"
