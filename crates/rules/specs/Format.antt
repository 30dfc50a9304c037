-- The bytes of a rule file. Assumes nothing.
use Rattle.std.specs.Prelude.{ℕ, ◌+◌, ◌/◌, ◌%◌, ◌<◌, cond, List, [], ◌∷◌, ◌++◌, length, ℤ, nat_lt}
use Rattle.terms.specs.declared.Primitive.{Primitive}
use Rattle.terms.specs.declared.Primitive.TheVariants.{Same, Least, Most}
use Rattle.terms.specs.declared.Term.{Term}
use Rattle.terms.specs.declared.Term.TheVariants.{Value, Slot}
use Rattle.terms.specs.Lists.{All}
use Rattle.rules.specs.Books.{Goal, tell, add, Rule, Book, heads}
use Rattle.rules.specs.Codes.{code_of}

-- each is a byte
abbrev pub Bytes : List ℕ → Type 0
Bytes s = All (λ b. b < 256) s

-- a number: one to three bytes of seven bits each, lowest first, with the top bit set on all but the last
abbrev pub number_bytes : ℕ → List ℕ
number_bytes n =
    cond (nat_lt n 128) (n ∷ [])
    (cond (nat_lt n 16_384) ((n % 128 + 128) ∷ (n / 128) ∷ [])
    ((n % 128 + 128) ∷ (n / 128 % 128 + 128) ∷ (n / 16_384) ∷ []))

-- a value: its code
abbrev pub value_bytes : ℤ → List ℕ
value_bytes v = number_bytes (code_of v)

-- an operand: kind 0 and a value, or kind 1 and a slot
abbrev pub term_bytes : Term → List ℕ
term_bytes (Value v) = number_bytes 0 ++ value_bytes v
term_bytes (Slot k) = number_bytes 1 ++ number_bytes k

-- a primitive: its kind, 0 same, 1 least or 2 most, and its two parts
abbrev pub primitive_bytes : Primitive Term → List ℕ
primitive_bytes (Same a b) = number_bytes 0 ++ term_bytes a ++ term_bytes b
primitive_bytes (Least a n) = number_bytes 1 ++ term_bytes a ++ value_bytes n
primitive_bytes (Most a n) = number_bytes 2 ++ term_bytes a ++ value_bytes n

-- parts in a row
abbrev pub each : {A : Type 0} → (A → List ℕ) → List A → List ℕ
each f [] = []
each f (x ∷ xs) = f x ++ each f xs

-- how many, and then each
abbrev pub counted : {A : Type 0} → (A → List ℕ) → List A → List ℕ
counted f xs = number_bytes (length xs) ++ each f xs

-- a body item: a primitive, or kind 3, a symbol and its arguments
abbrev pub goal_bytes : Goal Term → List ℕ
goal_bytes (tell p) = primitive_bytes p
goal_bytes (add c ts) = number_bytes 3 ++ number_bytes c ++ each term_bytes ts

-- the heads of a rule: how many are kept and how many removed, and their symbols
abbrev pub heads_bytes : Rule → List ℕ
heads_bytes r = number_bytes (length r.kept) ++ number_bytes (length r.removed) ++ each number_bytes (heads r)

-- a rule: its heads, the guards, the number of fresh variables, the body
abbrev pub rule_bytes : Rule → List ℕ
rule_bytes r = heads_bytes r ++ counted primitive_bytes r.guards ++ number_bytes r.fresh ++ counted goal_bytes r.body

-- the four bytes that a file starts with
abbrev pub mark : List ℕ
mark = 67 ∷ 72 ∷ 82 ∷ 49 ∷ []

-- a file: the four bytes, the argument counts of the symbols, the rules
abbrev pub file_bytes : Book → List ℕ
file_bytes b = mark ++ counted number_bytes b.arities ++ counted rule_bytes b.rules
