-- How a rule file is read, with the first refusal and its place: a parser goes from a place and the bytes there to what it got. Assumes nothing.
use Rattle.std.specs.Prelude.{ℕ, zero, suc, ◌+◌, ◌-◌, ◌*◌, cond, List, [], ◌∷◌, length, take, drop, ℤ, ◌==◌, nat_lt, slice_index}
use Rattle.terms.specs.declared.Primitive.{Primitive}
use Rattle.terms.specs.declared.Primitive.TheVariants.{Same, Least, Most}
use Rattle.terms.specs.declared.Term.{Term}
use Rattle.terms.specs.declared.Term.TheVariants.{Value, Slot}
use Rattle.rules.specs.Books.{Goal, tell, add, Rule, Book, slot_count}
use Rattle.rules.specs.Codes.{value_of}
use Rattle.rules.specs.declared.LoadRefusal.{LoadRefusal}
use Rattle.rules.specs.declared.LoadRefusal.TheVariants.{Ended, Malformed, OutOfRange, Absent}

-- what was got, with the place and the bytes after it; or the refusal
pub data Outcome (A : Type 0) : Type 0 where
  got : A → ℕ → List ℕ → Outcome A
  refused : LoadRefusal → Outcome A

abbrev pub Parser : Type 0 → Type 0
Parser A = ℕ → List ℕ → Outcome A

-- one parser after another
abbrev pub after : {A B : Type 0} → Outcome A → (A → Parser B) → Outcome B
after (got a k s) f = f a k s
after (refused e) f = refused e

abbrev pub byte : Parser ℕ
byte k [] = refused (Ended k)
byte k (b ∷ s) = got b (k + 1) s

-- the last of three bytes of the number that begins at k, after a and b
abbrev pub third_byte : ℕ → ℕ → ℕ → Parser ℕ
third_byte k a b k₂ s₂ = after (byte k₂ s₂) (λ c k₃ s₃.
    cond (c == 0) (refused (Malformed k))
    (cond (nat_lt c 128) (got (a - 128 + 128 * (b - 128) + 16_384 * c) k₃ s₃) (refused (Malformed k))))

-- the second byte of the number that begins at k, after a
abbrev pub second_byte : ℕ → ℕ → Parser ℕ
second_byte k a k₁ s₁ = after (byte k₁ s₁) (λ b k₂ s₂.
    cond (b == 0) (refused (Malformed k))
    (cond (nat_lt b 128) (got (a - 128 + 128 * b) k₂ s₂) (third_byte k a b k₂ s₂)))

-- a number: one to three bytes of seven bits each, lowest first, with the top bit set on all but the last; a last byte after others is not 0
abbrev pub number : Parser ℕ
number k s = after (byte k s) (λ a k₁ s₁. cond (nat_lt a 128) (got a k₁ s₁) (second_byte k a k₁ s₁))

-- a count, a kind or a value's code, from low to high
abbrev pub ranged : ℕ → ℕ → Parser ℕ
ranged low high k s = after (number k s) (λ n k₁ s₁. cond (nat_lt n low) (refused (OutOfRange k)) (cond (nat_lt high n) (refused (OutOfRange k)) (got n k₁ s₁)))

-- a symbol or a slot, one of count
abbrev pub index : ℕ → Parser ℕ
index count k s = after (number k s) (λ n k₁ s₁. cond (nat_lt n count) (got n k₁ s₁) (refused (Absent k)))

-- codes of values go up to 2,000,000
abbrev pub value : Parser ℤ
value k s = after (ranged 0 2_000_000 k s) (λ n. got (value_of n))

abbrev pub term : ℕ → Parser Term
term slots k s = after (ranged 0 1 k s) (λ kind k₁ s₁. cond (kind == 0)
    (after (value k₁ s₁) (λ v. got (Value v)))
    (after (index slots k₁ s₁) (λ n. got (Slot n))))

-- a primitive, whose kind is read already
abbrev pub primitive : ℕ → ℕ → Parser (Primitive Term)
primitive slots kind k s = after (term slots k s) (λ a k₁ s₁. cond (kind == 0)
    (after (term slots k₁ s₁) (λ b. got (Same a b)))
    (after (value k₁ s₁) (λ n. got (cond (kind == 1) (Least a n) (Most a n)))))

abbrev pub guard : ℕ → Parser (Primitive Term)
guard slots k s = after (ranged 0 2 k s) (λ kind. primitive slots kind)

-- n parts, one after another
abbrev pub many : {A : Type 0} → ℕ → Parser A → Parser (List A)
many zero p k s = got [] k s
many (suc n) p k s = after (p k s) (λ a k₁ s₁. after (many n p k₁ s₁) (λ xs. got (a ∷ xs)))

-- a count from low to high, and so many parts
abbrev pub list : {A : Type 0} → ℕ → ℕ → Parser A → Parser (List A)
list low high p k s = after (ranged low high k s) (λ n. many n p)

-- a new constraint: a symbol, and as many arguments as it takes
abbrev pub addition : List ℕ → ℕ → Parser (Goal Term)
addition arities slots k s = after (index (length arities) k s) (λ c k₁ s₁. after (many (slice_index arities c) (term slots) k₁ s₁) (λ ts. got (add c ts)))

abbrev pub goal : List ℕ → ℕ → Parser (Goal Term)
goal arities slots k s = after (ranged 0 3 k s) (λ kind k₁ s₁. cond (kind == 3) (addition arities slots k₁ s₁) (after (primitive slots kind k₁ s₁) (λ p. got (tell p))))

-- the kept and the removed count, of which the second answers for a sum outside 1 to 3
abbrev pub head_counts : Parser (ℕ × ℕ)
head_counts k s = after (number k s) (λ kept k₁ s₁. after (number k₁ s₁) (λ removed k₂ s₂.
    cond (nat_lt (kept + removed) 1) (refused (OutOfRange k₁)) (cond (nat_lt 3 (kept + removed)) (refused (OutOfRange k₁)) (got (kept, removed) k₂ s₂))))

-- what follows a rule's heads, of which the first kept are kept
abbrev pub rule_rest : List ℕ → ℕ → List ℕ → Parser Rule
rule_rest arities kept hs k s =
    after (list 0 4 (guard (slot_count arities hs)) k s) (λ gs k₁ s₁.
    after (ranged 0 4 k₁ s₁) (λ fresh k₂ s₂.
    after (list 0 6 (goal arities (slot_count arities hs + fresh)) k₂ s₂) (λ body.
    got (record { kept = take kept hs; removed = drop kept hs; guards = gs; fresh = fresh; body = body }))))

abbrev pub rule : List ℕ → Parser Rule
rule arities k s = after (head_counts k s) (λ c k₁ s₁. after (many (c.0 + c.1) (index (length arities)) k₁ s₁) (λ hs. rule_rest arities c.0 hs))

-- all that follows the four bytes at the start
abbrev pub book : Parser Book
book k s = after (list 1 32 (ranged 0 4) k s) (λ arities k₁ s₁. after (list 0 32 (rule arities) k₁ s₁) (λ rules. got (record { arities = arities; rules = rules })))
