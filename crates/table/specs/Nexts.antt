-- Which identifier comes next. Assumes nothing.
use Rattle.std.specs.Prelude.{◌≡◌, ℕ, ◌<◌, Bool, true, false, cond, ◌&&◌, ◌||◌, List, [], ◌∷◌, ℤ, Some, None, Option, ◌==◌, int_le, nat_le}
use Rattle.terms.specs.declared.Operand.{Operand}
use Rattle.terms.specs.declared.Operand.TheVariants.{Value, Variable}
use Rattle.table.specs.Records.{Record}
use Rattle.table.specs.Tables.{Table}

-- the symbol is the one asked for; none asked for restricts nothing
abbrev pub has_symbol : Option ℕ → ℕ → Bool
has_symbol None s = true
has_symbol (Some t) s = t == s

-- the key, which is the first argument, is the value, or the record is open: a variable or nothing stands there
abbrev pub key_is : ℤ → List Operand → Bool
key_is v [] = true
key_is v (Value w ∷ xs) = int_le v w && int_le w v
key_is v (Variable x ∷ xs) = true

-- the key is the one asked for; none asked for restricts nothing
abbrev pub has_key : Option ℤ → List Operand → Bool
has_key None xs = true
has_key (Some v) xs = key_is v xs

-- the record answers to the symbol and the key
abbrev pub answers : Option ℕ → Option ℤ → Record → Bool
answers s k r = has_symbol s r.symbol && has_key k r.arguments

-- one of the records does
abbrev pub any_answers : Option ℕ → Option ℤ → List Record → Bool
any_answers s k [] = false
any_answers s k (r ∷ rs) = answers s k r || any_answers s k rs

-- the least number above `low` that passes the test, or none where none does
abbrev pub Least : (ℕ → Bool) → ℕ → Option ℕ → Type 0
Least p low None = (i : ℕ) → low < i → p i ≡ false
Least p low (Some n) = (low < n) × (p n ≡ true) × ((i : ℕ) → low < i → i < n → p i ≡ false)

-- the least identifier above `low` that has a record that answers to the symbol and the key, or none
abbrev pub NextOf : Table → Option ℕ → Option ℤ → ℕ → Option ℕ → Type 0
NextOf t s k low = Least (λ i. any_answers s k (t i)) low

-- the lower of two numbers, each of which may be absent
abbrev pub lower : Option ℕ → Option ℕ → Option ℕ
lower None o = o
lower (Some m) None = Some m
lower (Some m) (Some n) = cond (nat_le m n) (Some m) (Some n)
