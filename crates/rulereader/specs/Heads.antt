-- The heads of a rule, as they are read. Assumes nothing.
use Rattle.std.specs.Prelude.{ℕ, ◌+◌, List, length, vec_items, Vec}
use Rattle.std.specs.declared.alloc.Global.{Global}
use Rattle.rules.specs.Parse.{Parser, got, after, index, many, head_counts}

-- how many are kept, and the symbols of all
abbrev pub rule_heads : List ℕ → Parser (ℕ × List ℕ)
rule_heads arities k s = after (head_counts k s) (λ c k₁ s₁. after (many (c.0 + c.1) (index (length arities)) k₁ s₁) (λ hs. got (c.0, hs)))

abbrev pub heads_view : ℕ × Vec ℕ Global → ℕ × List ℕ
heads_view p = (p.0, vec_items p.1)
