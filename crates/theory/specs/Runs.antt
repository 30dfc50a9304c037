-- Primitives told one after another. Assumes nothing.
use Rattle.std.specs.Prelude.{◌≡◌, ◌↔◌, List}
use Rattle.std.specs.List.{All, Contains}
use Rattle.terms.specs.declared.Operand.{Operand}
use Rattle.terms.specs.declared.Primitive.{Primitive}
use Rattle.terms.specs.Domains.{Domain, Valuation, TrueIn}
use Rattle.theory.specs.Meanings.{Meaning, KnownAll, SameMeaning}

-- the same primitives, in whatever order and however often
abbrev pub SamePrimitives : List (Primitive Operand) → List (Primitive Operand) → Type 0
SamePrimitives ps qs = (p : Primitive Operand) → Contains ps p ↔ Contains qs p

module _ {d : Domain} where
  -- after all of ps were told: what was admitted and makes each known one true
  abbrev pub ToldAll : Meaning d → List (Primitive Operand) → Meaning d → Type 0
  ToldAll m ps n = (n.made ≡ m.made) × ((v : Valuation d) → n.admits v ↔ (m.admits v × All (λ p. KnownAll m.made p → TrueIn d v p) ps))

  -- where m and k mean the same, and m became n by ps and k became l by qs, the same primitives: n and l mean the same
  abbrev pub SameInAnyOrder : Meaning d → List (Primitive Operand) → Meaning d → Meaning d → List (Primitive Operand) → Meaning d → Type 0
  SameInAnyOrder m ps n k qs l = SameMeaning m k → SamePrimitives ps qs → SameMeaning n l
