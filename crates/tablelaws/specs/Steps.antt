-- What a step of a visit gives and leaves. Assumes nothing.
use Rattle.std.specs.Prelude.{◌≡◌, ℕ, ◌-◌, ℤ, Some, None, Option}
use Rattle.table.specs.declared.partner.PartnerTable as PartnerTable
use Rattle.table.specs.Nexts.{NextOf}

-- how many identifiers are left above a number
abbrev pub left : ℕ → ℕ
left low = 1_000_001 - low

-- the identifier that is reached, where one is
abbrev pub reached : ℕ → Option ℕ → ℕ
reached low None = low
reached low (Some i) = i

module _ {B : Type 0} (P : PartnerTable.Ghosts B) where
  -- the step gives the next identifier that answers; the table, the symbol and the key stay, and what is given is reached
  pub record StepsOn (t : B) (s : Option ℕ) (k : Option ℤ) (low : ℕ) (r : Option ℕ) (t' : B) (s' : Option ℕ) (k' : Option ℤ) (low' : ℕ) : Type 0 where
    pub next : NextOf (P.records t) s k low r
    pub table : t' ≡ t
    pub symbol : s' ≡ s
    pub key : k' ≡ k
    pub above : low' ≡ reached low r
