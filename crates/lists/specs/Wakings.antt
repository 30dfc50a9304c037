-- What is found of the constraints to wake. Assumes nothing.
use Rattle.std.specs.Prelude.{◌≡◌, ℕ, ◌≤◌, Bool, true, false, List, length, take, Some, Option}
use Rattle.terms.specs.declared.Operand.{Operand}
use Rattle.terms.specs.declared.Operand.TheVariants.{Variable}
use Rattle.terms.specs.Domains.{Domain}
use Rattle.theory.specs.declared.interface.Theory as Theory
use Rattle.theory.specs.Meanings.{Meaning, Fixed}
use Rattle.table.specs.declared.partner.PartnerTable as PartnerTable
use Rattle.table.specs.Lists.{first}
use Rattle.table.specs.Records.{Record, argument_of}
use Rattle.machine.specs.Matching.{Store}
use Rattle.machine.specs.Refined.{Unfixed, AllFixed, Wakes}

module _ {d : Domain} (m : Meaning d) where
  -- yes: an argument is there, a variable that is not fixed; no: if a variable is there, it is fixed
  abbrev pub OpenSays : Bool → Option Operand → Type 0
  OpenSays true o = (x : ℕ) × (o ≡ Some (Variable x)) × (Fixed m x → ⊥)
  OpenSays false o = (x : ℕ) → o ≡ Some (Variable x) → Fixed m x

  -- yes: the constraint lives and has a variable that is not fixed; no: each variable that it has is fixed
  abbrev pub UnfixedSays : Bool → Option Record → Type 0
  UnfixedSays true r = Unfixed m r
  UnfixedSays false r = AllFixed m r

  -- all that are to be woken, how many they are, and the first 512 of them
  pub record Collected (store : Store) (n : ℕ) (items : List ℕ) : Type 0 where
    pub all : List ℕ
    pub wakes : Wakes m store all
    pub count : n ≡ length all
    pub kept : items ≡ take 512 all
    pub few : n ≤ 1_000_000

module _ {A B : Type 0} (T : Theory.Ghosts A) (P : PartnerTable.Ghosts B) where
  -- yes and no of the argument at a place of the constraint under an identifier of a table, by what a theory fixes
  abbrev pub OpenIn : A → B → Bool → ℕ → ℕ → Type 0
  OpenIn s t r i place = OpenSays (T.means s) r (argument_of (first (P.records t i)) place)

  -- yes and no of the constraint under an identifier of a table, by what a theory fixes
  abbrev pub UnfixedIn : A → B → Bool → ℕ → Type 0
  UnfixedIn s t r i = UnfixedSays (T.means s) r (first (P.records t i))

  -- so many constraints of a table are to be woken, by what a theory fixes, and the first 512 are those
  abbrev pub Found : A → B → ℕ → List ℕ → Type 0
  Found s t n items = Collected (T.means s) (λ i. first (P.records t i)) n items
