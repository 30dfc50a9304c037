-- Which parts can be written: their values are values, and their lists are short. Assumes nothing.
use Rattle.std.specs.Prelude.{◌≤◌, vec_items, vec_len}
use Rattle.terms.specs.declared.Primitive.{Primitive}
use Rattle.terms.specs.declared.Term.{Term}
use Rattle.terms.specs.declared.Term.TheVariants.{Value, Slot}
use Rattle.terms.specs.Lists.{All}
use Rattle.terms.specs.Primitives.{EachPart}
use Rattle.terms.specs.Values.{IsValue}
use Rattle.rules.specs.declared.Item.{Item}
use Rattle.rules.specs.declared.Item.TheVariants.{Tell, Add}
use Rattle.rules.specs.declared.Rule as code

abbrev pub TermFits : Term → Type 0
TermFits (Value v) = IsValue v
TermFits (Slot k) = Unit {0}

abbrev pub PrimitiveFits : Primitive Term → Type 0
PrimitiveFits p = EachPart TermFits IsValue p

abbrev pub ItemFits : Item → Type 0
ItemFits (Tell p) = PrimitiveFits p
ItemFits (Add symbol arguments) = All TermFits (vec_items arguments)

pub record RuleFits (r : code.Rule) : Type 0 where
  pub few_heads : vec_len r.heads ≤ 32
  pub few_guards : vec_len r.guards ≤ 32
  pub guards_fit : All PrimitiveFits (vec_items r.guards)
  pub few_items : vec_len r.body ≤ 32
  pub items_fit : All ItemFits (vec_items r.body)
