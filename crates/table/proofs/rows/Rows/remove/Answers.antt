use Rattle.std.proofs.Common.{◌≡◌, [], Some, vec_items, sym, refl, ap, ◌∙◌, subst, arith}
use Rattle.table.specs.Rows.{look, lawful, Position, TakenOut}
use Rattle.table.specs.Looks.{lawful_removed}
use Rattle.table.proofs.Positions.{blank, taken_look}
use Rattle.table.specs.TablesLemmas.{without_none}
use Rattle.table.proofs.rows.Rows.remove.Goals as goal

pub invariant_of-self : goal.invariant_of-self
invariant_of-self c =
    let rows = c.args.self.now in
    let at = subst (λ xs. Position xs c.args.identifier (Some c.in_ok-place.place)) c.as_slice.ensures c.in_ok-place.ensures in
    record {
      ok = (
        ap lawful c.remove.ensures.items ∙ lawful_removed (vec_items rows.items) c.in_ok-place.place blank at.0 rows.ok.0,
        omega (arith, c.remove.ensures.len, rows.ok),
        omega (arith, c.remove.ensures.capacity, rows.ok),
      );
    }

pub returns-in_err-place : goal.returns-in_err-place
returns-in_err-place c =
    let rows = c.args.self.now in
    let none : look (vec_items rows.items) c.args.identifier ≡ [] = ap (λ xs. look xs c.args.identifier) (sym c.as_slice.ensures) ∙ c.in_err-place.ensures in
    record {
      place = subst (TakenOut (vec_items rows.items) (vec_items rows.items) c.args.identifier) (sym c.from_residual.ensures) (none, refl);
      after = sym (without_none (look (vec_items rows.items)) c.args.identifier none);
      limit = refl;
    }

pub returns : goal.returns
returns c =
    let rows = c.args.self.now in
    let at = subst (λ xs. Position xs c.args.identifier (Some c.in_ok-place.place)) c.as_slice.ensures c.in_ok-place.ensures in
    record {
      place = (at.0, λ d. (at.1 d).0, c.remove.ensures.items);
      after = taken_look (vec_items rows.items) _ c.in_ok-place.place c.args.identifier blank c.remove.ensures.items at.0 rows.ok.0 (at.1 blank).0;
      limit = refl;
    }
