use Rattle.std.proofs.Common.{◌≡◌, List, length, vec_items, vec_len, sym, refl, ◌∙◌, subst, arith}
use Rattle.classes.specs.declared.row.ClassRow.{ClassRow}
use Rattle.classes.specs.Rows.{Rooted}
use Rattle.classes.proofs.Stores.{pushed_rooted, grown}
use Rattle.classes.proofs.forest.Forest.make.Goals as goal

pub invariant_of-self : goal.invariant_of-self
invariant_of-self g c =
    let rows = c.args.self.now.rows in
    let R : List (ClassRow g.row.C.Denot) → Type 0 = λ l. Rooted l in
    let len : length (vec_items rows) ≡ vec_len rows = sym rows.ok.0 in
    record {
      ok = subst R (sym {A = List (ClassRow g.row.C.Denot)} c.push_reserved.ensures.items)
          (pushed_rooted g.C.Content.holds (vec_items rows) _ (c.len-count.ensures ∙ sym len) refl (omega arith) c.args.self.now.ok);
      roomy = let room = c.args.self.now.roomy in omega arith;
    }

pub returns : goal.returns
returns g c =
    let rows = c.args.self.now.rows in
    let len : length (vec_items rows) ≡ vec_len rows = sym rows.ok.0 in
    grown g.C.Content.holds c.args.self.now _ c.len-count.result _ c.len-count.ensures
    (omega arith) len c.len-count.ensures refl c.all.ensures c.push_reserved.ensures.items c.push_reserved.ensures.len refl
