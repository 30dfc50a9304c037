use Rattle.std.proofs.Common.{not, ◌||◌, vec_items, sym, ap, ◌∙◌}
use Rattle.table.specs.Lists.{is_none}
use Rattle.front.specs.Fronts.{own_records}
use Rattle.front.specs.FrontsLemmas.{some_append}
use Rattle.front.proofs.Fills.{taken_own, taken_both}
use Rattle.front.proofs.FrontTablePartnerTable.remove.Goals as goal

pub returns : goal.returns
returns g c =
    let limit = g.P.PartnerTable.limit in
    let t = c.args.self.now in
    let n = c.args.identifier in
    let xs = vec_items t.own.items in
    let mid = vec_items c.truncate.new.self.items in
    let ys = vec_items c.remove.new.self.items in
    let b = g.P.PartnerTable.records t.behind in
    let own = taken_own limit xs mid ys c.own_capacity-count.result n c.remove.result c.truncate.ensures.items c.own_capacity-count.ensures c.remove.ensures.place in
    record {
      value = ap (λ x. x || c.remove-behind.result) (c.is_some-own.ensures ∙ own)
          ∙ ap (λ x. not (is_none (own_records limit xs n)) || x) c.remove-behind.ensures.value
          ∙ sym (some_append (own_records limit xs n) (b n));
      after = taken_both limit xs mid ys b (g.P.PartnerTable.records c.remove-behind.new.self) c.own_capacity-count.result n c.remove.result c.truncate.ensures.items c.own_capacity-count.ensures c.remove.ensures.place c.remove.ensures.after c.remove-behind.ensures.after;
    }
