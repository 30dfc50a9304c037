use Rattle.std.proofs.Common.{◌≡◌, ◌+◌, map, length, sym, ap, ◌∙◌, subst, arith}
use Rattle.terms.specs.Lists.{All}
use Rattle.rules.specs.Books.{heads, slot_count}
use Rattle.rules.specs.Valids.{GoalValid}
use Rattle.rules.specs.Views.{goal_of, rule_of}
use Rattle.rulefile.specs.Rulebooks.{rules_book}
use Rattle.machine.specs.Tuples.{ids}
use Rattle.seek.specs.Slots.{store_in}
use Rattle.seek.proofs.Occurring.{heads_are}
use Rattle.applying.proofs.Pushing.{body_pushed}
use Rattle.applying.proofs.body.pushing.push_body.Goals as goal

pub returns : goal.returns
returns g c fits =
    let arities = (rules_book c.args.rules.now).arities in
    let r = rule_of c.args.rule.now in
    let hs = c.as_slice.result.now in
    let items = c.deref.result.now in
    let e : hs ≡ heads r = c.as_slice.ensures.value ∙ heads_are c.args.rule.now in
    let q : map goal_of items ≡ r.body = ap (map goal_of) c.deref.ensures.value in
    body_pushed arities (store_in g.P.PartnerTable c.args.table.now) r (ids c.args.tuple) c.args.made hs (map goal_of items) c.args.lists.now c.push_items.new.lists e q
    (c.push_items.ensures (slot_count arities (heads r) + r.fresh)
    (record {
      numbered = record { few_heads = omega (arith, ap length e, fits.valid.few_heads); small = omega (arith, ap (slot_count arities) e, fits.numbered) };
      valid = subst (All (GoalValid arities (slot_count arities (heads r) + r.fresh))) (sym q) fits.valid.body;
      room = omega (arith, fits.room, ap length q);
    }))
