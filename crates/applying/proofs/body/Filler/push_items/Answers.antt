use Rattle.std.proofs.Common.{◌≡◌, ◌+◌, ◌<◌, ◌++◌, ◌∷◌, [], map, length, refl, sym, ap, ◌∙◌, subst, append-nil, arith, length-append}
use Rattle.std.proofs.lemmas.List.{length-map, map-append}
use Rattle.terms.specs.Lists.{All}
use Rattle.rules.specs.Valids.{GoalValid}
use Rattle.rules.specs.Views.{goal_of}
use Rattle.lists.specs.Entries.{goal_means}
use Rattle.lists.specs.Views.{Waits, waiting_of}
use Rattle.machine.proofs.Backwards.{one_back, all_back}
use Rattle.machine.proofs.Members.{all_parts}
use Rattle.applying.specs.Fillers.{operand_at, argument_counts}
use Rattle.applying.proofs.Pushing.{topped, pushed_more}
use Rattle.applying.proofs.Storing.{item_storable}
use Rattle.applying.proofs.body.Filler.push_items.Goals as goal

pub loop-item-init : goal.loop-item-init
loop-item-init g c = ([], (let e = append-nil c.into_iter-item-iterator.result.iter.rest.now in cc), λ n h. record { waiting = refl; history = refl; posted = refl; next = refl })

pub loop-item-preserved : goal.loop-item-preserved
loop-item-preserved g c =
    let P = g.P.PartnerTable in
    let f = c.args.self.now in
    let i = c.loop-item.invariant in
    let x = c.in-Some.item.now in
    let before = c.next.new.self.iter.rest.now in
    let e : c.args.items.now ≡ before ++ (x ∷ i.0) = one_back before i.0 x i.1 c.in-Some.ensures.steps in (
      x ∷ i.0,
      e,
      λ n h.
          let gs = map goal_of i.0 in
          let v = (all_parts (GoalValid (argument_counts f) n) (map goal_of before) (goal_of x ∷ gs) (subst (λ z. All (GoalValid (argument_counts f) n) z) (ap (map goal_of) e ∙ map-append goal_of before (x ∷ i.0)) h.valid)).1 in
          let room : length gs + length (waiting_of c.args.lists.now) < 512 = omega (arith, h.room, length-map i.0 goal_of, length-map c.args.items.now goal_of, ap length e, length-append before (x ∷ i.0)) in
          pushed_more (operand_at P f) (waiting_of c.args.lists.now) c.args.lists.now c.loop-item.lists c.push.new.self gs (goal_of x) (goal_means c.fill_item.result) (c.fill_item.ensures n h.numbered v.0) (item_storable P g.met.P.PartnerTable.fits f n (goal_of x) v.0) room (i.2 n h) c.push.ensures.after,
    )

pub returns : goal.returns
returns g c n h =
    let i = c.loop-item.invariant in
    subst (λ z. Waits c.args.lists.now c.loop-item.lists (topped (operand_at g.P.PartnerTable c.args.self.now) (waiting_of c.args.lists.now) (map goal_of z))) (sym (all_back c.loop-item.item-iterator.iter.rest.now i.1 c.in-None.ensures.steps.0)) (i.2 n h)
