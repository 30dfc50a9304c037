use Rattle.std.proofs.Common.{deque_items, ap, ◌∙◌, sym, arith, ltb, length}
use Rattle.std.proofs.lemmas.List.{length-map}
use Rattle.std.proofs.lemmas.Bool.{and_parts, ltb-true}
use Rattle.machine.specs.Sheets.{goal as goal'}
use Rattle.lists.specs.declared.entry.Entry.TheVariants as entry
use Rattle.lists.specs.Entries.{entry_means, goal_means, all_storable, storable}
use Rattle.lists.specs.Queues.{queued}
use Rattle.lists.proofs.Storable.{storable_push}
use Rattle.lists.proofs.Takes.{map_push}
use Rattle.lists.proofs.waiting.Waiting.post.Goals as goal

pub invariant_of-self : goal.invariant_of-self
invariant_of-self c =
    let here = c.args.self.now in
    let both = and_parts (ltb (length (queued here)) 512) (storable (goal_means c.args.goal)) (sym c.if-not-takes.ensures) in
    let e = map_push entry_means (deque_items here.entries) (deque_items c.push_back_reserved.new.self) (entry.Goal c.args.goal) c.push_back_reserved.ensures.items in
    record {
      kept = (
        omega arith,
        omega (arith, ltb-true (length (queued here)) 512 both.0, length-map (deque_items here.entries) entry_means),
        ap all_storable e ∙ storable_push (queued here) (goal' (goal_means c.args.goal)) here.kept.2 both.1,
      );
    }
