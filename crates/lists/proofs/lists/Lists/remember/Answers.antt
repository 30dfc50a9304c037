use Rattle.std.proofs.Common.{vec_items, map, refl, ap, ◌∙◌, arith}
use Rattle.machine.specs.Tuples.{firing_of}
use Rattle.lists.proofs.Takes.{pushed, not_pushed}
use Rattle.lists.proofs.lists.Lists.remember.Goals as goal

pub returns-clause-room : goal.returns-clause-room
returns-clause-room c h = record {
  waiting = refl;
  history = ap (map firing_of) c.push.ensures ∙ pushed firing_of 512 (vec_items c.args.self.now.history.items) c.args.firing h;
  posted = refl;
  next = refl;
}

pub returns-clause-crowded : goal.returns-clause-crowded
returns-clause-crowded c h = record {
  waiting = refl;
  history = ap (map firing_of) c.push.ensures ∙ not_pushed firing_of 512 (vec_items c.args.self.now.history.items) c.args.firing h (omega arith);
  posted = refl;
  next = refl;
}
