use Rattle.theory.proofs.Telling.{same_in_any_order}
use Rattle.theory.proofs.uses.tell_in_two_orders.Goals as goal

pub returns-clause-alike : goal.returns-clause-alike
returns-clause-alike g c =
    same_in_any_order (g.T.Theory.means c.args.one.now) (g.T.Theory.means c.tell_all.new.theory) (g.T.Theory.means c.args.other.now)
    (g.T.Theory.means c.tell_all-2.new.theory) c.args.ps.now c.args.qs.now c.tell_all.ensures c.tell_all-2.ensures
