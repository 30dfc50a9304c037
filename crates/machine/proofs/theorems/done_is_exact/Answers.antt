use Rattle.machine.proofs.theorems.done_is_exact.Goals as goal
use Rattle.machine.proofs.Done as exact

pub returns : goal.returns
returns g c = exact.done_is_exact g.T.Theory g.P.PartnerTable
