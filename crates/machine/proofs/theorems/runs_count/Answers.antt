use Rattle.machine.proofs.theorems.runs_count.Goals as goal
use Rattle.machine.proofs.Counting as counting

pub returns : goal.returns
returns g c = counting.runs_count g.T.Theory g.P.PartnerTable
