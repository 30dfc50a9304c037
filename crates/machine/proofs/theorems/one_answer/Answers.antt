use Rattle.machine.proofs.theorems.one_answer.Goals as goal
use Rattle.machine.proofs.Calling as calling

pub returns : goal.returns
returns g c = calling.one_answer g.T.Theory g.P.PartnerTable
