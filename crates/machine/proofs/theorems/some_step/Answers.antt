use Rattle.machine.proofs.theorems.some_step.Goals as goal
use Rattle.machine.proofs.Total as total

pub returns : goal.returns
returns g c = total.some_step g.T.Theory g.P.PartnerTable g.met.P.PartnerTable.fits
