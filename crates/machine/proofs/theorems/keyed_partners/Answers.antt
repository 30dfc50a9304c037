use Rattle.machine.proofs.theorems.keyed_partners.Goals as goal
use Rattle.machine.proofs.Keys as keys

pub returns : goal.returns
returns g c = keys.keyed_partners g.T.Theory g.P.PartnerTable
