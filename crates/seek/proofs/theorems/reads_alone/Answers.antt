use Rattle.seek.proofs.theorems.reads_alone.Goals as goal
use Rattle.seek.proofs.Transfers.{reads_alone}

pub returns : goal.returns
returns g c = reads_alone g.T.Theory g.P.PartnerTable
