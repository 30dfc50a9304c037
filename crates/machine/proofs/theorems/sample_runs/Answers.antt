use Rattle.machine.proofs.theorems.sample_runs.Goals as goal
use Rattle.machine.proofs.Samples as samples

pub returns : goal.returns
returns g c = samples.sample_runs g.T.Theory g.P.PartnerTable
