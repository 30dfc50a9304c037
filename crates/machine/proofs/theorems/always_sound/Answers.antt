use Rattle.machine.proofs.theorems.always_sound.Goals as goal
use Rattle.machine.proofs.Sound as sound

pub returns : goal.returns
returns g c = sound.always_sound g.T.Theory g.P.PartnerTable g.met.T.Theory.lawful
