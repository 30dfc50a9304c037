use Rattle.std.proofs.Common.{◌≡◌, ◌++◌, map, take, drop}
use Rattle.chain.specs.Chains.{relinked}
use Rattle.chain.proofs.relink.Given as goal

abbrev pub invariant-loop-link : goal.invariant-loop-link
invariant-loop-link l = l.links ≡ map (relinked l.place l.rest) (take l.link-index l.initial.links) ++ drop l.link-index l.initial.links
