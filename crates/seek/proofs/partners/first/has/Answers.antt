use Rattle.std.proofs.Common.{ap, ◌∙◌}
use Rattle.std.specs.List.{list_any}
use Rattle.machine.specs.Tuples.{ids}
use Rattle.machine.proofs.Members.{answers_member}
use Rattle.seek.proofs.partners.first.has.Goals as goal

pub returns : goal.returns
returns c = answers_member c.contains.result c.args.identifier (ids c.args.tuple) (c.contains.ensures.value ∙ ap (list_any _) c.as_slice.ensures.value)
