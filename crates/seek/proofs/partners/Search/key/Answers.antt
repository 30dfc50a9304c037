use Rattle.std.proofs.Common.{length, ap, ◌∙◌, arith}
use Rattle.rules.specs.Views.{rule_of}
use Rattle.rulefile.specs.Rulebooks.{rules_book}
use Rattle.machine.specs.Tuples.{ids}
use Rattle.seek.specs.Fillings.{filler_at}
use Rattle.seek.specs.Slots.{store_in}
use Rattle.seek.proofs.Keying.{key_over}
use Rattle.seek.proofs.Occurring.{heads_are}
use Rattle.seek.proofs.partners.Search.key.Goals as goal

pub key-requires : goal.key-requires
key-requires g c = record { few = omega (arith, ap length (c.as_slice.ensures.value ∙ heads_are c.args.attempt.rule.now), c.args.attempt.few); left = omega (arith, ap length c.as_slice.ensures.value, c.requires) }

pub returns : goal.returns
returns g c = c.key.ensures ∙ key_over (rules_book c.args.self.now.rules.now).arities (store_in g.P.PartnerTable c.args.self.now.table.now) (filler_at (ids c.args.tuple) c.args.attempt.head c.args.attempt.active) (length (ids c.args.tuple)) c.as_slice.result.now c.deref.result.now (rule_of c.args.attempt.rule.now) (c.as_slice.ensures.value ∙ heads_are c.args.attempt.rule.now) c.deref.ensures.value
