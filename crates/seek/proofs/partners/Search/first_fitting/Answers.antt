use Rattle.std.proofs.Common.{sym, subst}
use Rattle.std.specs.Option.{option_map}
use Rattle.rules.specs.Views.{rule_of}
use Rattle.rulefile.specs.Rulebooks.{rules_book}
use Rattle.machine.specs.Tuples.{ids}
use Rattle.seek.specs.Searches.{view, Begun, FirstFrom}
use Rattle.seek.proofs.Ruling.{valid_rule}
use Rattle.seek.proofs.Searching.{begun_none, searched}
use Rattle.seek.proofs.partners.Search.first_fitting.Goals as goal

pub invariant_of-attempt : goal.invariant_of-attempt
invariant_of-attempt g c = record { few = (valid_rule (rules_book c.args.self.now.rules.now) c.rule.ensures.valid c.args.number (rule_of c.in_ok-rule.rule.now) c.in_ok-rule.ensures.value).few_heads }

pub returns : goal.returns
returns g c a =
    let is = c.in_ok-rule.ensures.value.is in
    searched g.T.Theory g.P.PartnerTable (view c.args.self.now) c.args.number c.args.head c.args.active ids c.first_from.result (subst (λ z. FirstFrom g.T.Theory g.P.PartnerTable (view c.args.self.now) c.args.number c.args.head c.args.active z (option_map ids c.first_from.result)) c.new.ensures (c.first_from.ensures (subst (Begun g.T.Theory g.P.PartnerTable (view c.args.self.now) c.args.number c.args.head c.args.active (rule_of c.in_ok-rule.rule.now)) (sym c.new.ensures) (begun_none g.T.Theory g.P.PartnerTable (view c.args.self.now) c.args.number c.args.head c.args.active (rule_of c.in_ok-rule.rule.now) a is))))
