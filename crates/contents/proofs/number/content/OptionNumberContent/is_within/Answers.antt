use Rattle.std.proofs.Common.{arith}
use Rattle.std.proofs.lemmas.Int.{ints}
use Rattle.std.proofs.lemmas.Bool.Decides.{nat_tests}
use Rattle.contents.proofs.Names.{not_all, numbers_within}
use Rattle.contents.proofs.number.content.OptionNumberContent.is_within.Goals as goal

pub returns-in-None-Some : goal.returns-in-None-Some
returns-in-None-Some c = not_all c.args.self c.args.other c.in-None-Some.field-0-1 c.in-None-Some.is-0 c.in-None-Some.is-1

pub returns-in-Some-Some : goal.returns-in-Some-Some
returns-in-Some-Some c =
    numbers_within c.args.self c.args.other c.in-Some-Some.one c.in-Some-Some.two _ c.in-Some-Some.is-0 c.in-Some-Some.is-1
    (λ e. grind (arith, ints, nat_tests))
    (λ e d. grind (arith, ints, nat_tests))
