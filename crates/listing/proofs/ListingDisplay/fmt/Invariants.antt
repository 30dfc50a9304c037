use Rattle.std.proofs.Common.{map, take}
use Rattle.std.specs.Fmt.{IsPlainFormatter, HasWritten}
use Rattle.rules.specs.Views.{rule_of}
use Rattle.listing.specs.Listings.{rules_text}
use Rattle.listing.proofs.ListingDisplay.fmt.Given as goal

abbrev pub invariant-loop-k : goal.invariant-loop-k
invariant-loop-k g l = IsPlainFormatter l.initial.f → HasWritten g.W.Write.write_str_gives l.initial.f (rules_text l.signature.arities.now 1 (map rule_of (take l.k l.rule-items))) l.f
