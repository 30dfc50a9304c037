use Rattle.std.proofs.Common.{length, ap}
use Rattle.rules.proofs.FileLaw.{typed_bytes, accepted_exactly}
use Rattle.rulereader.specs.Contents.{contents_book}
use Rattle.rulefile.proofs.load.Goals as goal

pub returns-in_err-contents-clause-law : goal.returns-in_err-contents-clause-law
returns-in_err-contents-clause-law c = accepted_exactly c.args.bytes.now (typed_bytes _ c.type_inv.bytes)

pub new-requires : goal.new-requires
new-requires c =
    let law = ((accepted_exactly c.args.bytes.now (typed_bytes _ c.type_inv.bytes)).exactly (contents_book c.in_ok-contents.contents)).0 c.in_ok-contents.ensures in
    record { valid = law.0; sized = ap length law.2 }

pub returns-clause-law : goal.returns-clause-law
returns-clause-law c = accepted_exactly c.args.bytes.now (typed_bytes _ c.type_inv.bytes)
