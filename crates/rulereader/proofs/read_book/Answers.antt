use Rattle.std.proofs.Common.{ℕ, ◌≤◌, length, get_or, vec_items, sym, subst}
use Rattle.rulereader.proofs.FileParts.{arities_read}
use Rattle.rulereader.proofs.read_book.Goals as goal

pub invariant_of-signature : goal.invariant_of-signature
invariant_of-signature c =
    let arities = rw (c.new.ensures.start, c.new.ensures.end) at c.in_ok-arities.ensures in
    let read = arities_read (vec_items c.in_ok-arities.arities) c.args.reader.now c.list.new.self arities in
    record {
      few = subst (λ xs. length xs ≤ 32) (sym c.deref.ensures.value) read.0;
      short = subst (λ xs. (k : ℕ) → get_or xs k 0 ≤ 4) (sym c.deref.ensures.value) read.1;
    }
