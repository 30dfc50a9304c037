use Rattle.std.proofs.Common.{sym, inl, arith}
use Rattle.rulereader.specs.Contents.{contents_book}
use Rattle.rulereader.proofs.FileParts.{file_over}
use Rattle.rulereader.proofs.read_file.Goals as goal

pub returns-in-Some : goal.returns-in-Some
returns-in-Some c =
    let left = c.in-Some.ensures in
    inl (file_over c.args.bytes.now (contents_book c.in_ok-contents.contents) c.after_mark-reader.result c.read_book.new.reader c.in-Some.place
    (omega (arith, c.if-bytes-gt-LONGEST.false)) (sym c.if-not-is_marked.ensures) c.after_mark-reader.ensures.place c.after_mark-reader.ensures.bytes c.in_ok-contents.ensures left.0 left.1)
