-- What the contents of a file mean. Assumes nothing.
use Rattle.std.specs.Prelude.{vec_items}
use Rattle.rules.specs.Books.{Book}
use Rattle.rules.specs.Views.{book_of}
use Rattle.rulereader.specs.declared.FileContents.{FileContents}

abbrev pub contents_book : FileContents → Book
contents_book c = book_of (vec_items c.arities) (vec_items c.rules)
