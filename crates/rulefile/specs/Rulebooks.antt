-- What loaded rules say. Assumes nothing.
use Rattle.std.specs.Prelude.{ℕ, vec_items, Vec}
use Rattle.rules.specs.Books.{Book}
use Rattle.rules.specs.Views.{book_of}
use Rattle.std.specs.declared.alloc.Global.{Global}
use Rattle.rulefile.specs.declared.loaded.Rules.{Rules}

abbrev pub rules_book : Rules → Book
rules_book r = book_of (vec_items r.arities) (vec_items r.rules)

-- what rules say that stand beside the file as it is written out
abbrev pub copy_book : Rules × Vec ℕ Global → Book
copy_book c = rules_book c.0
