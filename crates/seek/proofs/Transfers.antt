-- States with one book, history, theory and table have one answer to a search. Assumes nothing.
use Rattle.std.proofs.Common.{◌≡◌, ℕ, true, List, length, sym, subst}
use Rattle.rules.specs.Books.{Book, heads}
use Rattle.theory.specs.declared.interface.Theory as Theory
use Rattle.table.specs.declared.partner.PartnerTable as PartnerTable
use Rattle.table.specs.Lists.{first}
use Rattle.machine.specs.Lists.{◌∈◌, NoLater}
use Rattle.machine.specs.Matching.{Applies, rule_at}
use Rattle.machine.specs.Occurrences.{search_order, sought}
use Rattle.machine.specs.Sheets.{Config}
use Rattle.machine.specs.Refined.{removes_nothing, Fits, NoneFits, FirstFit}
use Rattle.seek.specs.Searches.{Alike, ReadsAlone}

module _ {A B : Type 0} where
  pub alike_back : (s t : Config A B) → Alike s t → Alike t s
  alike_back s t a = record { book = sym a.book; history = sym a.history; theory = sym a.theory; table = sym a.table }

module _ {A B : Type 0} (T : Theory.Ghosts A) (P : PartnerTable.Ghosts B) (k h i : ℕ) where
  abbrev AppliesAt : Book → A → B → List ℕ → Type 0
  AppliesAt b x y tuple = Applies (T.means x) b.arities (λ j. first (P.records y j)) (rule_at b k) tuple

  pub fits_alike : (s t : Config A B) → Alike s t → (tuple : List ℕ) → Fits T P s k h i tuple → Fits T P t k h i tuple
  fits_alike s t a tuple f = record {
    applies = subst (λ z. AppliesAt t.book t.theory z tuple) a.table (subst (λ z. AppliesAt t.book z s.table tuple) a.theory (subst (λ z. AppliesAt z s.theory s.table tuple) a.book f.applies));
    at = f.at;
    new = λ q. f.new (subst (λ z. removes_nothing (rule_at z k) ≡ true) (sym a.book) q.0, subst (λ z. (k, tuple) ∈ z) (sym a.history) q.1);
  }

  pub none_alike : (s t : Config A B) → Alike s t → NoneFits T P s k h i → NoneFits T P t k h i
  none_alike s t a n tuple f = n tuple (fits_alike t s (alike_back s t a) tuple f)

  pub first_alike : (s t : Config A B) → Alike s t → (tuple : List ℕ) → FirstFit T P s k h i tuple → FirstFit T P t k h i tuple
  first_alike s t a tuple f = record {
    fits = fits_alike s t a tuple f.fits;
    before = λ other g. subst (λ z. NoLater (sought (search_order (length (heads (rule_at z k))) h) tuple) (sought (search_order (length (heads (rule_at z k))) h) other)) a.book (f.before other (fits_alike t s (alike_back s t a) other g));
  }

pub reads_alone : {A B : Type 0} (T : Theory.Ghosts A) (P : PartnerTable.Ghosts B) → ReadsAlone T P
reads_alone T P = record { fits = λ s t a k h i. fits_alike T P k h i s t a; none = λ s t a k h i. none_alike T P k h i s t a; first = λ s t a k h i. first_alike T P k h i s t a }
