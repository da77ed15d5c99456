-- A dossier as plain data, and when its numbers are in range.
use Rattle.std.specs.Prelude.{◌≡◌, ℕ, true, ◌*◌, ◌<◌, ◌≤◌, List, [], ◌∷◌, length}
use Rattle.std.specs.List.{AllByRecursion}
use Rattle.pattern.specs.Duty.{RowsAllowed}
use Rattle.counts.specs.Counted.{Transition}
use Rattle.counts.specs.Range as counts
use Rattle.atoms.specs.Range as atoms
use Rattle.judge.specs.Acceptance.{Claim}
use Rattle.observer.specs.Mode.{mode_count}
use Rattle.records.specs.declared.Books.{Books}
use Rattle.records.specs.declared.Observers.TheVariants.{Two}
use Rattle.records.specs.Number.{observers_number, hold}
use Rattle.drafting.specs.Book.{Book, counted, atomic, book_kind, rule_count, row_count}
use Rattle.drafting.specs.Progress.{Layer, Progress, most_matching}

-- The book, counted or of atoms, its observers from the lowest on, and the entries of its table.
pub record Dossier : Type 0 where
  pub book : Book
  pub layers : List Layer
  pub entries : List Claim

abbrev pub dossier_of : Progress → Dossier
dossier_of g = record { book = g.book; layers = g.layers; entries = g.entries }

-- The book is of a kind that a file of such books may hold.
abbrev pub Holds : Books → Book → Type 0
Holds books b = hold books (book_kind b) ≡ true

-- Numbers of one byte, and of two.
abbrev pub Bytes : List ℕ → Type 0
Bytes = AllByRecursion (λ n. n ≤ 255)

abbrev pub Words : List ℕ → Type 0
Words = AllByRecursion (λ n. n ≤ 65535)

abbrev pub TransitionFits : Transition → Type 0
TransitionFits t = Bytes t.takes × Bytes t.gives

abbrev pub ClaimFits : Claim → Type 0
ClaimFits e = (e.row ≤ 255) × (length e.matching ≤ most_matching) × Bytes e.matching

-- An observer over so many rules and rows: four modes for each rule, 1 to 64 rows, each over one of those below.
abbrev pub LayerIn : ℕ → ℕ → Layer → Type 0
LayerIn rules rows l = (length l.moves ≡ rules * mode_count) × RowsAllowed (length l.rows) × AllByRecursion (λ r. r.below < rows) l.rows

-- Observers, one over the other.
abbrev pub LayersIn : ℕ → ℕ → List Layer → Type 0
LayersIn rules rows [] = Unit {0}
LayersIn rules rows (l ∷ ls) = LayerIn rules rows l × LayersIn rules (length l.rows) ls

-- The book is one of its kind, and its numbers fit their fields; those of atoms then do.
abbrev pub BookIn : Book → Type 0
BookIn (counted b) = counts.InRange b × Words b.opening × AllByRecursion TransitionFits b.rules × AllByRecursion Words b.rows
BookIn (atomic b) = atoms.InRange b

-- Every number of the dossier is in its range.
pub record InRange (d : Dossier) : Type 0 where
  pub book_in : BookIn d.book
  pub few_layers : length d.layers ≤ observers_number Two
  pub layers_in : LayersIn (rule_count d.book) (row_count d.book) d.layers
  pub entries_fit : AllByRecursion ClaimFits d.entries
