-- The book of a file, counted or of atoms: what the bodies of its opening, rules and rows are, and what each adds.
use Rattle.std.specs.Prelude.{ℕ, ◌*◌, Bool, true, cond, ◌&&◌, ◌||◌, List, [], ◌∷◌, ◌++◌, length, take, drop, ◌==◌, nat_le}
use Rattle.counts.specs.Net.{most_places}
use Rattle.counts.specs.Counted.{CountedBook}
use Rattle.atoms.specs.Book.{AtomsBook}
use Rattle.bodies.specs.Lists.{atoms_in, atoms_of}
use Rattle.bodies.specs.Rule as atoms
use Rattle.records.specs.declared.BookKind.{BookKind}
use Rattle.records.specs.declared.BookKind.TheVariants.{Atoms, Counts}
use Rattle.records.specs.declared.Books.{Books}
use Rattle.records.specs.Number.{book_number, hold}
use Rattle.records.specs.Field.{words}

-- A book of either kind, as plain data.
pub data Book : Type 0 where
  counted : CountedBook → Book
  atomic : AtomsBook → Book

-- Nothing was read yet; and after a head with this kind.
abbrev pub none : Book
none = counted (record { opening = []; rules = []; rows = [] })

abbrev pub begun : ℕ → Book
begun kind = cond (kind == book_number Atoms) (atomic (record { opening = []; rules = []; rows = [] })) none

-- The kind of a book.
abbrev pub book_kind : Book → BookKind
book_kind (counted _) = Counts
book_kind (atomic _) = Atoms

-- Kind and places of a head: a kind that the file may hold, with no places for atoms, 1 to 12 for counts.
abbrev pub places_in : Books → ℕ → ℕ → Bool
places_in books kind n = (hold books Atoms && (kind == book_number Atoms && n == 0)) || (hold books Counts && (kind == book_number Counts && (nat_le 1 n && nat_le n most_places)))

abbrev pub rule_count : Book → ℕ
rule_count (counted b) = length b.rules
rule_count (atomic b) = length b.rules

abbrev pub row_count : Book → ℕ
row_count (counted b) = length b.rows
row_count (atomic b) = length b.rows

-- The body of an opening, a rule or a row has the right length: two bytes a place for counts, by the counts in it for atoms.
abbrev pub opening_fits : ℕ → Book → List ℕ → Bool
opening_fits n (counted _) b = length b == 2 * n
opening_fits n (atomic _) b = atoms.opening_fits b

abbrev pub rule_fits : ℕ → Book → List ℕ → Bool
rule_fits n (counted _) b = length b == 2 * n
rule_fits n (atomic _) b = atoms.rule_fits b

abbrev pub row_fits : ℕ → Book → List ℕ → Bool
row_fits n (counted _) b = length b == 2 * n
row_fits n (atomic _) b = atoms.row_fits b

-- Its numbers are in range: those of counts always are.
abbrev pub opening_in : Book → List ℕ → Bool
opening_in (counted _) b = true
opening_in (atomic _) b = atoms_in b

abbrev pub rule_in : Book → List ℕ → Bool
rule_in (counted _) b = true
rule_in (atomic _) b = atoms.rule_in b

abbrev pub row_in : Book → List ℕ → Bool
row_in (counted _) b = true
row_in (atomic _) b = atoms.row_in b

-- The book with that opening, or with one rule or row more.
abbrev pub with_opening : Book → List ℕ → Book
with_opening (counted k) b = counted (record { opening = words b; rules = k.rules; rows = k.rows })
with_opening (atomic k) b = atomic (record { opening = atoms_of b; rules = k.rules; rows = k.rows })

abbrev pub with_rule : ℕ → Book → List ℕ → Book
with_rule n (counted k) b = counted (record { opening = k.opening; rules = k.rules ++ record { takes = take n b; gives = drop n b } ∷ []; rows = k.rows })
with_rule n (atomic k) b = atomic (record { opening = k.opening; rules = k.rules ++ atoms.rule_of b ∷ []; rows = k.rows })

abbrev pub with_row : Book → List ℕ → Book
with_row (counted k) b = counted (record { opening = k.opening; rules = k.rules; rows = k.rows ++ words b ∷ [] })
with_row (atomic k) b = atomic (record { opening = k.opening; rules = k.rules; rows = k.rows ++ atoms.row_of b ∷ [] })
