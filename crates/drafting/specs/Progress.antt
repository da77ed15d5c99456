-- What the records of a file hold, as far as it was read, and which record may come next.
use Rattle.std.specs.Prelude.{ℕ, ◌+◌, ◌*◌, Bool, true, ◌&&◌, List, [], ◌∷◌, ◌++◌, map, length, drop, ◌==◌, nat_le, nat_lt, slice_index}
use Rattle.pattern.specs.Duty.{most_rules, most_rows}
use Rattle.judge.specs.Acceptance.{Claim}
use Rattle.observer.specs.declared.Mode.{Mode}
use Rattle.observer.specs.declared.Mode.TheVariants.{Three}
use Rattle.observer.specs.declared.ObserverRow.{ObserverRow}
use Rattle.observer.specs.Mode.{mode_number, mode_count}
use Rattle.records.specs.declared.RecordKind.{RecordKind}
use Rattle.records.specs.declared.RecordKind.TheVariants as kind
use Rattle.records.specs.declared.Section.{Section}
use Rattle.records.specs.declared.Section.TheVariants as section
use Rattle.records.specs.declared.Books.{Books}
use Rattle.records.specs.declared.Observers.TheVariants.{Two}
use Rattle.records.specs.Number.{observers_number}
use Rattle.records.specs.Order.{comes_after, leads_to, among}
use Rattle.records.specs.Field.{mode_of, all_at_most}
use Rattle.drafting.specs.Book.{Book, none, begun, places_in, rule_count, row_count, opening_fits, rule_fits, row_fits, opening_in, rule_in, row_in, with_opening, with_rule, with_row}

-- An observer's moves and rows.
pub record Layer : Type 0 where
  pub moves : List Mode
  pub rows : List ObserverRow

-- Which kinds of books the file may hold, how far it has come, the head's numbers, the book, the observers from the lowest on, and the entries.
pub record Progress : Type 0 where
  pub books : Books
  pub section : Section
  pub observers : ℕ
  pub places : ℕ
  pub book : Book
  pub layers : List Layer
  pub entries : List Claim

-- Nothing was read yet.
abbrev pub start : Books → Progress
start books = record { books = books; section = section.Start; observers = 0; places = 0; book = none; layers = []; entries = [] }

-- The rows of the topmost observer, and how many rows there are below it.
abbrev pub top_rows : List Layer → ℕ
top_rows [] = 0
top_rows (l ∷ []) = length l.rows
top_rows (l ∷ m ∷ ls) = top_rows (m ∷ ls)

abbrev pub rows_below : ℕ → List Layer → ℕ
rows_below rows [] = 0
rows_below rows (l ∷ []) = rows
rows_below rows (l ∷ m ∷ ls) = rows_below (length l.rows) (m ∷ ls)

abbrev pub with_observer_row : List Layer → ObserverRow → List Layer
with_observer_row [] r = []
with_observer_row (l ∷ []) r = record { moves = l.moves; rows = l.rows ++ r ∷ [] } ∷ []
with_observer_row (l ∷ m ∷ ls) r = l ∷ with_observer_row (m ∷ ls) r

-- There is room for one more record of a kind: so many rules, rows and rows of an observer as a kind may have, and as many observers as the head says.
-- Entries and the end come when all observers have come.
abbrev pub room : Progress → RecordKind → Bool
room g kind.Head = true
room g kind.Opening = true
room g kind.Rule = nat_lt (rule_count g.book) most_rules
room g kind.Row = nat_lt (row_count g.book) most_rows
room g kind.Moves = nat_lt (length g.layers) g.observers
room g kind.ObserverRow = nat_lt (top_rows g.layers) most_rows
room g kind.Entry = length g.layers == g.observers
room g kind.End = length g.layers == g.observers

-- A record of this kind is allowed here.
abbrev pub allowed : Progress → RecordKind → Bool
allowed g k = among g.section (comes_after k) && room g k

-- The most bytes of a matching.
abbrev pub most_matching : ℕ
most_matching = 5

-- Its body has the right length.
abbrev pub long : Progress → RecordKind → List ℕ → Bool
long g kind.Head b = length b == 3
long g kind.Opening b = opening_fits g.places g.book b
long g kind.Rule b = rule_fits g.places g.book b
long g kind.Row b = row_fits g.places g.book b
long g kind.Moves b = length b == mode_count * rule_count g.book
long g kind.ObserverRow b = length b == 2
long g kind.Entry b = nat_le 1 (length b) && nat_le (length b) (1 + most_matching)
long g kind.End b = length b == 0

-- Its numbers are in range.
abbrev pub ranged : Progress → RecordKind → List ℕ → Bool
ranged g kind.Head b = nat_le (slice_index b 1) (observers_number Two) && places_in g.books (slice_index b 0) (slice_index b 2)
ranged g kind.Opening b = opening_in g.book b
ranged g kind.Rule b = rule_in g.book b
ranged g kind.Row b = row_in g.book b
ranged g kind.Moves b = all_at_most (mode_number Three) b
ranged g kind.ObserverRow b = nat_lt (slice_index b 0) (rows_below (row_count g.book) g.layers) && nat_le (slice_index b 1) (mode_number Three)
ranged g kind.Entry b = true
ranged g kind.End b = true

-- What a record adds.
abbrev pub advance : Progress → RecordKind → List ℕ → Progress
advance g kind.Head b = record { books = g.books; section = leads_to kind.Head; observers = slice_index b 1; places = slice_index b 2; book = begun (slice_index b 0); layers = g.layers; entries = g.entries }
advance g kind.Opening b = record { books = g.books; section = leads_to kind.Opening; observers = g.observers; places = g.places; book = with_opening g.book b; layers = g.layers; entries = g.entries }
advance g kind.Rule b = record { books = g.books; section = leads_to kind.Rule; observers = g.observers; places = g.places; book = with_rule g.places g.book b; layers = g.layers; entries = g.entries }
advance g kind.Row b = record { books = g.books; section = leads_to kind.Row; observers = g.observers; places = g.places; book = with_row g.book b; layers = g.layers; entries = g.entries }
advance g kind.Moves b = record { books = g.books; section = leads_to kind.Moves; observers = g.observers; places = g.places; book = g.book; layers = g.layers ++ record { moves = map mode_of b; rows = [] } ∷ []; entries = g.entries }
advance g kind.ObserverRow b = record { books = g.books; section = leads_to kind.ObserverRow; observers = g.observers; places = g.places; book = g.book; layers = with_observer_row g.layers (record { below = slice_index b 0; mode = mode_of (slice_index b 1) }); entries = g.entries }
advance g kind.Entry b = record { books = g.books; section = leads_to kind.Entry; observers = g.observers; places = g.places; book = g.book; layers = g.layers; entries = g.entries ++ record { row = slice_index b 0; matching = drop 1 b } ∷ [] }
advance g kind.End b = record { books = g.books; section = leads_to kind.End; observers = g.observers; places = g.places; book = g.book; layers = g.layers; entries = g.entries }
