-- The numbers of grounds and of record kinds, as their enums define them.
use Rattle.std.specs.Prelude.{ℕ, Bool, true, false, ◌≢◌}
use Rattle.records.specs.declared.fault.FormGround.{FormGround}
use Rattle.records.specs.declared.fault.FormGround.TheVariants.{TooLong, CutShort, KindNotAllowed, WrongLength, OutOfRange}
use Rattle.records.specs.declared.head.BookKind.{BookKind}
use Rattle.records.specs.declared.head.BookKind.TheVariants.{Atoms, Counts}
use Rattle.records.specs.declared.head.Books.{Books}
use Rattle.records.specs.declared.head.Books.TheVariants.{Counted, Any}
use Rattle.records.specs.declared.head.Observers.{Observers}
use Rattle.records.specs.declared.head.Observers.TheVariants.{None, One, Two}
use Rattle.records.specs.declared.record.RecordKind.{RecordKind}
use Rattle.records.specs.declared.record.RecordKind.TheVariants.{Head, Opening, Rule, Row, Moves, ObserverRow, Entry, End}

abbrev pub form_ground_number : FormGround → ℕ
form_ground_number TooLong = 1
form_ground_number CutShort = 2
form_ground_number KindNotAllowed = 3
form_ground_number WrongLength = 4
form_ground_number OutOfRange = 5

abbrev pub record_number : RecordKind → ℕ
record_number Head = 1
record_number Opening = 2
record_number Rule = 3
record_number Row = 4
record_number Moves = 5
record_number ObserverRow = 6
record_number Entry = 7
record_number End = 8

-- No kind of record has this number.
abbrev pub NoRecord : ℕ → Type 0
NoRecord n = (k : RecordKind) → record_number k ≢ n

abbrev pub book_number : BookKind → ℕ
book_number Atoms = 1
book_number Counts = 2

-- No kind of book has this number.
abbrev pub NoBook : ℕ → Type 0
NoBook n = (k : BookKind) → book_number k ≢ n

-- A file may hold a book of this kind.
abbrev pub hold : Books → BookKind → Bool
hold Any k = true
hold Counted Counts = true
hold Counted Atoms = false

abbrev pub observers_number : Observers → ℕ
observers_number None = 0
observers_number One = 1
observers_number Two = 2
