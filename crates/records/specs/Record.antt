-- The kind, place and body of a record that is read in place.
use Rattle.std.specs.Prelude.{ℕ, List}
use Rattle.records.specs.declared.record.Body.{Body}
use Rattle.records.specs.declared.record.Record.{Record}
use Rattle.records.specs.declared.record.Record.TheVariants.{Head, Opening, Rule, Row, Moves, ObserverRow, Entry, End}
use Rattle.records.specs.declared.record.RecordKind.{RecordKind}
use Rattle.records.specs.declared.record.RecordKind.TheVariants as kind

abbrev pub record_kind : Record → RecordKind
record_kind (Head b) = kind.Head
record_kind (Opening b) = kind.Opening
record_kind (Rule b) = kind.Rule
record_kind (Row b) = kind.Row
record_kind (Moves b) = kind.Moves
record_kind (ObserverRow b) = kind.ObserverRow
record_kind (Entry b) = kind.Entry
record_kind (End b) = kind.End

abbrev pub body_of : Record → Body
body_of (Head b) = b
body_of (Opening b) = b
body_of (Rule b) = b
body_of (Row b) = b
body_of (Moves b) = b
body_of (ObserverRow b) = b
body_of (Entry b) = b
body_of (End b) = b

abbrev pub record_place : Record → ℕ
record_place r = (body_of r).place

abbrev pub record_bytes : Record → List ℕ
record_bytes r = (body_of r).bytes.now
