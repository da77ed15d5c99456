-- A line whose numbers are those of a file is short.
use Rattle.std.proofs.Common.{◌≤◌, length, decimal, arith, length-append}
use Rattle.std.proofs.lemmas.Fmt.{length-decimal-le}
use Rattle.judge.specs.declared.TableGround.{TableGround}
use Rattle.judge.specs.declared.TableGround.TheVariants.{RowStands, NoEntry, NoSuchRow, BadMatching, NotCovered, LeftOver}
use Rattle.judge.specs.Number.{table_ground_number}
use Rattle.records.specs.declared.FormGround.{FormGround}
use Rattle.records.specs.declared.FormGround.TheVariants.{TooLong, CutShort, KindNotAllowed, WrongLength, OutOfRange}
use Rattle.records.specs.Number.{form_ground_number}
use Rattle.line.specs.declared.verdict.Verdict.{Verdict}
use Rattle.line.specs.declared.verdict.Verdict.TheVariants.{Accept, Form, Refuse}
use Rattle.line.specs.Text.{line_of, Bounded, least_buffer}

form_ground : (g : FormGround) → length (decimal (form_ground_number g)) ≤ 1
form_ground TooLong = length-decimal-le 1 1 (omega arith) (omega arith) (omega arith)
form_ground CutShort = length-decimal-le 1 2 (omega arith) (omega arith) (omega arith)
form_ground KindNotAllowed = length-decimal-le 1 3 (omega arith) (omega arith) (omega arith)
form_ground WrongLength = length-decimal-le 1 4 (omega arith) (omega arith) (omega arith)
form_ground OutOfRange = length-decimal-le 1 5 (omega arith) (omega arith) (omega arith)

table_ground : (g : TableGround) → length (decimal (table_ground_number g)) ≤ 2
table_ground RowStands = length-decimal-le 2 11 (omega arith) (omega arith) (omega arith)
table_ground NoEntry = length-decimal-le 2 12 (omega arith) (omega arith) (omega arith)
table_ground NoSuchRow = length-decimal-le 2 13 (omega arith) (omega arith) (omega arith)
table_ground BadMatching = length-decimal-le 2 14 (omega arith) (omega arith) (omega arith)
table_ground NotCovered = length-decimal-le 2 15 (omega arith) (omega arith) (omega arith)
table_ground LeftOver = length-decimal-le 2 16 (omega arith) (omega arith) (omega arith)

pub short : (v : Verdict) → Bounded v → length (line_of v) ≤ least_buffer
short Accept h = omega arith
short (Form f) h =
    let ground = form_ground f.reason in
    let place : length (decimal f.place) ≤ 5 = length-decimal-le 5 f.place (omega arith) h (omega arith) in
    simp length-append (omega arith)
short (Refuse f) h =
    let ground = table_ground f.reason in
    let row : length (decimal f.case.row) ≤ 2 = length-decimal-le 2 f.case.row (omega arith) h.0 (omega arith) in
    let rule : length (decimal f.case.rule) ≤ 2 = length-decimal-le 2 f.case.rule (omega arith) h.1 (omega arith) in
    let case : length (decimal f.case.number) ≤ 8 = length-decimal-le 8 f.case.number (omega arith) h.2 (omega arith) in
    let entry : length (decimal f.entry) ≤ 5 = length-decimal-le 5 f.entry (omega arith) h.3 (omega arith) in
    simp length-append (omega arith)
