-- What reading a file gives.
use Rattle.std.specs.Prelude.{◌≡◌, ℕ, true, List, Ok, Err, Result, MatchOption}
use Rattle.records.specs.declared.BookKind.TheVariants.{Atoms}
use Rattle.records.specs.declared.Books.{Books}
use Rattle.records.specs.declared.DossierFault.{DossierFault}
use Rattle.records.specs.declared.DossierFault.TheVariants.{TooLong, CutShort, AfterEnd, Record}
use Rattle.records.specs.declared.RecordFault.TheVariants.{KindNotAllowed, WrongLength, Field, Literal, OutOfMemory}
use Rattle.records.specs.Fault.{form_of}
use Rattle.records.specs.Number.{hold}
use Rattle.drafting.specs.declared.Draft.{Draft}
use Rattle.drafting.specs.Drafted.{progress_of}
use Rattle.reader.specs.Form.{InForm, Faulty, Reached}

-- Reading a file that may hold such books: it is in form and holds this, or its first record is at fault, or memory ran out over a record that was reached.
abbrev pub Read : Books → List ℕ → Result Draft DossierFault → Type 0
Read books bytes (Ok d) = InForm books bytes (progress_of d)
Read books bytes (Err e) = MatchOption (form_of e) (Reached books bytes) (Faulty books bytes)

-- A fault that a file of such books can have: one of a literal only where they may be books of atoms.
abbrev pub FaultIn : Books → DossierFault → Type 0
FaultIn books TooLong = Unit {0}
FaultIn books (CutShort p) = Unit {0}
FaultIn books (AfterEnd p) = Unit {0}
FaultIn books (Record (KindNotAllowed p)) = Unit {0}
FaultIn books (Record (WrongLength p)) = Unit {0}
FaultIn books (Record (Field f)) = Unit {0}
FaultIn books (Record (Literal f)) = hold books Atoms ≡ true
FaultIn books (Record OutOfMemory) = Unit {0}
