-- What a fault says of the file.
use Rattle.std.specs.Prelude.{ℕ, List, ◌++◌, Some, None, Option, codes, decimal}
use Rattle.records.specs.declared.fault.FormGround.TheVariants as ground
use Rattle.records.specs.declared.fault.FormFault.{FormFault}
use Rattle.records.specs.Number.{form_ground_number}
use Rattle.records.specs.declared.fault.LiteralFault.{LiteralFault}
use Rattle.records.specs.declared.fault.LiteralFault.TheVariants.{Kind, Relation, First, Second}
use Rattle.records.specs.declared.fault.RecordFault.TheVariants as inner
use Rattle.records.specs.declared.fault.DossierFault.{DossierFault}
use Rattle.records.specs.declared.fault.DossierFault.TheVariants.{TooLong, CutShort, AfterEnd, Record}

-- The place of the record with a literal at fault.
abbrev pub literal_place : LiteralFault → ℕ
literal_place (Kind place) = place
literal_place (Relation place) = place
literal_place (First place) = place
literal_place (Second place) = place

-- Its ground and place; want of memory says nothing of the file.
abbrev pub form_of : DossierFault → Option FormFault
form_of TooLong = Some (record { reason = ground.TooLong; place = 0 })
form_of (CutShort place) = Some (record { reason = ground.CutShort; place = place })
form_of (AfterEnd place) = Some (record { reason = ground.KindNotAllowed; place = place })
form_of (Record (inner.KindNotAllowed place)) = Some (record { reason = ground.KindNotAllowed; place = place })
form_of (Record (inner.WrongLength place)) = Some (record { reason = ground.WrongLength; place = place })
form_of (Record (inner.Field f)) = Some (record { reason = ground.OutOfRange; place = f.place })
form_of (Record (inner.Literal f)) = Some (record { reason = ground.OutOfRange; place = literal_place f })
form_of (Record inner.OutOfMemory) = None

-- The fault in words: the number of its ground, and its place, both decimal.
abbrev pub fault_text : FormFault → List ℕ
fault_text f = decimal (form_ground_number f.reason) ++ (codes " at " ++ decimal f.place)
