-- The order of the records: after which sections a record of a kind may come, and the section that it leads to.
use Rattle.std.specs.Prelude.{ℕ, Bool, false, ◌||◌, List, [], ◌∷◌, ◌==◌}
use Rattle.records.specs.declared.record.RecordKind.{RecordKind}
use Rattle.records.specs.declared.record.RecordKind.TheVariants as kind
use Rattle.records.specs.declared.section.Section.{Section}
use Rattle.records.specs.declared.section.Section.TheVariants as section

abbrev pub comes_after : RecordKind → List Section
comes_after kind.Head = section.Start ∷ []
comes_after kind.Opening = section.Head ∷ []
comes_after kind.Rule = section.Opening ∷ section.Rules ∷ []
comes_after kind.Row = section.Rules ∷ section.Rows ∷ []
comes_after kind.Moves = section.Rows ∷ section.ObserverRows ∷ []
comes_after kind.ObserverRow = section.Moves ∷ section.ObserverRows ∷ []
comes_after kind.Entry = section.Rows ∷ section.ObserverRows ∷ section.Entries ∷ []
comes_after kind.End = section.Rows ∷ section.ObserverRows ∷ section.Entries ∷ []

abbrev pub leads_to : RecordKind → Section
leads_to kind.Head = section.Head
leads_to kind.Opening = section.Opening
leads_to kind.Rule = section.Rules
leads_to kind.Row = section.Rows
leads_to kind.Moves = section.Moves
leads_to kind.ObserverRow = section.ObserverRows
leads_to kind.Entry = section.Entries
leads_to kind.End = section.End

abbrev pub section_number : Section → ℕ
section_number section.Start = 0
section_number section.Head = 1
section_number section.Opening = 2
section_number section.Rules = 3
section_number section.Rows = 4
section_number section.Moves = 5
section_number section.ObserverRows = 6
section_number section.Entries = 7
section_number section.End = 8

abbrev pub among : Section → List Section → Bool
among s [] = false
among s (t ∷ ts) = section_number s == section_number t || among s ts
