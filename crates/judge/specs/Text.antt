-- How a refusal of a table is printed; numbers are decimal.
use Rattle.std.specs.Prelude.{ℕ, List, ◌++◌, codes, decimal}
use Rattle.pattern.specs.Text.{case_text}
use Rattle.judge.specs.declared.table.TableRefusal.{TableRefusal}
use Rattle.judge.specs.Number.{table_ground_number}

abbrev pub refusal_text : TableRefusal → List ℕ
refusal_text f = decimal (table_ground_number f.reason) ++ (codes " " ++ (case_text f.case ++ (codes " entry " ++ decimal f.entry)))
