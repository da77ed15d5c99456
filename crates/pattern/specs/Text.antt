-- How a case is printed; numbers are decimal.
use Rattle.std.specs.Prelude.{ℕ, List, ◌++◌, codes, decimal}
use Rattle.pattern.specs.declared.answer.Case.{Case}

abbrev pub case_text : Case → List ℕ
case_text c = codes "row " ++ (decimal c.row ++ (codes " rule " ++ (decimal c.rule ++ (codes " case " ++ decimal c.number))))
