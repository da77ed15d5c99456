-- The numbers of the grounds, as the enum defines them: its `number` is proved to give these.
use Rattle.std.specs.Prelude.{ℕ}
use Rattle.judge.specs.declared.table.TableGround.{TableGround}
use Rattle.judge.specs.declared.table.TableGround.TheVariants.{RowStands, NoEntry, NoSuchRow, BadMatching, NotCovered, LeftOver}

abbrev pub table_ground_number : TableGround → ℕ
table_ground_number RowStands = 11
table_ground_number NoEntry = 12
table_ground_number NoSuchRow = 13
table_ground_number BadMatching = 14
table_ground_number NotCovered = 15
table_ground_number LeftOver = 16
