use Rattle.std.proofs.Common.{◌≡◌, map, drop}
use Rattle.atoms.specs.Book.{nothing, affirmed}
use Rattle.atoms.specs.Cells.{state_of, gained}
use Rattle.atoms.proofs.cells.Cells.of.Given as goal

abbrev pub invariant-loop-atom : goal.invariant-loop-atom
invariant-loop-atom l = gained (map affirmed (drop l.atom-index l.atoms)) (state_of l.cells) ≡ gained (map affirmed l.atoms) nothing
