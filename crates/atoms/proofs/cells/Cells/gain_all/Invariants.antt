use Rattle.std.proofs.Common.{◌≡◌, drop}
use Rattle.literals.specs.State.{chosen}
use Rattle.atoms.specs.Cells.{state_of, gained}
use Rattle.atoms.proofs.cells.Cells.gain_all.Given as goal

abbrev pub invariant-loop-literal : goal.invariant-loop-literal
invariant-loop-literal l = gained (chosen l.effect.names.now (drop l.literal-index l.effect.literals.now)) (state_of l.self) ≡ gained (chosen l.effect.names.now l.effect.literals.now) (state_of l.initial.self)
