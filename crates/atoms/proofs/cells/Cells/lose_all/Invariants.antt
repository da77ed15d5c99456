use Rattle.std.proofs.Common.{◌≡◌, drop}
use Rattle.literals.specs.State.{chosen}
use Rattle.atoms.specs.Cells.{state_of, lost}
use Rattle.atoms.proofs.cells.Cells.lose_all.Given as goal

abbrev pub invariant-loop-literal : goal.invariant-loop-literal
invariant-loop-literal l = lost (chosen l.effect.names.now (drop l.literal-index l.effect.literals.now)) (state_of l.self) ≡ lost (chosen l.effect.names.now l.effect.literals.now) (state_of l.initial.self)
