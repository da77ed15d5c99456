use Rattle.std.proofs.Common.{◌≡◌, ◌++◌, take, vec_items}
use Rattle.literals.specs.State.{chosen}
use Rattle.predecessor.specs.Earlier.{kept}
use Rattle.predecessor.specs.Made.{literals_of}
use Rattle.predecessor.proofs.step.StepBack.earlier.Given as goal

abbrev pub invariant-loop-literal : goal.invariant-loop-literal
invariant-loop-literal l = literals_of l.earlier ≡ chosen l.fn.self.names.items (take l.literal-index (vec_items l.fn.self.pair.rule.now.condition))

abbrev pub invariant-loop-literal-2 : goal.invariant-loop-literal-2
invariant-loop-literal-2 l = literals_of l.earlier ≡ chosen l.fn.self.names.items (vec_items l.fn.self.pair.rule.now.condition) ++ kept (chosen l.fn.self.names.items (vec_items l.fn.self.pair.rule.now.effect)) (take l.literal-index (vec_items l.fn.self.pair.row.now.literals))
