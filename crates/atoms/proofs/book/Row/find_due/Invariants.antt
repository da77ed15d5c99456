use Rattle.std.proofs.Common.{◌≡◌, take, vec_items}
use Rattle.atoms.specs.Placing.{due}
use Rattle.atoms.proofs.book.Row.find_due.Given as goal

abbrev pub invariant-loop-literal : goal.invariant-loop-literal
invariant-loop-literal l = l.due.items ≡ due l.variable (take l.literal-index (vec_items l.self.literals))
