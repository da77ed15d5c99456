use Rattle.std.proofs.Common.{◌≡◌, ◌+◌, ◌≤◌, drop}
use Rattle.predecessor.specs.Proper.{proper}
use Rattle.predecessor.proofs.naming.proper.Given as goal

abbrev pub invariant-loop-name : goal.invariant-loop-name
invariant-loop-name l = (proper l.next (drop l.name-index l.names) ≡ proper l.first l.names) × (l.next ≤ l.first + l.name-index)
