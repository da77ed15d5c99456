use Rattle.std.proofs.Common.{take, vec_items}
use Rattle.records.specs.Each.{EachGives}
use Rattle.records.proofs.each.read_each.Given as goal

abbrev pub invariant-loop-item : goal.invariant-loop-item
invariant-loop-item g l = EachGives (goal.F-post g l.read) (take l.item-index l.items) (vec_items l.values)
