use Rattle.std.proofs.Common.{length, ap, arith}
use Rattle.predecessor.specs.System.{rule_of, row_of}
use Rattle.predecessor.proofs.Loops.{not_full}
use Rattle.predecessor.proofs.step.StepBack.earlier.Goals as goal

pub push-requires-then-stays : goal.push-requires-then-stays
push-requires-then-stays c =
    let pair = c.args.self.now.pair in
    rw c.loop-literal-2.invariant (not_full (rule_of pair) (row_of pair) pair.rule_in pair.row_in c.args.self.now.names.items c.loop-literal-2.literal-index (omega (arith, ap length c.deref-literal-items-2.ensures.value)))
