use Rattle.std.proofs.Common.{arith}
use Rattle.std.proofs.lemmas.Grind.{common_steps}
use Rattle.predecessor.proofs.Loops.{next_digit}
use Rattle.predecessor.proofs.case.RuleIntoRow.names.Goals as goal

pub loop-preserved : goal.loop-preserved
loop-preserved c = let next = next_digit c.from-base.result c.args.self.now.rule.now.variables c.loop.counter c.loop.rest c.loop-test.true in grind (arith, common_steps, next)
