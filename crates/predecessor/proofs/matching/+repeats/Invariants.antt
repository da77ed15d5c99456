use Rattle.std.proofs.Common.{length}
use Rattle.predecessor.proofs.matching.+repeats.Given as goal

abbrev pub decreases-repeats : goal.decreases-repeats
decreases-repeats l = length l.numbers.now
