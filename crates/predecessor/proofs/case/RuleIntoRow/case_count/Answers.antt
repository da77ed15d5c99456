use Rattle.std.proofs.Common.{◌∙◌, arith}
use Rattle.predecessor.specs.System.{rule_of, row_of}
use Rattle.predecessor.specs.Limits.{few}
use Rattle.predecessor.proofs.case.RuleIntoRow.case_count.Goals as goal

pub pow-requires : goal.pow-requires
pow-requires c =
    let pair = c.args.self.now in
    rw (c.from.ensures ∙ c.variables.ensures, c.from-2.ensures) (omega (arith, few (rule_of pair) (row_of pair) pair.rule_in pair.row_in))
