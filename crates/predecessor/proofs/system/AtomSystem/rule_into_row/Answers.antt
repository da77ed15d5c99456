use Rattle.atoms.specs.Data.{transition_of, pattern_of}
use Rattle.atoms.proofs.Ranged.{rule_ranged, row_ranged}
use Rattle.predecessor.specs.System.{system_book}
use Rattle.predecessor.proofs.system.AtomSystem.rule_into_row.Goals as goal

pub invariant_of-result : goal.invariant_of-result
invariant_of-result c =
    let b = system_book c.args.self.now in
    let carried = c.args.self.now.atoms.in_range in
    let rule = c.in_ok-rule in
    let row = c.in_ok-row in
    record {
      rule_in = rule_ranged b carried c.args.rule (transition_of rule.rule.now) rule.ensures.0 rule.ensures.1;
      row_in = row_ranged b carried c.args.row (pattern_of row.row.now) row.ensures.0 row.ensures.1;
    }
