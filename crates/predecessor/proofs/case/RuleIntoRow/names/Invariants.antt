use Rattle.std.proofs.Common.{◌≡◌, ◌-◌, ◌++◌, length}
use Rattle.predecessor.specs.System.{rule_of, row_of}
use Rattle.predecessor.specs.Proper.{digits}
use Rattle.predecessor.specs.Earlier.{renaming}
use Rattle.predecessor.proofs.case.RuleIntoRow.names.Given as goal

abbrev pub invariant-loop : goal.invariant-loop
invariant-loop l = (l.names.items ++ digits l.base (l.self.rule.now.variables - l.counter) l.rest ≡ renaming (rule_of l.self) (row_of l.self) l.number) × (length l.names.items ≡ l.counter)
