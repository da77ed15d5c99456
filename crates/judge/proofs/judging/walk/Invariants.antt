use Rattle.judge.specs.Acceptance.{claims}
use Rattle.judge.proofs.Walking.{Ahead, rows_left, rules_left, cases_left}
use Rattle.judge.proofs.judging.walk.Given as goal

abbrev pub invariant-loop-number : goal.invariant-loop-number
invariant-loop-number g l =
    let m = g.K.PatternKind.meaning (g.K.PatternKind.book l.kind) in
    Ahead m (claims l.entries) l.used (cases_left m l.row l.rule l.number)

abbrev pub invariant-loop-rule : goal.invariant-loop-rule
invariant-loop-rule g l =
    let m = g.K.PatternKind.meaning (g.K.PatternKind.book l.kind) in
    Ahead m (claims l.entries) l.used (rules_left m l.row l.rule)

abbrev pub invariant-loop-row : goal.invariant-loop-row
invariant-loop-row g l =
    let m = g.K.PatternKind.meaning (g.K.PatternKind.book l.kind) in
    Ahead m (claims l.entries) l.used (rows_left m l.row)
