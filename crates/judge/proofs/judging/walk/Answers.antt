use Rattle.std.proofs.Common.{◌+◌, ◌<◌, [], length, sym, ◌∙◌, arith, rules}
use Rattle.std.proofs.lemmas.List.{length-map}
use Rattle.judge.specs.Acceptance.{claims}
use Rattle.judge.proofs.Walking.{ahead_begin, ahead_row, ahead_rule, cases_done, rules_done, rows_done, cases_left, passed, used_up, failed_at}
use Rattle.judge.proofs.judging.walk.Goals as goal
use Rattle.judge.proofs.judging.walk.Goals.{in-Open+in_default-check_entry, in_default}

pub loop-row-init : goal.loop-row-init
loop-row-init g c = let k = g.K.PatternKind in ahead_begin (k.meaning (k.book c.args.kind.now)) (claims c.args.entries.now)

pub loop-rule-init : goal.loop-rule-init
loop-rule-init g c =
    let k = g.K.PatternKind in
    ahead_row (k.meaning (k.book c.args.kind.now)) (claims c.args.entries.now) c.loop-row.used c.loop-row.row (omega arith) c.loop-row.invariant

pub loop-number-init : goal.loop-number-init
loop-number-init g c =
    let k = g.K.PatternKind in
    ahead_rule (k.meaning (k.book c.args.kind.now)) (claims c.args.entries.now) c.loop-rule.used c.loop-row.row c.loop-rule.rule (omega arith) c.loop-rule.invariant

pub overflow_add-used : goal.overflow_add-used
overflow_add-used g c =
    let here : c.loop-number.used < length c.args.entries.now = simp length-map at c.in_default-check_entry.ensures.0 in
    search rules

pub loop-number-preserved : goal.loop-number-preserved
loop-number-preserved g c =
    let k = g.K.PatternKind in
    let m = k.meaning (k.book c.args.kind.now) in
    elim c.match-sort.branch [
      | in-Open+in_default-check_entry w ↦ rw w.used-is
          (used_up m (claims c.args.entries.now) c.loop-number.used c.loop-row.row c.loop-rule.rule c.loop-number.number (record { row = 0; matching = [] }) (omega arith) (sym w.in-Open.ensures) w.in_default-check_entry.ensures.0 w.in_default-check_entry.ensures.1 c.loop-number.invariant)
      | in_default w ↦ rw w.used-is
          (passed m (claims c.args.entries.now) c.loop-number.used c.loop-row.row c.loop-rule.rule c.loop-number.number (omega arith) (λ o. w.in_default.not-Open (c.sort.ensures ∙ o)) c.loop-number.invariant)
    ]

pub loop-rule-preserved : goal.loop-rule-preserved
loop-rule-preserved g c =
    let k = g.K.PatternKind in
    cases_done (k.meaning (k.book c.args.kind.now)) (claims c.args.entries.now) c.loop-number.used c.loop-row.row c.loop-rule.rule c.loop-number.number (omega arith) c.loop-number.invariant

pub loop-row-preserved : goal.loop-row-preserved
loop-row-preserved g c =
    let k = g.K.PatternKind in
    rules_done (k.meaning (k.book c.args.kind.now)) (claims c.args.entries.now) c.loop-rule.used c.loop-row.row c.loop-rule.rule (omega arith) c.loop-rule.invariant

pub returns-in-Err : goal.returns-in-Err
returns-in-Err g c =
    let k = g.K.PatternKind in
    let m = k.meaning (k.book c.args.kind.now) in
    failed_at m (claims c.args.entries.now) c.loop-number.used c.loop-row.row c.loop-rule.rule c.loop-number.number (omega arith) (sym c.in-Open.ensures)
    (c.in-Err.ensures (cases_left m c.loop-row.row c.loop-rule.rule (c.loop-number.number + 1))) c.loop-number.invariant

pub returns-after-loop-row : goal.returns-after-loop-row
returns-after-loop-row g c =
    let k = g.K.PatternKind in
    (c.loop-row.invariant.within, rows_done (k.meaning (k.book c.args.kind.now)) (claims c.args.entries.now) c.loop-row.used c.loop-row.row (omega arith) c.loop-row.invariant)
