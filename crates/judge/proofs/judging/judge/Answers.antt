use Rattle.std.proofs.Common.{arith}
use Rattle.std.proofs.lemmas.List.{length-map}
use Rattle.std.proofs.lemmas.Result.{err_from_is_err_and}
use Rattle.judge.specs.Acceptance.{claims}
use Rattle.judge.proofs.OneVerdict.{stands_verdict, walk_verdict, left_over_verdict, covered_verdict}
use Rattle.judge.proofs.judging.judge.Goals as goal

pub returns-in-Some : goal.returns-in-Some
returns-in-Some g c =
    let k = g.K.PatternKind in
    stands_verdict (k.meaning (k.book c.args.kind.now)) (claims c.args.entries.now) c.in-Some.row c.in-Some.ensures

pub returns-in_err-used : goal.returns-in_err-used
returns-in_err-used g c =
    let k = g.K.PatternKind in
    let p = err_from_is_err_and c.from_residual.result c.from_residual.ensures.1 in
    rw (p.1, p.2) (walk_verdict (k.meaning (k.book c.args.kind.now)) (claims c.args.entries.now) c.in_err-used.field-0.0 c.in_default.ensures c.in_err-used.ensures)

pub returns-then-used-entries : goal.returns-then-used-entries
returns-then-used-entries g c =
    let k = g.K.PatternKind in
    left_over_verdict (k.meaning (k.book c.args.kind.now)) (claims c.args.entries.now) c.in_ok-used.used c.in_default.ensures c.in_ok-used.ensures (simp length-map (omega arith))

pub returns : goal.returns
returns g c =
    let k = g.K.PatternKind in
    covered_verdict (k.meaning (k.book c.args.kind.now)) (claims c.args.entries.now) c.in_ok-used.used c.in_default.ensures c.in_ok-used.ensures (simp length-map (omega arith))
