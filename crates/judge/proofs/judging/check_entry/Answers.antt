use Rattle.std.proofs.Common.{length, sym, arith}
use Rattle.std.proofs.lemmas.Bool.{ltb-true, ltb-false}
use Rattle.judge.proofs.Meeting.{met_none, met_no_row, met_malformed, met_uncovered, met_right}
use Rattle.judge.proofs.judging.check_entry.Goals as goal

pub returns-in_default : goal.returns-in_default
returns-in_default g c =
    let k = g.K.PatternKind in
    met_none (k.meaning (k.book c.args.kind.now)) c.args.case c.args.entries.now c.args.number
    (ltb-false c.args.number (length c.args.entries.now) (sym c.in_default.ensures.lookup.0))

pub returns-then-entry-rows : goal.returns-then-entry-rows
returns-then-entry-rows g c =
    let k = g.K.PatternKind in
    met_no_row (k.meaning (k.book c.args.kind.now)) c.args.case c.args.entries.now c.args.number c.in-Some.entry.now
    (ltb-true c.args.number (length c.args.entries.now) (sym c.in-Some.ensures.lookup.0))
    c.in-Some.ensures.lookup.1
    (omega arith)

pub returns-in-Malformed : goal.returns-in-Malformed
returns-in-Malformed g c =
    let k = g.K.PatternKind in
    met_malformed (k.meaning (k.book c.args.kind.now)) c.args.case c.args.entries.now c.args.number c.in-Some.entry.now
    (ltb-true c.args.number (length c.args.entries.now) (sym c.in-Some.ensures.lookup.0))
    c.in-Some.ensures.lookup.1
    (omega arith)
    (rw (← c.deref.ensures.value) (sym c.in-Malformed.ensures))

pub returns-in-DoesNotCover : goal.returns-in-DoesNotCover
returns-in-DoesNotCover g c =
    let k = g.K.PatternKind in
    met_uncovered (k.meaning (k.book c.args.kind.now)) c.args.case c.args.entries.now c.args.number c.in-Some.entry.now
    (ltb-true c.args.number (length c.args.entries.now) (sym c.in-Some.ensures.lookup.0))
    c.in-Some.ensures.lookup.1
    (omega arith)
    (rw (← c.deref.ensures.value) (sym c.in-DoesNotCover.ensures))

pub returns-in-Covers : goal.returns-in-Covers
returns-in-Covers g c =
    let k = g.K.PatternKind in
    met_right (k.meaning (k.book c.args.kind.now)) c.args.case c.args.entries.now c.args.number c.in-Some.entry.now
    (ltb-true c.args.number (length c.args.entries.now) (sym c.in-Some.ensures.lookup.0))
    c.in-Some.ensures.lookup.1
    (omega arith)
    (rw (← c.deref.ensures.value) (sym c.in-Covers.ensures))
