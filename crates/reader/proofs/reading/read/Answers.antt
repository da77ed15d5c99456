use Rattle.std.proofs.Common.{◌≡◌, ◌+◌, length, Ok, Err, sym, refl, ap, ◌∙◌, subst, arith, rules}
use Rattle.std.proofs.lemmas.List.{length-drop}
use Rattle.std.proofs.lemmas.Result.{err_from_is_err_and}
use Rattle.std.proofs.lemmas.Bool.{eqb-true, eqb-false}
use Rattle.std.proofs.lemmas.Bool.Decides.{not_from_Decides}
use Rattle.records.specs.declared.RecordFault.TheVariants.{KindNotAllowed}
use Rattle.records.specs.Bytes.{length_at}
use Rattle.records.specs.Number.{record_number, NoRecord}
use Rattle.records.proofs.Unmapped.{err_before}
use Rattle.drafting.specs.Drafted.{progress_of}
use Rattle.drafting.proofs.Taking.{answered_of, fault_of}
use Rattle.reader.specs.Form.{At, begins, too_long}
use Rattle.reader.proofs.InForm.{left_after_end, cut, unknown, refused, read_on}
use Rattle.reader.proofs.Well.{WellAt, well, in_range}
use Rattle.reader.proofs.Holding.{holds, fault_in}
use Rattle.reader.proofs.EncodingLaw.{octets}
use Rattle.reader.proofs.reading.read.Goals as goal

pub returns-then-bytes-gt-MAX_BYTES-clause-reads : goal.returns-then-bytes-gt-MAX_BYTES-clause-reads
returns-then-bytes-gt-MAX_BYTES-clause-reads c = too_long (omega arith)

pub records-init : goal.records-init
records-init c = record { before = subst (At c.args.books c.args.bytes.now 0) (sym c.new-draft.ensures) begins; within = omega arith; rest_is = refl }

pub returns-in_err-number-clause-reads : goal.returns-in_err-number-clause-reads
returns-in_err-number-clause-reads c =
    let p = err_from_is_err_and c.from_residual.result c.from_residual.ensures.1 in
    let unended = not_from_Decides c.ended.result c.ended.ensures c.records-test.true in
    let e = c.in_err-number.ensures in
    rw (p.1, p.2, e.0) (cut c.records.invariant (omega arith) unended e.1)

pub returns-in_err-kind-clause-reads : goal.returns-in_err-kind-clause-reads
returns-in_err-kind-clause-reads c =
    let p = err_from_is_err_and c.from_residual-in_err-kind.result c.from_residual-in_err-kind.ensures.1 in
    let unended = not_from_Decides c.ended.result c.ended.ensures c.records-test.true in
    let e = c.in_ok-number.ensures in
    let none : NoRecord c.in_ok-number.number = err_before _ _ c.try_from.result c.map_err.result _ c.in_err-kind.was c.map_err.ensures.variant c.try_from.ensures in
    let fault : c.in_err-kind.field-0.0 ≡ KindNotAllowed c.records.place = search rules in
    rw (p.1, p.2, fault) (unknown c.records.invariant (omega arith) unended e.0 (λ k h. none k (h ∙ sym e.1)))

pub returns-in_err-draft-clause-reads : goal.returns-in_err-draft-clause-reads
returns-in_err-draft-clause-reads c =
    let p = err_from_is_err_and c.from_residual-in_err-draft.result c.from_residual-in_err-draft.ensures.1 in
    let unended = not_from_Decides c.ended.result c.ended.ensures c.records-test.true in
    let e = c.in_ok-number.ensures in
    let kind : record_number c.in_ok-kind.kind ≡ c.in_ok-number.number = search rules in
    let made = c.new.ensures in
    rw (p.1, p.2) (refused c.records.invariant (omega arith) unended e.0 c.in_ok-kind.kind (sym e.1 ∙ sym kind) c.in_ok-number.body.bytes.now e.3 e.4 c.in_err-draft.field-0.0
    (answered_of (progress_of c.records.draft) c.new.result c.in_ok-kind.kind c.in_ok-number.body.bytes.now c.records.place (Err c.in_err-draft.field-0.0) made.0 made.2 (made.1 ∙ e.2) c.in_err-draft.ensures))

pub returns-in_err-draft-clause-faulted : goal.returns-in_err-draft-clause-faulted
returns-in_err-draft-clause-faulted c =
    let p = err_from_is_err_and c.from_residual-in_err-draft.result c.from_residual-in_err-draft.ensures.1 in
    rw (p.1, p.2) (fault_in c.records.invariant.before c.in_err-draft.field-0.0 (fault_of (progress_of c.records.draft) _ _ _ c.in_err-draft.field-0.0 c.in_err-draft.ensures))

pub records-smaller : goal.records-smaller
records-smaller c =
    let e = c.in_ok-number.ensures in
    omega (arith, e.0, ap length e.5, length-drop (4 + length_at c.records.rest.now) c.records.rest.now)

pub records-preserved : goal.records-preserved
records-preserved c =
    let unended = not_from_Decides c.ended.result c.ended.ensures c.records-test.true in
    let e = c.in_ok-number.ensures in
    let kind : record_number c.in_ok-kind.kind ≡ c.in_ok-number.number = search rules in
    let made = c.new.ensures in
    read_on c.records.invariant (omega arith) unended e.0 c.in_ok-kind.kind (sym e.1 ∙ sym kind) c.in_ok-number.body.bytes.now e.3 e.4 c.in_ok-draft.draft c.in_ok-number.after.now e.5
    (answered_of (progress_of c.records.draft) c.new.result c.in_ok-kind.kind c.in_ok-number.body.bytes.now c.records.place (Ok c.in_ok-draft.draft) made.0 made.2 (made.1 ∙ e.2) c.in_ok-draft.ensures)

pub returns-then-is_empty-clause-reads : goal.returns-then-is_empty-clause-reads
returns-then-is_empty-clause-reads c =
    let inv = c.records.invariant in
    let none : length c.records.rest.now ≡ 0 = eqb-true (length c.records.rest.now) 0 (sym c.is_empty.ensures ∙ c.if-is_empty.true) in
    let all : c.records.place ≡ length c.args.bytes.now = omega (arith, none, inv.within, ap length inv.rest_is, length-drop c.records.place c.args.bytes.now) in
    record { short = omega arith; read = rw all at inv.before; ended = c.ended.ensures.0 c.records-test.false }

pub returns-then-is_empty-clause-ranged : goal.returns-then-is_empty-clause-ranged
returns-then-is_empty-clause-ranged c =
    in_range (progress_of c.records.draft) (subst (WellAt (progress_of c.records.draft)) (c.ended.ensures.0 c.records-test.false) (well c.args.bytes.now (octets c.args.bytes.now c.type_inv.bytes) c.records.invariant.before))

pub returns-then-is_empty-clause-held : goal.returns-then-is_empty-clause-held
returns-then-is_empty-clause-held c = holds c.records.invariant.before

pub returns-else-is_empty-clause-reads : goal.returns-else-is_empty-clause-reads
returns-else-is_empty-clause-reads c =
    let some : length c.records.rest.now ≡ 0 → ⊥ = eqb-false (length c.records.rest.now) 0 (sym c.is_empty.ensures ∙ c.if-is_empty.false) in
    left_after_end c.records.invariant (omega arith) (c.ended.ensures.0 c.records-test.false) (omega arith)
