use Rattle.std.proofs.Common.{Ok, Err, refl, ap, ◌∙◌}
use Rattle.std.proofs.lemmas.Result.{err_from_is_err_and}
use Rattle.judge.specs.Acceptance.{claims}
use Rattle.records.specs.Fault.{form_of}
use Rattle.drafting.specs.Drafted.{draft_book_of, layers_of, progress_of}
use Rattle.reader.specs.Dossier.{dossier_of}
use Rattle.dossier.specs.Meaning.{FileBook, book_meaning, kind_book}
use Rattle.dossier.proofs.Piling.{observers_in}
use Rattle.dossier.proofs.Lawful.{law_of, fault_law, accepted_law, refused_law}
use Rattle.dossier.proofs.opening.open.Goals as goal

pub returns-in_err-book : goal.returns-in_err-book
returns-in_err-book c =
    let p = err_from_is_err_and c.from_residual.result c.from_residual.ensures.1 in
    let e = c.in_err-book.ensures in
    record {
      law = rw (p.1, p.2) (fault_law c.args.bytes.now e.alone (form_of c.in_err-book.field-0.0) e.reads);
      opens = rw p.1 tt;
    }

pub build-requires : goal.build-requires
build-requires c =
    let d = c.in_ok-book.field-0 in
    let r = c.in_ok-book.ensures.ranged in
    record { in_range = r.book_in; observers = observers_in (draft_book_of d.book) (layers_of d.layers) r.book_in r.few_layers r.layers_in }

pub returns-in_err-new : goal.returns-in_err-new
returns-in_err-new c =
    let d = c.in_ok-book.field-0 in
    let e = c.in_ok-book.ensures in
    let n = c.in_err-new.ensures in
    let refusal = c.in_err-new.field-0.0.refusal in
    let p = err_from_is_err_and c.from_residual-in_err-new.result c.from_residual-in_err-new.ensures.1 in
    record {
      law = rw (p.1, p.2) (refused_law c.args.bytes.now e.alone (progress_of d) e.reads refusal (law_of (dossier_of (progress_of d)) (kind_book c.in_ok-kind.kind) (claims c.deref.result.now) (Err refusal) c.in_ok-kind.ensures (ap claims c.deref.ensures.value) n.law));
      opens = rw p.1 tt;
    }

pub returns : goal.returns
returns c =
    let d = c.in_ok-book.field-0 in
    let e = c.in_ok-book.ensures in
    let n = c.in_ok-new.ensures in
    let b = c.in_ok-kind.ensures in
    record {
      law = accepted_law c.args.bytes.now e.alone (progress_of d) e.reads (law_of (dossier_of (progress_of d)) (kind_book c.in_ok-kind.kind) (claims c.deref.result.now) (Ok tt) b (ap claims c.deref.ensures.value) n.law);
      opens = (dossier_of (progress_of d), (progress_of d, e.reads, refl), n.opens.0 ∙ b, n.opens.1 ∙ ap (λ (x : FileBook). (book_meaning x).opening) b);
    }
