use Rattle.std.proofs.Common.{arith}
use Rattle.dossier.proofs.Bounding.{reported, fitting}
use Rattle.dossier.proofs.reporting.report.Goals as goal

pub returns : goal.returns
returns c =
    let v = c.in_ok-verdict.ensures in
    record {
      reported = reported c.args.bytes.now c.in_ok-verdict.verdict c.args.buffer.now c.write_line.new.buffer c.write_line.result (omega arith) v.law v.bounded c.write_line.ensures;
      fits = fitting c.args.bytes.now c.in_ok-verdict.verdict c.args.buffer.now c.write_line.new.buffer c.write_line.result (omega arith) v.bounded c.write_line.ensures;
    }
