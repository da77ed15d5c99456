use Rattle.std.proofs.Common.{rules}
use Rattle.line.proofs.Short.{short}
use Rattle.line.proofs.verdict.Verdict.line.Goals as goal

pub returns : goal.returns
returns c = record { bytes = search rules; short = short c.args.self }
