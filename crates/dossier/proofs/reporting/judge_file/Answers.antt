use Rattle.line.specs.declared.Verdict.TheVariants.{Accept}
use Rattle.dossier.specs.Opened.{verdict_without}
use Rattle.dossier.proofs.Bounding.{bounded, given_law, made_bounded}
use Rattle.dossier.proofs.reporting.judge_file.Goals as goal
use Rattle.dossier.proofs.reporting.judge_file.Goals.{in-Ok, in-Err}

pub returns : goal.returns
returns c = elim c.match-open.branch [
  | in-Ok w ↦ let law = w.in-Ok.ensures.law in rw w.result-is (record { law = law; bounded = bounded c.args.bytes.now Accept law })
  | in-Err w ↦ let law = given_law c.args.bytes.now (verdict_without w.in-Err.without) w.verdict.result w.verdict.ensures w.in-Err.ensures.law in rw w.result-is (record { law = law; bounded = made_bounded c.args.bytes.now w.verdict.result law })
]
