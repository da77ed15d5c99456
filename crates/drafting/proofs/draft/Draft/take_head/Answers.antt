use Rattle.std.proofs.Common.{◌≡◌, false, rules}
use Rattle.records.specs.declared.RecordKind.TheVariants.{Head}
use Rattle.records.proofs.Unmapped.{err_before}
use Rattle.drafting.specs.Progress.{ranged}
use Rattle.drafting.specs.Drafted.{progress_of}
use Rattle.drafting.proofs.Heads.{no_book}
use Rattle.drafting.proofs.draft.Draft.take_head.Goals as goal

pub returns-in_err-kind : goal.returns-in_err-kind
returns-in_err-kind c =
    let out : ranged (progress_of c.args.self) Head c.args.body.bytes.now ≡ false = no_book (progress_of c.args.self) c.args.body.bytes.now (err_before _ _ c.try_from-2.result c.map_err-2.result _ c.in_err-kind.was c.map_err-2.ensures.variant c.try_from-2.ensures) in
    search (rules, out)
