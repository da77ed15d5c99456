use Rattle.std.proofs.Common.{◌≡◌, false, rules, slice_index}
use Rattle.std.proofs.lemmas.Bool.{and_left}
use Rattle.records.proofs.Unmapped.{err_before}
use Rattle.bodies.specs.Literal.{kind_in}
use Rattle.bodies.proofs.Numbering.{unknown}
use Rattle.bodies.proofs.literal.read_literal.Goals as goal

pub returns-in_err-kind : goal.returns-in_err-kind
returns-in_err-kind c =
    let out : kind_in c.args.role (slice_index c.args.four 0) ≡ false = and_left _ _ (unknown _ (err_before _ _ c.try_from.result c.map_err.result _ c.in_err-kind.was c.map_err.ensures.variant c.try_from.ensures)) in
    search (rules, out)
