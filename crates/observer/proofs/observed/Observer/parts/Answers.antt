use Rattle.std.proofs.Common.{◌/◌, ◌^◌, ◌<◌, arith}
use Rattle.std.proofs.lemmas.Nat.{div_below}
use Rattle.observer.specs.Mode.{mode_count}
use Rattle.observer.proofs.observed.Observer.parts.Goals as goal

pub overflow_cast-case : goal.overflow_cast-case
overflow_cast-case g c =
    let few : c.args.case.number / c.cases-count.result < mode_count = div_below c.args.case.number c.cases-count.result mode_count (omega arith) (omega arith) in
    let h : c.args.case.number / c.cases-count.result < 2 ^ 8 = omega arith in
    omega arith
