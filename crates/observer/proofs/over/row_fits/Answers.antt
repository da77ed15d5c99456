use Rattle.std.proofs.Common.{rules, ◌*◌, arith, refl}
use Rattle.std.proofs.lemmas.Iterator.{cases_from_all, YieldsList-from_range}
use borrow.Author.Tests.{tests}
use Rattle.pattern.specs.Duty.{CasesAllowed}
use Rattle.pattern.proofs.Searching.{all_below}
use Rattle.observer.specs.Mode.{mode_count}
use Rattle.observer.proofs.over.row_fits.Goals as goal

pub returns : goal.returns
returns g c =
    let k = g.K.PatternKind in
    let m = k.meaning (k.book c.args.below.now) in
    rw (← c.rules.ensures)
    (all_below (λ rule. CasesAllowed (mode_count * m.cases c.args.row rule)) c.rules.result c.all.result
    (cases_from_all _ _ _ (λ rule. CasesAllowed (mode_count * m.cases c.args.row rule)) (λ rule. CasesAllowed (mode_count * m.cases c.args.row rule) → ⊥) c.all.ensures.ran (YieldsList-from_range 0 c.rules.result c.rules.result refl (omega arith)) (λ x q w. search (rules, tests)) (λ x q w. search (rules, tests))))
