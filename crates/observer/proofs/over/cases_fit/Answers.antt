use Rattle.std.proofs.Common.{rules, ℕ, ◌*◌, ◌<◌}
use Rattle.std.proofs.lemmas.Iterator.{cases_from_all, YieldsList-from_slice}
use borrow.Author.Tests.{tests}
use Rattle.pattern.specs.Duty.{CasesAllowed}
use Rattle.pattern.proofs.Searching.{all_in_list}
use Rattle.observer.specs.Mode.{mode_count}
use Rattle.observer.specs.declared.mode.Mode.TheVariants.{Zero}
use Rattle.observer.specs.declared.mode.ObserverRow.{ObserverRow}
use Rattle.observer.proofs.over.cases_fit.Goals as goal

pub returns : goal.returns
returns g c =
    let k = g.K.PatternKind in
    let m = k.meaning (k.book c.args.below.now) in
    let Fits : ObserverRow → Type 0 = λ row. (rule : ℕ) → rule < m.rules → CasesAllowed (mode_count * m.cases row.below rule) in
    all_in_list Fits c.args.rows.now (record { below = 0; mode = Zero }) c.all.result
    (cases_from_all _ _ _ Fits (λ row. Fits row → ⊥) c.all.ensures.ran (YieldsList-from_slice c.args.rows.now cc) (λ x q w. search (rules, tests)) (λ x q w. search (rules, tests)))
