use Rattle.std.proofs.Common.{rules, [], vec_items}
use Rattle.std.proofs.lemmas.Iterator.{cases_from_all, YieldsList-from_slice}
use borrow.Author.Tests.{tests}
use Rattle.counts.specs.Data.{least_of}
use Rattle.counts.specs.Range.{RowFits}
use Rattle.counts.specs.declared.net.Row.{Row}
use Rattle.counts.proofs.Reading.{all_mapped}
use Rattle.counts.proofs.net.Net.rows_fit.Goals as goal

pub returns : goal.returns
returns c =
    let Fits : Row → Type 0 = λ x. RowFits c.args.places (least_of x) in
    all_mapped least_of (RowFits c.args.places) ([]) (vec_items c.args.self.now.rows) c.all.result
    (cases_from_all _ _ _ Fits (λ x. Fits x → ⊥) c.all.ensures.ran (YieldsList-from_slice (vec_items c.args.self.now.rows) cc) (λ x q w. search (rules, tests)) (λ x q w. search (rules, tests)))
