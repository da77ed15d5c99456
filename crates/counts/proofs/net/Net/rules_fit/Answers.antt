use Rattle.std.proofs.Common.{rules, [], vec_items}
use Rattle.std.proofs.lemmas.Iterator.{cases_from_all, YieldsList-from_slice}
use borrow.Author.Tests.{tests}
use Rattle.counts.specs.Data.{transition_of}
use Rattle.counts.specs.Range.{RuleFits}
use Rattle.counts.specs.declared.net.Rule.{Rule}
use Rattle.counts.proofs.Reading.{all_mapped}
use Rattle.counts.proofs.net.Net.rules_fit.Goals as goal

pub returns : goal.returns
returns c =
    let Fits : Rule → Type 0 = λ x. RuleFits c.args.places (transition_of x) in
    all_mapped transition_of (RuleFits c.args.places) (record { takes = []; gives = [] }) (vec_items c.args.self.now.rules) c.all.result
    (cases_from_all _ _ _ Fits (λ x. Fits x → ⊥) c.all.ensures.ran (YieldsList-from_slice (vec_items c.args.self.now.rules) cc) (λ x q w. search (rules, tests)) (λ x q w. search (rules, tests)))
