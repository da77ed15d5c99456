use Rattle.std.proofs.Common.{rules, vec_items, ◌∙◌}
use Rattle.std.proofs.lemmas.Iterator.{YieldsList-from_slice, cases_from_all}
use borrow.Author.Tests.{tests}
use Rattle.atoms.specs.declared.book.Rule.{Rule}
use Rattle.atoms.specs.Range.{RuleIn}
use Rattle.atoms.specs.Data.{transition_of}
use Rattle.atoms.proofs.Deciding.{mapped_decides, all_decided}
use Rattle.atoms.proofs.book.Book.rules_in_range.Goals as goal

pub returns : goal.returns
returns c =
    let xs = vec_items c.args.self.now.rules in
    let P : Rule → Type 0 = λ x. RuleIn (transition_of x) in
    mapped_decides RuleIn transition_of xs c.all.result
    (all_decided P xs c.all.result (cases_from_all _ _ _ P (λ x. P x → ⊥) c.all.ensures.ran (YieldsList-from_slice xs (c.iter.ensures.rest ∙ c.deref.ensures.value)) (λ x q k. search (rules, tests)) (λ x q k. search (rules, tests))))
