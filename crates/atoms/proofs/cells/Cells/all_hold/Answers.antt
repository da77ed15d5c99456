use Rattle.std.proofs.Common.{get_or, rules}
use Rattle.std.proofs.lemmas.Iterator.{YieldsList-from_slice, cases_from_all}
use borrow.Author.Tests.{tests}
use Rattle.literals.specs.declared.literal.Literal.{Literal}
use Rattle.literals.specs.State.{Holds, under}
use Rattle.atoms.specs.Cells.{state_of}
use Rattle.atoms.proofs.Deciding.{mapped_decides, all_decided}
use Rattle.atoms.proofs.cells.Cells.all_hold.Goals as goal

pub returns : goal.returns
returns c =
    let ls = c.args.literals.now.literals.now in
    let f : Literal → Literal = under (λ x. get_or c.args.literals.now.names.now x 0) in
    let P : Literal → Type 0 = λ l. Holds (state_of c.args.self.now) (f l) in
    mapped_decides (Holds (state_of c.args.self.now)) f ls c.all.result
    (all_decided P ls c.all.result (cases_from_all _ _ _ P (λ l. P l → ⊥) c.all.ensures.ran (YieldsList-from_slice ls c.iter.ensures.rest) (λ x q k. search (rules, tests)) (λ x q k. search (rules, tests))))
