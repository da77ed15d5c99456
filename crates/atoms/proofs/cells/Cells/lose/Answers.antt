use Rattle.std.proofs.Common.{◌≡◌, sym, ap, ◌∙◌, arith}
use Rattle.literals.specs.declared.Fact.{Fact}
use Rattle.literals.specs.declared.Fact.TheVariants.{Unary, Binary, From, Into}
use Rattle.literals.specs.State.{relation_of}
use Rattle.atoms.specs.Cells.{state_of, loses}
use Rattle.atoms.proofs.Setting.{unary_lost, binary_lost, from_lost, into_lost, none_lost}
use Rattle.atoms.proofs.cells.Cells.lose.Goals as goal

pub returns-then-relation-ge-RELATIONS : goal.returns-then-relation-ge-RELATIONS
returns-then-relation-ge-RELATIONS c = none_lost c.args.self.now c.args.fact (omega (arith, c.relation.ensures))

pub returns-in-Unary : goal.returns-in-Unary
returns-in-Unary c =
    let w = c.in-Unary in
    let is : c.args.fact ≡ Unary c.from.result w.x = rw c.from.ensures w.is in
    let within = c.relation.ensures ∙ ap relation_of is in
    unary_lost c.args.self.now c.from.result (omega (arith, within)) _ (omega (arith, within)) w.x c.remove.ensures ∙ ap (λ (f : Fact). loses f (state_of c.args.self.now)) (sym is)

pub returns-in-Binary : goal.returns-in-Binary
returns-in-Binary c =
    let w = c.in-Binary in
    let is : c.args.fact ≡ Binary c.from-in-Binary.result w.x w.y = rw c.from-in-Binary.ensures w.is in
    let within = c.relation.ensures ∙ ap relation_of is in
    binary_lost c.args.self.now c.from-in-Binary.result (omega (arith, within)) _ (omega (arith, within)) w.x w.y c.remove-in-Binary.ensures ∙ ap (λ (f : Fact). loses f (state_of c.args.self.now)) (sym is)

pub returns-in-From : goal.returns-in-From
returns-in-From c =
    let w = c.in-From in
    let is : c.args.fact ≡ From c.from-in-From.result w.x = rw c.from-in-From.ensures w.is in
    let within = c.relation.ensures ∙ ap relation_of is in
    from_lost c.args.self.now c.from-in-From.result (omega (arith, within)) _ (omega (arith, within)) w.x c.remove_from.ensures ∙ ap (λ (f : Fact). loses f (state_of c.args.self.now)) (sym is)

pub returns-in-Into : goal.returns-in-Into
returns-in-Into c =
    let w = c.in-Into in
    let is : c.args.fact ≡ Into c.from-in-Into.result w.x = rw c.from-in-Into.ensures w.is in
    let within = c.relation.ensures ∙ ap relation_of is in
    into_lost c.args.self.now c.from-in-Into.result (omega (arith, within)) _ (omega (arith, within)) w.x c.remove_into.ensures ∙ ap (λ (f : Fact). loses f (state_of c.args.self.now)) (sym is)
