use Rattle.std.proofs.Common.{◌≡◌, sym, ap, ◌∙◌, subst, arith}
use Rattle.literals.specs.declared.Fact.{Fact}
use Rattle.literals.specs.declared.Fact.TheVariants.{Unary, Binary}
use Rattle.atoms.specs.Book.{object_count}
use Rattle.atoms.specs.Range.{FactIn}
use Rattle.atoms.specs.Cells.{state_of, gains}
use Rattle.atoms.proofs.Setting.{unary_gained, binary_gained}
use Rattle.atoms.proofs.cells.Cells.gain.Goals as goal

pub returns-in-Unary : goal.returns-in-Unary
returns-in-Unary c =
    let w = c.in-Unary in
    let is : c.args.fact ≡ Unary c.from.result w.x = rw c.from.ensures w.is in
    let h = subst (FactIn object_count) is c.requires in
    unary_gained c.args.self.now c.from.result h.0 _ (omega (arith, h.0)) w.x c.insert.ensures ∙ ap (λ (f : Fact). gains f (state_of c.args.self.now)) (sym is)

pub returns-in-Binary : goal.returns-in-Binary
returns-in-Binary c =
    let w = c.in-Binary in
    let is : c.args.fact ≡ Binary c.from-in-Binary.result w.x w.y = rw c.from-in-Binary.ensures w.is in
    let h = subst (FactIn object_count) is c.requires in
    binary_gained c.args.self.now c.from-in-Binary.result h.0 _ (omega (arith, h.0)) w.x w.y c.insert-in-Binary.ensures ∙ ap (λ (f : Fact). gains f (state_of c.args.self.now)) (sym is)
