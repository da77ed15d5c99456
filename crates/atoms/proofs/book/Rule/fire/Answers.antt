use Rattle.std.proofs.Common.{List, sym, ap, ◌∙◌, subst}
use Rattle.std.specs.List.{AllByRecursion}
use Rattle.std.proofs.lemmas.Result.{err_from_is_err_and}
use Rattle.literals.specs.declared.Literal.{Literal}
use Rattle.atoms.specs.Book.{object_count}
use Rattle.atoms.specs.Range.{LiteralIn}
use Rattle.atoms.specs.Fire.{after}
use Rattle.atoms.specs.Data.{transition_of}
use Rattle.atoms.specs.Cells.{state_of}
use Rattle.atoms.proofs.Setting.{all_held}
use Rattle.atoms.proofs.Firing.{effect_in, refusing, firing}
use Rattle.atoms.proofs.book.Rule.fire.Goals as goal

pub returns-in_err-check : goal.returns-in_err-check
returns-in_err-check c =
    let p = err_from_is_err_and c.from_residual.result c.from_residual.ensures.1 in
    rw (p.1, p.2) (refusing (transition_of c.args.self.now) (state_of c.args.cells.now) c.args.choice.now c.in_err-check.field-0.0 c.in_err-check.ensures)

pub change-requires : goal.change-requires
change-requires c =
    subst (λ (ls : List Literal). AllByRecursion (LiteralIn object_count) ls) (sym c.effect_under.ensures)
    (effect_in (transition_of c.args.self.now) c.args.choice.now c.requires c.in_ok-check.ensures.0)

pub returns : goal.returns
returns c =
    firing (transition_of c.args.self.now) (state_of c.args.cells.now) c.args.choice.now (state_of c.change.new.self) c.in_ok-check.ensures
    (c.change.ensures ∙ ap (λ (ls : List Literal). after ls (state_of c.args.cells.now)) c.effect_under.ensures)
    (all_held c.change.new.self)
