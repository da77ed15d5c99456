use Rattle.std.proofs.Common.{List, ℕ, subst}
use Rattle.atoms.specs.Data.{pattern_of}
use Rattle.atoms.specs.Cells.{state_of}
use Rattle.atoms.specs.Placing.{Outcome}
use Rattle.atoms.proofs.Setting.{all_held}
use Rattle.atoms.proofs.Standing.{stands_decided}
use Rattle.atoms.proofs.book.Row.stands_in.Goals as goal

pub returns : goal.returns
returns c =
    let p = pattern_of c.args.self.now in
    let s = state_of c.args.cells.now in
    stands_decided p s c.requires (all_held c.args.cells.now) c.place.new.placed.items c.place.result
    (subst (λ (before : List ℕ). Outcome p s before c.place.new.placed.items c.place.result) c.new.ensures c.place.ensures)
