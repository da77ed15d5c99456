use Rattle.std.proofs.Common.{ap, ◌∙◌}
use Rattle.literals.specs.Renamed.{renamed}
use Rattle.atoms.specs.Cells.{lost}
use Rattle.atoms.proofs.cells.Cells.change.Goals as goal

pub returns : goal.returns
returns c = c.lose_all.ensures ∙ ap (lost (renamed c.args.effect.now)) c.gain_all.ensures
