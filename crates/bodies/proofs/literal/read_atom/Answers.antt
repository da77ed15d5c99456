use Rattle.std.proofs.Common.{refl, slice_index, subst}
use Rattle.literals.specs.Number.{KindNumbered}
use Rattle.bodies.proofs.Numbering.{no_atom}
use Rattle.bodies.proofs.literal.read_atom.Goals as goal

pub returns-in_default-4 : goal.returns-in_default-4
returns-in_default-4 c =
    let of = slice_index c.args.four in
    (refl, no_atom (of 0) (of 1) (of 2) (of 3) (subst (KindNumbered (of 0)) c.in_default.is c.try_from.ensures).1)
