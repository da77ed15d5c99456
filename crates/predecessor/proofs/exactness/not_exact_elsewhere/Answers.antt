use Rattle.std.proofs.Common.{refl}
use Rattle.predecessor.proofs.Inexact.{another_remains, last_goes}
use Rattle.predecessor.proofs.exactness.not_exact_elsewhere.Goals as goal

pub returns : goal.returns
returns c = record { remains = (refl, another_remains); last = (refl, last_goes) }
