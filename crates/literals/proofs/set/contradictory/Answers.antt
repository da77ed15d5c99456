use Rattle.literals.proofs.Following.{sound}
use Rattle.literals.proofs.set.contradictory.Goals as goal

pub returns-clause-sound : goal.returns-clause-sound
returns-clause-sound c = sound c.args.literals.now
