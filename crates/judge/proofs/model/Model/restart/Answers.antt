use Rattle.judge.proofs.Guarding.{restarted}
use Rattle.judge.proofs.model.Model.restart.Goals as goal

pub invariant_of-self : goal.invariant_of-self
invariant_of-self g c =
    let k = g.K.PatternKind in
    record { guarded = rw (c.restart.ensures.same, c.restart.ensures.back) (restarted (k.meaning (k.book c.args.self.now.kind)) c.args.self.now.guarded) }
