use Rattle.judge.proofs.Guarding.{fired}
use Rattle.judge.proofs.model.Model.fire.Goals as goal

pub invariant_of-self : goal.invariant_of-self
invariant_of-self g c =
    let k = g.K.PatternKind in
    let before = c.args.self.now.kind in
    record { guarded = rw c.fire.ensures.same (fired (k.meaning (k.book before)) (k.state before) (k.state c.fire.new.self) c.args.rule c.args.choice.now c.fire.result c.args.self.now.guarded c.fire.ensures.fired) }
