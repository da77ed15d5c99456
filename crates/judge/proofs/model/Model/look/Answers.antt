use Rattle.judge.proofs.Guarding.{says_no}
use Rattle.judge.proofs.model.Model.look.Goals as goal

pub returns-clause-no_fault : goal.returns-clause-no_fault
returns-clause-no_fault g c =
    let k = g.K.PatternKind in
    says_no (k.meaning (k.book c.args.self.now.kind)) (k.state c.args.self.now.kind) c.args.row c.look.result c.args.self.now.guarded c.look.ensures
