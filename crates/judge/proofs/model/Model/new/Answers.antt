use Rattle.std.proofs.Common.{Ok, Err, refl}
use Rattle.judge.specs.Acceptance.{claims}
use Rattle.judge.proofs.Safe.{opening_guarded}
use Rattle.judge.proofs.Lawful.{law}
use Rattle.judge.proofs.model.Model.new.Goals as goal

pub returns-in-Ok : goal.returns-in-Ok
returns-in-Ok g c =
    let k = g.K.PatternKind in
    record {
      law = law (k.meaning (k.book c.args.kind)) (g.met.K.PatternKind.duties c.args.kind) (claims c.args.entries.now) (Ok tt) c.in-Ok.ensures;
      opens = (c.restart.ensures.same, c.restart.ensures.back);
      hands_back = tt;
    }

pub returns-in-Err : goal.returns-in-Err
returns-in-Err g c =
    let k = g.K.PatternKind in
    record {
      law = law (k.meaning (k.book c.args.kind)) (g.met.K.PatternKind.duties c.args.kind) (claims c.args.entries.now) (Err c.in-Err.refusal) c.in-Err.ensures;
      opens = tt;
      hands_back = refl;
    }

pub invariant_of-result : goal.invariant_of-result
invariant_of-result g c =
    let k = g.K.PatternKind in
    let opening = opening_guarded (k.meaning (k.book c.args.kind)) (g.met.K.PatternKind.duties c.args.kind) (claims c.args.entries.now) c.in-Ok.ensures.judged in
    record { guarded = rw (c.restart.ensures.same, c.restart.ensures.back) opening }
