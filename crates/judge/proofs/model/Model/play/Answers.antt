use Rattle.std.proofs.Common.{◌≡◌, length, vec_items, sym, refl, ◌∙◌, arith}
use Rattle.pattern.specs.Call.{none}
use Rattle.judge.proofs.Guarding.{never_seen}
use Rattle.judge.proofs.Playing.{played_more, played_all}
use Rattle.judge.proofs.model.Model.play.Goals as goal

pub loop-call-init : goal.loop-call-init
loop-call-init g c =
    let made = c.in_ok-answers.ensures in
    (refl, made.len, made.capacity, none)

pub loop-call-preserved : goal.loop-call-preserved
loop-call-preserved g c =
    let k = g.K.PatternKind in
    let inv = c.loop-call.invariant in
    let made : length (vec_items c.loop-call.answers) ≡ c.loop-call.call-index = sym c.loop-call.answers.ok.0 ∙ inv.1 in (
      c.perform.ensures.same ∙ inv.0,
      omega (arith, c.push_reserved.ensures.len, inv.1),
      omega (arith, c.push_reserved.ensures.capacity, inv.2),
      rw c.push_reserved.ensures.items
          (played_more k.meaning (k.book c.args.self.now.kind) (k.book c.loop-call.self.kind) c.args.calls.now (vec_items c.loop-call.answers) c.loop-call.call-index c.call-item.result c.perform.result
          (k.state c.args.self.now.kind) (k.state c.loop-call.self.kind) (k.state c.perform.new.self.kind) inv.0 c.loop-call-test.true made inv.3 (rw c.call-item.is at c.perform.ensures.called)),
    )

pub returns : goal.returns
returns g c =
    let k = g.K.PatternKind in
    let inv = c.loop-call.invariant in
    record {
      same = inv.0;
      answers = omega (arith, inv.1);
      played = played_all (k.meaning (k.book c.args.self.now.kind)) c.args.calls.now (vec_items c.loop-call.answers) c.loop-call.call-index (k.state c.args.self.now.kind) (k.state c.loop-call.self.kind) (omega arith) inv.3;
      no_fault = never_seen (k.meaning (k.book c.args.self.now.kind)) c.args.self.now.guarded (played_all (k.meaning (k.book c.args.self.now.kind)) c.args.calls.now (vec_items c.loop-call.answers) c.loop-call.call-index (k.state c.args.self.now.kind) (k.state c.loop-call.self.kind) (omega arith) inv.3);
      unmoved = tt;
    }
