use Rattle.std.proofs.Common.{◌≡◌, ◌≤◌, length, take, vec_items, vec_len, vec_capacity}
use Rattle.pattern.specs.Call.{Calls}
use Rattle.judge.specs.Play.{log_of}
use Rattle.judge.proofs.model.Model.play.Given as goal

abbrev pub invariant-loop-call : goal.invariant-loop-call
invariant-loop-call g l =
    let k = g.K.PatternKind in
    (k.book l.self.kind ≡ k.book l.initial.self.kind)
    × (vec_len l.answers ≡ l.call-index)
    × (length l.calls ≤ vec_capacity l.answers)
    × Calls (k.meaning (k.book l.initial.self.kind)) (k.state l.initial.self.kind) (log_of (take l.call-index l.calls) (vec_items l.answers)) (k.state l.self.kind)
