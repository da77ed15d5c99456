use Rattle.std.proofs.Common.{sym, ap, ◌∙◌, inl, inr}
use Rattle.either_kind.specs.Kind.{either_of}
use Rattle.either_kind.specs.Sides.{left_fired, right_fired}
use Rattle.either_kind.proofs.kind.EitherPatternKind.fire.Goals as goal

pub returns-in-Left : goal.returns-in-Left
returns-in-Left g c =
    let a = g.A.PatternKind in
    let b = g.B.PatternKind in
    record {
      same = ap inl c.fire.ensures.same ∙ sym (ap (either_of a.book b.book) c.in-Left.is);
      fired = left_fired a.meaning b.meaning a.book b.book a.state b.state c.args.self.now c.args.rule c.args.choice.now c.fire.result c.in-Left.a (a.state c.fire.new.self) c.in-Left.is c.fire.ensures.fired;
    }

pub returns-in-Right : goal.returns-in-Right
returns-in-Right g c =
    let a = g.A.PatternKind in
    let b = g.B.PatternKind in
    record {
      same = ap inr c.fire-in-Right.ensures.same ∙ sym (ap (either_of a.book b.book) c.in-Right.is);
      fired = right_fired a.meaning b.meaning a.book b.book a.state b.state c.args.self.now c.args.rule c.args.choice.now c.fire-in-Right.result c.in-Right.b (b.state c.fire-in-Right.new.self) c.in-Right.is c.fire-in-Right.ensures.fired;
    }
