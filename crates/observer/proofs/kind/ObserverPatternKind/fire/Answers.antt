use Rattle.std.proofs.Common.{vec_items, ap}
use Rattle.std.proofs.lemmas.Result.{err_from_is_err_and}
use Rattle.observer.specs.Kind.{book_of}
use Rattle.observer.proofs.Refusing.{refused_above}
use Rattle.observer.proofs.kind.ObserverPatternKind.fire.Goals as goal

pub returns-in_err-fire : goal.returns-in_err-fire
returns-in_err-fire g c =
    let k = g.K.PatternKind in
    let self = c.args.self.now in
    let p = err_from_is_err_and c.from_residual.result c.from_residual.ensures.1 in
    record {
      same = ap (λ (x : k.Book). record { below = x; moves = vec_items self.moves; rows = vec_items self.rows }) c.fire.ensures.same;
      fired = rw (p.1, p.2) (refused_above (k.meaning (k.book self.below)) (book_of self) (k.state self.below) (k.state c.fire.new.self) self.mode c.args.rule c.args.choice.now c.in_err-fire.field-0.0 c.in_err-fire.ensures.fired);
    }
