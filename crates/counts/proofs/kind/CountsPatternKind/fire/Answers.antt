use Rattle.std.proofs.Common.{◌≡◌, length, vec_items, vec_len, sym, refl, ◌∙◌, arith}
use Rattle.std.proofs.lemmas.Bool.{eqb-true}
use Rattle.std.proofs.lemmas.List.{with_items_is}
use Rattle.counts.specs.Data.{book_of, transition_of}
use Rattle.counts.proofs.Firing.{marking_fired}
use Rattle.counts.proofs.kind.CountsPatternKind.fire.Goals as goal

pub returns : goal.returns
returns c =
    let found = rw c.in_ok-rule.ensures.ok_part at c.rule.ensures in
    let marking = c.args.self.now.marking in
    let left = c.fire.new.marking in
    let long : length left ≡ vec_len marking = omega arith in
    record {
      same = refl;
      fired = rw (with_items_is marking left long)
          (marking_fired (book_of c.args.self.now.net) c.args.rule c.args.choice.now (transition_of c.in_ok-rule.rule.now) found.0 (eqb-true _ 0 (sym c.is_empty.ensures ∙ c.if-not-is_empty.false)) found.1
          (vec_items marking) c.deref_mut.result.now left c.fire.result c.deref_mut.ensures.value c.fire.ensures.checked c.fire.ensures.moved c.fire.ensures.stays);
    }
