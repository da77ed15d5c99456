use Rattle.std.proofs.Common.{Bool, cond, sym, ap, ◌∙◌}
use Rattle.std.proofs.lemmas.Bool.{eqb-true}
use Rattle.pattern.specs.declared.Covering.TheVariants.{Covers, DoesNotCover}
use Rattle.counts.specs.Data.{book_of, least_of, transition_of}
use Rattle.counts.proofs.Asking.{covering_there}
use Rattle.counts.proofs.kind.CountsPatternKind.covering.Goals as goal

pub returns-then-covers : goal.returns-then-covers
returns-then-covers c =
    let found = c.in-Some-Some in
    let case = found.ensures in
    sym (covering_there (book_of c.args.self.now.net) c.args.case case.0 (least_of found.row.now) (transition_of found.rule.now) case.1 case.2 c.args.named (least_of found.named.now) found.ensures'.1 c.covers.result c.covers.ensures c.args.matching.now found.ensures'.0 (eqb-true _ 0 (sym c.is_empty.ensures ∙ c.if-not-is_empty.false))
    ∙ ap (λ (r : Bool). cond r Covers DoesNotCover) c.if-covers.true)

pub returns-else-covers : goal.returns-else-covers
returns-else-covers c =
    let found = c.in-Some-Some in
    let case = found.ensures in
    sym (covering_there (book_of c.args.self.now.net) c.args.case case.0 (least_of found.row.now) (transition_of found.rule.now) case.1 case.2 c.args.named (least_of found.named.now) found.ensures'.1 c.covers.result c.covers.ensures c.args.matching.now found.ensures'.0 (eqb-true _ 0 (sym c.is_empty.ensures ∙ c.if-not-is_empty.false))
    ∙ ap (λ (r : Bool). cond r Covers DoesNotCover) c.if-covers.false)
