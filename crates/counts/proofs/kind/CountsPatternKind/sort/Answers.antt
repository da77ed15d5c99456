use Rattle.std.proofs.Common.{Bool, cond, sym, ap, ◌∙◌}
use Rattle.pattern.specs.declared.Sort.TheVariants.{Own, Open}
use Rattle.counts.specs.Data.{book_of, least_of, transition_of}
use Rattle.counts.proofs.Asking.{sort_there}
use Rattle.counts.proofs.kind.CountsPatternKind.sort.Goals as goal

pub returns-then-covers : goal.returns-then-covers
returns-then-covers c =
    let case = c.in-Some.ensures in
    sym (sort_there (book_of c.args.self.now.net) c.args.case case.0 (least_of c.in-Some.row.now) (transition_of c.in-Some.rule.now) case.1 case.2 c.covers.result c.covers.ensures ∙ ap (λ (r : Bool). cond r Own Open) c.if-covers.true)

pub returns-else-covers : goal.returns-else-covers
returns-else-covers c =
    let case = c.in-Some.ensures in
    sym (sort_there (book_of c.args.self.now.net) c.args.case case.0 (least_of c.in-Some.row.now) (transition_of c.in-Some.rule.now) case.1 case.2 c.covers.result c.covers.ensures ∙ ap (λ (r : Bool). cond r Own Open) c.if-covers.false)
