use Rattle.std.proofs.Common.{ℕ, Some, sym, ap, ◌∙◌}
use Rattle.counts.specs.Data.{book_of, least_of, transition_of}
use Rattle.counts.specs.Duty.{exact}
use Rattle.counts.proofs.Asking.{earlier_there}
use Rattle.counts.proofs.counted.Counts.earlier.Goals as goal

pub returns : goal.returns
returns c =
    let found = c.in_ok-row in
    let case = found.ensures in
    record {
      value = ap (λ (n : ℕ). Some n) c.earlier.ensures ∙ sym (earlier_there (book_of c.args.self.now.net) c.args.case case.0 (least_of found.row.now) (transition_of found.rule.now) case.1 case.2 c.args.place);
      exact = exact (book_of c.args.self.now.net) c.args.case;
    }
