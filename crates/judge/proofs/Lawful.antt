-- The verdict on a table gives the whole law, for every pattern kind that keeps its duties.
use Rattle.std.proofs.Common.{◌≡◌, List, Ok, Err, Result, sym, subst}
use Rattle.pattern.specs.Meaning.{Meaning}
use Rattle.pattern.specs.Duty.{Duties}
use Rattle.judge.specs.declared.table.TableRefusal.{TableRefusal}
use Rattle.judge.specs.Acceptance.{Claim, Judged, Verdict}
use Rattle.judge.specs.Law.{Law}
use Rattle.judge.proofs.Placing.{within}
use Rattle.judge.proofs.Safe.{runs_safe, calls_safe}

pub law : {S : Type 0} (m : Meaning S) → Duties m → (table : List Claim) (answer : Result (Unit {0}) TableRefusal) → Verdict m table answer → Law m table answer
law m d table answer v = record {
  safe_runs = λ e. runs_safe m d table (told (Ok tt) e);
  accepts = told (Ok tt);
  accepted = λ a. sym (v.alone (Ok tt) a);
  refuses = λ f. told (Err f);
  refused = λ f w. sym (v.alone (Err f) w);
  numbered = λ f e. within m d table f (told (Err f) e);
  safe_calls = λ e. calls_safe m d table (told (Ok tt) e);
}
  where
    told : (r : Result (Unit {0}) TableRefusal) → answer ≡ r → Judged m table r
    told r e = subst (λ (x : Result (Unit {0}) TableRefusal). Judged m table x) e v.judged
