-- The law of the judge, in one piece: what its answer on a table promises, whatever the pattern kind.
use Rattle.std.specs.Prelude.{◌≡◌, List, Ok, Err, Result}
use Rattle.pattern.specs.Meaning.{Meaning}
use Rattle.pattern.specs.Run.{Firing, Leads}
use Rattle.pattern.specs.Call.{Exchange, Calls}
use Rattle.judge.specs.declared.table.TableRefusal.{TableRefusal}
use Rattle.judge.specs.Acceptance.{Claim, Accepted, FirstFailure, Within}
use Rattle.judge.specs.Safety.{SafeAfter}

pub record Law {S : Type 0} (m : Meaning S) (table : List Claim) (answer : Result (Unit {0}) TableRefusal) : Type 0 where
  -- Accepted: no run of rules and choices, held by a model or not, leads from the opening state to one where row 0 stands.
  pub safe_runs : answer ≡ Ok tt → (fs : List Firing) (s : S) → Leads m m.opening fs s → m.Stands 0 s → ⊥
  -- The answer is acceptance exactly where the table is accepted,
  pub accepts : answer ≡ Ok tt → Accepted m table
  pub accepted : Accepted m table → answer ≡ Ok tt
  -- and a refusal exactly where that is the first failure.
  pub refuses : (f : TableRefusal) → answer ≡ Err f → FirstFailure m table f
  pub refused : (f : TableRefusal) → FirstFailure m table f → answer ≡ Err f
  -- The numbers of a refusal are within the limits.
  pub numbered : (f : TableRefusal) → answer ≡ Err f → Within table f
  -- Accepted: every list of calls on a model that begins in the opening state is safe, refusals included.
  pub safe_calls : answer ≡ Ok tt → (log : List Exchange) (s : S) → Calls m m.opening log s → SafeAfter m log s
