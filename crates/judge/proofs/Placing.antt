-- The numbers of a first failure are those of a case and of an entry that there can be.
use Rattle.std.proofs.Common.{ℕ, zero, suc, ◌+◌, ◌<◌, ◌≤◌, List, length, arith}
use Rattle.std.specs.List.{AllByRecursion}
use Rattle.std.proofs.ByRecursion.{All-append}
use Rattle.pattern.specs.declared.Case.{Case}
use Rattle.pattern.specs.declared.Sort.{Sort}
use Rattle.pattern.specs.declared.Sort.TheVariants.{Idle, Own, Open}
use Rattle.pattern.specs.Meaning.{Meaning}
use Rattle.pattern.specs.Duty.{Duties, most_cases}
use Rattle.judge.specs.declared.table.TableRefusal.{TableRefusal}
use Rattle.judge.specs.Walk.{each, listed, open_case, open_of_rule, open_of_row, open_cases}
use Rattle.judge.specs.Acceptance.{Claim, Fails, no_entry, no_such_row, bad_matching, not_covered, left_over, later, FirstFailure, row_stands, in_walk, Within}

-- What holds of all that f gives holds of what it gives for some numbers.
all_each : {X : Type 0} (P : X → Type 0) (f : ℕ → List X) (first many : ℕ) → ((i : ℕ) → i < first + many → AllByRecursion P (f i)) → AllByRecursion P (each first many f)
all_each P f first zero h = tt
all_each P f first (suc many) h = All-append P (f first) (each (first + 1) many f) (h first (omega arith)) (all_each P f (first + 1) many (λ i b. h i (omega arith)))

module _ {S : Type 0} (m : Meaning S) (d : Duties m) where
  -- A case that there can be.
  There : Case → Type 0
  There c = (c.row < m.rows) × (c.rule < m.rules) × (c.number ≤ most_cases)

  listed_there : (c : Case) (s : Sort) → There c → AllByRecursion There (listed c s)
  listed_there c Idle h = tt
  listed_there c Own h = tt
  listed_there c Open h = (h, tt)

  open_there : AllByRecursion There (open_cases m)
  unfolding There
  open_there = all_each There (open_of_row m) 0 m.rows (λ row a. all_each There (open_of_rule m row) 0 m.rules (λ rule b. all_each There (open_case m row rule) 0 (m.cases row rule) (λ number c.
      listed_there (record { row = row; rule = rule; number = number }) (m.sort (record { row = row; rule = rule; number = number })) (omega arith, omega arith, omega (arith, d.cases_allowed row rule)))))

  fails_there : {n : ℕ} {cs : List Case} {es : List Claim} {f : TableRefusal} → Fails m n cs es f → AllByRecursion There cs → There f.case × (f.entry ≤ n + length es)
  unfolding There
  fails_there no_entry h = (h.0, omega arith)
  fails_there (no_such_row _) h = (h.0, omega arith)
  fails_there (bad_matching _ _) h = (h.0, omega arith)
  fails_there (not_covered _ _) h = (h.0, omega arith)
  fails_there left_over h = ((d.rows_allowed.0, d.rules_allowed.0, omega arith), omega arith)
  fails_there (later _ w) h = let v = fails_there w h.1 in (v.0, omega (arith, v.1))

  pub within : (table : List Claim) (f : TableRefusal) → FirstFailure m table f → Within table f
  unfolding There
  within table f (row_stands h _ _) = record { row_in = omega (arith, d.rows_allowed.1); rule_in = omega arith; number_in = omega arith; entry_in = omega arith }
  within table f (in_walk _ w) = let v = fails_there w open_there in record { row_in = omega (arith, v.0.0, d.rows_allowed.1); rule_in = omega (arith, v.0.1, d.rules_allowed.1); number_in = v.0.2; entry_in = omega (arith, v.1) }
