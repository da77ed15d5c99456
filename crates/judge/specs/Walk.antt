-- The open cases of a pattern kind, in the order in which the judge walks.
use Rattle.std.specs.Prelude.{ℕ, zero, suc, ◌+◌, List, [], ◌∷◌, ◌++◌}
use Rattle.pattern.specs.declared.Case.{Case}
use Rattle.pattern.specs.declared.Sort.{Sort}
use Rattle.pattern.specs.declared.Sort.TheVariants.{Idle, Own, Open}
use Rattle.pattern.specs.Meaning.{Meaning}

-- The lists that f gives for `first` and the numbers after it, `many` in all, one after the other.
abbrev pub each : {X : Type 0} → ℕ → ℕ → (ℕ → List X) → List X
each first zero f = []
each first (suc many) f = f first ++ each (first + 1) many f

-- A case of this sort is listed if it is open.
abbrev pub listed : Case → Sort → List Case
listed c Idle = []
listed c Own = []
listed c Open = c ∷ []

module _ {S : Type 0} (m : Meaning S) where
  -- The case, if it is open.
  abbrev pub open_case : ℕ → ℕ → ℕ → List Case
  open_case row rule number = listed (record { row = row; rule = rule; number = number }) (m.sort (record { row = row; rule = rule; number = number }))

  -- The open cases of a row and a rule, ascending.
  abbrev pub open_of_rule : ℕ → ℕ → List Case
  open_of_rule row rule = each 0 (m.cases row rule) (open_case row rule)

  -- The open cases of a row, by its rules, ascending.
  abbrev pub open_of_row : ℕ → List Case
  open_of_row row = each 0 m.rules (open_of_rule row)

  -- All open cases, by rows, ascending.
  abbrev pub open_cases : List Case
  open_cases = each 0 m.rows open_of_row
