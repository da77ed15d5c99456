-- Runs: what rules and choices can lead to, whether or not a model holds them.
use Rattle.std.specs.Prelude.{ℕ, ◌<◌, List, [], ◌∷◌}
use Rattle.pattern.specs.Meaning.{Meaning, to}

-- One firing: a rule and the choice under which it fires.
pub record Firing : Type 0 where
  pub rule : ℕ
  pub choice : List ℕ

-- These firings, in order, lead from one state to another.
pub data Leads {S : Type 0} (m : Meaning S) : S → List Firing → S → Type 0 where
  stay : {s : S} → Leads m s [] s
  step : {s t u : S} {f : Firing} {fs : List Firing} → f.rule < m.rules → m.Next s f.rule f.choice (to t) → Leads m t fs u → Leads m s (f ∷ fs) u
