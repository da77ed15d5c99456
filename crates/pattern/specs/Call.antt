-- What each call on a model answers and leaves, and what a list of calls does.
use Rattle.std.specs.Prelude.{◌≡◌, ℕ, ◌<◌, ◌≤◌, Bool, List, [], ◌∷◌, Ok, Err, Decides, Result}
use Rattle.pattern.specs.declared.answer.FireRefusal.{FireRefusal}
use Rattle.pattern.specs.declared.answer.FireRefusal.TheVariants.{NoSuchRule, ChoiceNotHeld, ConditionNotMet, EffectContradictory, BeyondModel}
use Rattle.pattern.specs.declared.answer.LookRefusal.{LookRefusal}
use Rattle.pattern.specs.declared.answer.Answer.{Answer}
use Rattle.pattern.specs.declared.answer.Answer.TheVariants.{Fired as fired, Looked as looked, Restarted as restarted}
use Rattle.pattern.specs.Meaning.{Meaning, to, stuck}
use Rattle.pattern.specs.Run.{Firing}

-- Firing a rule under a choice at s answers r and leaves t. The grounds of refusal are tried in this order, and a refusal leaves the state.
abbrev pub Fired : {S : Type 0} → Meaning S → S → ℕ → List ℕ → Result (Unit {0}) FireRefusal → S → Type 0
Fired m s rule choice (Ok _) t = (rule < m.rules) × m.HoldsChoice rule s choice × m.Next s rule choice (to t) × m.Holds t
Fired m s rule choice (Err NoSuchRule) t = (m.rules ≤ rule) × (t ≡ s)
Fired m s rule choice (Err ChoiceNotHeld) t = (rule < m.rules) × (m.HoldsChoice rule s choice → ⊥) × (t ≡ s)
Fired m s rule choice (Err ConditionNotMet) t = (rule < m.rules) × m.HoldsChoice rule s choice × m.Next s rule choice (stuck ConditionNotMet) × (t ≡ s)
Fired m s rule choice (Err EffectContradictory) t = (rule < m.rules) × m.HoldsChoice rule s choice × m.Next s rule choice (stuck EffectContradictory) × (t ≡ s)
Fired {S} m s rule choice (Err BeyondModel) t = (rule < m.rules) × m.HoldsChoice rule s choice × ((u : S) × m.Next s rule choice (to u) × (m.Holds u → ⊥)) × (t ≡ s)

-- Looking at a row at s answers r: whether it stands, or that there is no such row.
abbrev pub Looked : {S : Type 0} → Meaning S → S → ℕ → Result Bool LookRefusal → Type 0
Looked m s row (Ok b) = (row < m.rows) × Decides b (m.Stands row s)
Looked m s row (Err _) = m.rows ≤ row

-- A call on a model.
pub data Call : Type 0 where
  fire : Firing → Call
  look : ℕ → Call
  restart : Call

-- The call, made at s, gives the answer and leaves t.
pub data Called {S : Type 0} (m : Meaning S) : S → Call → Answer → S → Type 0 where
  fires : {s t : S} {f : Firing} {r : Result (Unit {0}) FireRefusal} → Fired m s f.rule f.choice r t → Called m s (fire f) (fired r) t
  looks : {s : S} {row : ℕ} {r : Result Bool LookRefusal} → Looked m s row r → Called m s (look row) (looked r) s
  restarts : {s : S} → Called m s restart restarted m.opening

-- A call with its answer.
pub record Exchange : Type 0 where
  pub call : Call
  pub answer : Answer

-- The calls of a log, in order, made from one state, give their answers and leave another.
pub data Calls {S : Type 0} (m : Meaning S) : S → List Exchange → S → Type 0 where
  none : {s : S} → Calls m s [] s
  more : {s t u : S} {x : Exchange} {xs : List Exchange} → Called m s x.call x.answer t → Calls m t xs u → Calls m s (x ∷ xs) u
