-- What is safe after calls on a model.
use Rattle.std.specs.Prelude.{◌≡◌, ◌<◌, false, List, [], ◌∷◌, ◌++◌, Ok, Err}
use Rattle.pattern.specs.declared.Answer.{Answer}
use Rattle.pattern.specs.declared.Answer.TheVariants.{Fired as fired, Looked as looked, Restarted as restarted}
use Rattle.pattern.specs.Meaning.{Meaning}
use Rattle.pattern.specs.Run.{Firing, Leads}
use Rattle.pattern.specs.Call.{Call, fire, look, restart, Exchange}

-- The run in hand after one more call: a firing that met no refusal goes to its end, a restart begins anew, and anything else leaves it.
abbrev pub run_after : List Firing → Call → Answer → List Firing
run_after fs (fire f) (fired (Ok _)) = fs ++ f ∷ []
run_after fs (fire f) (fired (Err _)) = fs
run_after fs (fire f) (looked _) = fs
run_after fs (fire f) restarted = fs
run_after fs (look row) _ = fs
run_after fs restart _ = []

-- The firings since the last restart that met no refusal, in order, after those in hand.
abbrev pub run_of : List Firing → List Exchange → List Firing
run_of fs [] = fs
run_of fs (x ∷ xs) = run_of (run_after fs x.call x.answer) xs

-- Every look at row 0 said no.
abbrev pub FaultNeverSeen : List Exchange → Type 0
FaultNeverSeen [] = Unit {0}
FaultNeverSeen (x ∷ xs) = (x.call ≡ look 0 → x.answer ≡ looked (Ok false)) × FaultNeverSeen xs

-- After these calls, made on a model in its opening state, that left s.
pub record SafeAfter {S : Type 0} (m : Meaning S) (log : List Exchange) (s : S) : Type 0 where
  -- the state is the one that those firings since the last restart which met no refusal lead to
  pub reached : Leads m m.opening (run_of [] log) s
  -- the fault does not stand in it
  pub no_fault : m.Stands 0 s → ⊥
  -- and was never seen
  pub never_seen : FaultNeverSeen log

-- There is a fault, and no run leads to it, from this state or from the opening state.
abbrev pub Guarded : {S : Type 0} → Meaning S → S → Type 0
Guarded {S} m s = (0 < m.rows) × ((fs : List Firing) (t : S) → Leads m s fs t → m.Stands 0 t → ⊥) × ((fs : List Firing) (t : S) → Leads m m.opening fs t → m.Stands 0 t → ⊥)
