-- A firing that is refused below is refused on the same ground, and leaves the mode.
use Rattle.std.proofs.Common.{ℕ, List, Err, refl, ap}
use Rattle.pattern.specs.declared.FireRefusal.{FireRefusal}
use Rattle.pattern.specs.declared.FireRefusal.TheVariants.{NoSuchRule, ChoiceNotHeld, ConditionNotMet, EffectContradictory, BeyondModel}
use Rattle.pattern.specs.Meaning.{Meaning}
use Rattle.pattern.specs.Call.{Fired}
use Rattle.observer.specs.declared.mode.Mode.{Mode}
use Rattle.observer.specs.Mode.{mode_number}
use Rattle.observer.specs.Observed.{ObservedBook, move_of, observed}

pub refused_above : {S B : Type 0} (m : Meaning S) (b : ObservedBook B) (s t : S) (mode : Mode) (rule : ℕ) (choice : List ℕ) (why : FireRefusal) → Fired m s rule choice (Err why) t → Fired (observed m b) (s, mode) rule choice (Err why) (t, mode)
refused_above {S} m b s t mode rule choice NoSuchRule w = (w.0, ap (λ (u : S). (u, mode)) w.1)
refused_above {S} m b s t mode rule choice ChoiceNotHeld w = (w.0, w.1, ap (λ (u : S). (u, mode)) w.2)
refused_above {S} m b s t mode rule choice ConditionNotMet w = (w.0, w.1, w.2, ap (λ (u : S). (u, mode)) w.3)
refused_above {S} m b s t mode rule choice EffectContradictory w = (w.0, w.1, w.2, ap (λ (u : S). (u, mode)) w.3)
refused_above {S} m b s t mode rule choice BeyondModel w = (w.0, w.1, ((w.2.0, move_of m b rule (mode_number mode)), (w.2.1, refl), w.2.2), ap (λ (u : S). (u, mode)) w.3)
