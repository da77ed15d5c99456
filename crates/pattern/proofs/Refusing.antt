-- A refused firing leaves the state.
use Rattle.std.proofs.Common.{◌≡◌, ℕ, List, Err}
use Rattle.pattern.specs.declared.answer.FireRefusal.{FireRefusal}
use Rattle.pattern.specs.declared.answer.FireRefusal.TheVariants.{NoSuchRule, ChoiceNotHeld, ConditionNotMet, EffectContradictory, BeyondModel}
use Rattle.pattern.specs.Meaning.{Meaning}
use Rattle.pattern.specs.Call.{Fired}

pub refused_stays : {S : Type 0} (m : Meaning S) (s t : S) (rule : ℕ) (choice : List ℕ) (e : FireRefusal) → Fired m s rule choice (Err e) t → t ≡ s
refused_stays m s t rule choice NoSuchRule w = w.1
refused_stays m s t rule choice ChoiceNotHeld w = w.2
refused_stays m s t rule choice ConditionNotMet w = w.3
refused_stays m s t rule choice EffectContradictory w = w.3
refused_stays m s t rule choice BeyondModel w = w.3
