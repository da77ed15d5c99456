-- A rule at a state under a choice: on which ground it does not fire, and what firing leaves.
use Rattle.std.specs.Prelude.{◌≡◌, ℕ, true, false, List, Ok, Err, Result}
use Rattle.pattern.specs.declared.FireRefusal.{FireRefusal}
use Rattle.pattern.specs.declared.FireRefusal.TheVariants.{NoSuchRule, ChoiceNotHeld, ConditionNotMet, EffectContradictory, BeyondModel}
use Rattle.pattern.specs.Meaning.{to, stuck}
use Rattle.literals.specs.State.{State, AllHold, chosen}
use Rattle.literals.specs.Follow.{contradictory}
use Rattle.atoms.specs.Fire.{Transition, Next}
use Rattle.atoms.specs.Book.{ChoiceHeld, Held}

module _ (r : Transition) (s : State) (choice : List ℕ) where
  -- Whether the rule can fire, or the first ground on which it cannot.
  abbrev pub Checked : Result (Unit {0}) FireRefusal → Type 0
  Checked (Ok _) = ChoiceHeld r choice × AllHold s (chosen choice r.condition) × (contradictory (chosen choice r.effect) ≡ false)
  Checked (Err NoSuchRule) = ⊥
  Checked (Err ChoiceNotHeld) = ChoiceHeld r choice → ⊥
  Checked (Err ConditionNotMet) = ChoiceHeld r choice × (AllHold s (chosen choice r.condition) → ⊥)
  Checked (Err EffectContradictory) = ChoiceHeld r choice × AllHold s (chosen choice r.condition) × (contradictory (chosen choice r.effect) ≡ true)
  Checked (Err BeyondModel) = ⊥

  -- Firing it answers this and leaves t. The next state is always one that the model holds.
  abbrev pub Fires : Result (Unit {0}) FireRefusal → State → Type 0
  Fires (Ok _) t = ChoiceHeld r choice × Next r s choice (to t) × Held t
  Fires (Err NoSuchRule) t = ⊥
  Fires (Err ChoiceNotHeld) t = (ChoiceHeld r choice → ⊥) × (t ≡ s)
  Fires (Err ConditionNotMet) t = ChoiceHeld r choice × Next r s choice (stuck ConditionNotMet) × (t ≡ s)
  Fires (Err EffectContradictory) t = ChoiceHeld r choice × Next r s choice (stuck EffectContradictory) × (t ≡ s)
  Fires (Err BeyondModel) t = ⊥
