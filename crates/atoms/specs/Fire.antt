-- Rules of atoms: what a firing under a choice of objects makes of a state.
use Rattle.std.specs.Prelude.{◌≡◌, ℕ, Bool, true, false, not, ◌&&◌, ◌||◌, List, length, ◌≢◌}
use Rattle.literals.specs.declared.Fact.{Fact}
use Rattle.literals.specs.declared.Fact.TheVariants.{Unary, Binary}
use Rattle.literals.specs.declared.Literal.{Literal}
pub use Rattle.literals.specs.State.{chosen}
use Rattle.literals.specs.State.{State, AllHold}
use Rattle.literals.specs.Follow.{follows, contradictory}
use Rattle.pattern.specs.declared.FireRefusal.TheVariants.{ChoiceNotHeld, ConditionNotMet, EffectContradictory}
use Rattle.pattern.specs.Meaning.{Step, to, stuck}

-- A guarded transition over so many variables, numbered from 0.
pub record Transition : Type 0 where
  pub variables : ℕ
  pub condition : List Literal
  pub effect : List Literal

-- Whether an atom is there after an effect, by whether it was there before: the atoms that the effect affirms are gained, those that it denies are lost.
abbrev pub remains : List Literal → Fact → Bool → Bool
remains effect f before = (before || follows effect (record { fact = f; affirmed = true })) && not (follows effect (record { fact = f; affirmed = false }))

-- The state after an effect of objects.
abbrev pub after : List Literal → State → State
after effect s = record { unary = λ a d. remains effect (Unary a d) (s.unary a d); binary = λ b d e. remains effect (Binary b d e) (s.binary b d e) }

-- What comes of a state by a rule under a choice: one object for each variable, equal ones allowed.
pub data Next (r : Transition) (s : State) (choice : List ℕ) : Step State → Type 0 where
  fires : {t : State} → length choice ≡ r.variables → AllHold s (chosen choice r.condition) → contradictory (chosen choice r.effect) ≡ false → t ≡ after (chosen choice r.effect) s → Next r s choice (to t)
  wrong_length : (length choice ≢ r.variables) → Next r s choice (stuck ChoiceNotHeld)
  not_met : length choice ≡ r.variables → (AllHold s (chosen choice r.condition) → ⊥) → Next r s choice (stuck ConditionNotMet)
  contradicts : length choice ≡ r.variables → AllHold s (chosen choice r.condition) → contradictory (chosen choice r.effect) ≡ true → Next r s choice (stuck EffectContradictory)
