-- What an `Atoms` holds, what comes of making one, and what its calls answer and leave.
use Rattle.std.specs.Prelude.{◌≡◌, ℕ, ◌<◌, ◌≤◌, Bool, List, length, Ok, Err, Decides, Result}
use Rattle.pattern.specs.declared.FireRefusal.{FireRefusal}
use Rattle.pattern.specs.declared.FireRefusal.TheVariants.{NoSuchRule, ChoiceNotHeld, ConditionNotMet, EffectContradictory, BeyondModel}
use Rattle.pattern.specs.declared.LookRefusal.{LookRefusal}
use Rattle.pattern.specs.Meaning.{to, stuck}
use Rattle.literals.specs.State.{State}
use Rattle.atoms.specs.declared.book.BookRefusal.{BookRefusal}
use Rattle.atoms.specs.declared.model.Atoms.{Atoms}
use Rattle.atoms.specs.Book.{AtomsBook, just, Held, ChoiceHeld, rule_at, NextOf, StandsOf}
use Rattle.atoms.specs.Data.{book_of}
use Rattle.atoms.specs.Range.{InRange, RefusedBy}
use Rattle.atoms.specs.Cells.{state_of}

abbrev pub atoms_book : Atoms → AtomsBook
atoms_book a = book_of a.book

abbrev pub atoms_state : Atoms → State
atoms_state a = state_of a.cells

-- Making one of this data gives a model with this book in its opening state, or the first ground against it.
abbrev pub Made : AtomsBook → Result Atoms BookRefusal → Type 0
Made b (Ok a) = InRange b × (atoms_book a ≡ b) × (atoms_state a ≡ just b.opening)
Made b (Err e) = RefusedBy b e

module _ (b : AtomsBook) where
  -- Firing a rule under a choice at s answers r and leaves t. The grounds of refusal are tried in this order, and a refusal leaves the state.
  abbrev pub FiredIn : State → ℕ → List ℕ → Result (Unit {0}) FireRefusal → State → Type 0
  FiredIn s rule choice (Ok _) t = (rule < length b.rules) × ChoiceHeld (rule_at b rule) choice × NextOf b s rule choice (to t) × Held t
  FiredIn s rule choice (Err NoSuchRule) t = (length b.rules ≤ rule) × (t ≡ s)
  FiredIn s rule choice (Err ChoiceNotHeld) t = (rule < length b.rules) × (ChoiceHeld (rule_at b rule) choice → ⊥) × (t ≡ s)
  FiredIn s rule choice (Err ConditionNotMet) t = (rule < length b.rules) × ChoiceHeld (rule_at b rule) choice × NextOf b s rule choice (stuck ConditionNotMet) × (t ≡ s)
  FiredIn s rule choice (Err EffectContradictory) t = (rule < length b.rules) × ChoiceHeld (rule_at b rule) choice × NextOf b s rule choice (stuck EffectContradictory) × (t ≡ s)
  FiredIn s rule choice (Err BeyondModel) t = (rule < length b.rules) × ChoiceHeld (rule_at b rule) choice × ((u : State) × NextOf b s rule choice (to u) × (Held u → ⊥)) × (t ≡ s)

  -- Looking at a row at s answers r: whether it stands, or that there is no such row.
  abbrev pub LookedIn : State → ℕ → Result Bool LookRefusal → Type 0
  LookedIn s row (Ok r) = (row < length b.rows) × Decides r (StandsOf b row s)
  LookedIn s row (Err _) = length b.rows ≤ row
