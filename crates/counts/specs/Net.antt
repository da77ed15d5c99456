-- Counted books (Petri nets): states and patterns that give each place a whole number.
use Rattle.std.specs.Prelude.{ℕ, zero, suc, ◌+◌, ◌-◌, ◌≤◌, Bool, true, ◌&&◌, List, Ok, Err, Result, nat_le, slice_index}
use Rattle.pattern.specs.declared.FireRefusal.{FireRefusal}
use Rattle.pattern.specs.declared.FireRefusal.TheVariants.{NoSuchRule, ChoiceNotHeld, ConditionNotMet, EffectContradictory, BeyondModel}

-- A whole number for each place: a state, or the least that a pattern asks for.
abbrev pub Marking : Type 0
Marking = ℕ → ℕ

-- A list, as a number for each place: 0 past its end.
abbrev pub tally : List ℕ → Marking
tally numbers place = slice_index numbers place

infix 20 ◌⊑◌
-- At most as large everywhere.
abbrev pub ◌⊑◌ : Marking → Marking → Type 0
p ⊑ q = (place : ℕ) → p place ≤ q place

-- The same, computed over the first n places.
abbrev pub at_most : ℕ → Marking → Marking → Bool
at_most zero p q = true
at_most (suc n) p q = nat_le (p n) (q n) && at_most n p q

-- What a rule that takes and gives makes of a state.
abbrev pub after : Marking → Marking → Marking → Marking
after takes gives s place = s place - takes place + gives place

-- The earlier pattern of such a rule and a row: the take, and what of the row the give does not bring.
abbrev pub earlier : Marking → Marking → Marking → Marking
earlier takes gives row place = takes place + (row place - gives place)

-- The limits of a counted book: places, and the most that a model holds at one.
abbrev pub most_places : ℕ
most_places = 12

abbrev pub most_held : ℕ
most_held = 65535

abbrev pub Held : Marking → Type 0
Held s = (place : ℕ) → s place ≤ most_held

-- Whether a rule that takes and gives can fire in a state, and to one that a model holds.
abbrev pub Checked : Marking → Marking → Marking → Result (Unit {0}) FireRefusal → Type 0
Checked takes gives s (Ok _) = (takes ⊑ s) × Held (after takes gives s)
Checked takes gives s (Err ConditionNotMet) = takes ⊑ s → ⊥
Checked takes gives s (Err BeyondModel) = (takes ⊑ s) × (Held (after takes gives s) → ⊥)
Checked takes gives s (Err NoSuchRule) = ⊥
Checked takes gives s (Err ChoiceNotHeld) = ⊥
Checked takes gives s (Err EffectContradictory) = ⊥
