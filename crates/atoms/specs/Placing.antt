-- Placing the variables of a pattern one after another.
use Rattle.std.specs.Prelude.{◌≡◌, ℕ, ◌+◌, ◌<◌, Bool, true, false, cond, List, length, ◌==◌, ◌≢◌, nat_lt, slice_index}
use Rattle.std.specs.List.{AllByRecursion, filter}
use Rattle.literals.specs.declared.Literal.{Literal}
use Rattle.literals.specs.State.{State, Holds, under, last_variable}
use Rattle.atoms.specs.Book.{object_count}
use Rattle.atoms.specs.Pattern.{Pattern}

-- A list of objects, as a placement.
abbrev pub at : List ℕ → ℕ → ℕ
at placed i = slice_index placed i

-- A literal of which this is the last variable holds.
abbrev pub MetAt : State → (ℕ → ℕ) → ℕ → Literal → Type 0
MetAt s place i l = last_variable l.fact ≡ i → Holds s (under place l)

-- The literals of which this is the last variable; and that all of some literals hold.
abbrev pub due : ℕ → List Literal → List Literal
due i = filter (λ l. last_variable l.fact == i)

abbrev pub AllHoldAt : State → (ℕ → ℕ) → List Literal → Type 0
AllHoldAt s place = AllByRecursion (λ l. Holds s (under place l))

-- A variable is on another object than those before it.
abbrev pub New : (ℕ → ℕ) → ℕ → Type 0
New place i = (j : ℕ) → j < i → place j ≢ place i

module _ (p : Pattern) (s : State) where
  -- A variable fits beside those before it: on another object, and every literal of which it is the last variable holds.
  abbrev pub FitsAt : (ℕ → ℕ) → ℕ → Type 0
  FitsAt place i = New place i × AllByRecursion (MetAt s place i) p.literals

  -- So do the first k.
  abbrev pub FirstFit : ℕ → (ℕ → ℕ) → Type 0
  FirstFit k place = (i : ℕ) → i < k → FitsAt place i

  -- So do all that are placed.
  abbrev pub Placed : List ℕ → Type 0
  Placed placed = FirstFit (length placed) (at placed)

-- The objects that are tried for a variable: those of the model, and one beyond it, another for each variable.
abbrev pub candidate : ℕ → ℕ → ℕ
candidate i k = cond (nat_lt k object_count) k (object_count + i)

abbrev pub Tried : ℕ → (ℕ → ℕ) → Type 0
Tried n place = (i : ℕ) → i < n → (k : ℕ) × (k < 17) × (place i ≡ candidate i k)

-- A placement goes on from a list of objects.
abbrev pub Extends : List ℕ → (ℕ → ℕ) → Type 0
Extends placed place = (i : ℕ) → i < length placed → place i ≡ at placed i

-- What comes of placing the others: all are placed, or no placement that is tried goes on from those that were, and those are left.
abbrev pub Outcome : Pattern → State → List ℕ → List ℕ → Bool → Type 0
Outcome p s before left true = FirstFit p s p.variables (at left)
Outcome p s before left false = ((place : ℕ → ℕ) → Extends before place → Tried p.variables place → FirstFit p s p.variables place → ⊥) × (left ≡ before)
