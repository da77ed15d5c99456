-- Patterns: some different objects, one for each variable, satisfy the literals.
use Rattle.std.specs.Prelude.{◌≡◌, ℕ, ◌<◌, List, map}
use Rattle.literals.specs.declared.Literal.{Literal}
use Rattle.literals.specs.State.{State, AllHold, under}

-- So many variables, numbered from 0, and the literals over them.
pub record Pattern : Type 0 where
  pub variables : ℕ
  pub literals : List Literal

-- The first n variables stand for different objects.
abbrev pub Different : ℕ → (ℕ → ℕ) → Type 0
Different n place = (i j : ℕ) → i < n → j < n → place i ≡ place j → i ≡ j

-- The pattern stands in a state: its variables can be placed on different objects, any whole numbers, so that every literal holds.
pub record StandsIn (p : Pattern) (s : State) : Type 0 where
  pub place : ℕ → ℕ
  pub different : Different p.variables place
  pub all_hold : AllHold s (map (under place) p.literals)
