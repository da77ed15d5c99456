-- What a pattern kind means: a transition system with patterns (its rows), and the steps backwards from them.
use Rattle.std.specs.Prelude.{ℕ, List}
use Rattle.pattern.specs.declared.answer.Case.{Case}
use Rattle.pattern.specs.declared.answer.Sort.{Sort}
use Rattle.pattern.specs.declared.answer.Covering.{Covering}
use Rattle.pattern.specs.declared.answer.FireRefusal.{FireRefusal}

-- What comes of a rule at a state under a choice: a next state, or the ground for none.
pub data Step (S : Type 0) : Type 0 where
  to : S → Step S
  stuck : FireRefusal → Step S

-- S is what a state is. Rules, rows and cases are numbered from 0, and every question has an answer at every number, past the end too.
pub record Meaning (S : Type 0) : Type 1 where
  -- the state in which every run begins
  pub opening : S
  -- how many rules there are
  pub rules : ℕ
  -- how many rows there are; row 0 is the fault
  pub rows : ℕ
  -- what comes of a state, by a rule under a choice
  pub Next : S → ℕ → List ℕ → Step S → Type 0
  -- the states of a row
  pub Stands : ℕ → S → Type 0
  -- how many cases a row and a rule have
  pub cases : ℕ → ℕ → ℕ
  -- the earlier states of a case: those from which its rule may lead into its row in this way
  pub Earlier : Case → S → Type 0
  -- whether a case has no earlier states, has them in its own row, or asks for an entry
  pub sort : Case → Sort
  -- how long a matching of a row is
  pub matching_length : ℕ → ℕ
  -- what a matching of a named row says of a case
  pub covering : Case → ℕ → List ℕ → Covering
  -- the choices that the model holds for a rule at a state
  pub HoldsChoice : ℕ → S → List ℕ → Type 0
  -- the states that the model holds
  pub Holds : S → Type 0
