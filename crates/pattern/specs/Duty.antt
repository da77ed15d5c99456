-- What a pattern kind owes: enough that a judge need know nothing else of it.
use Rattle.std.specs.Prelude.{◌≡◌, ℕ, ◌<◌, ◌≤◌, List}
use Rattle.pattern.specs.declared.answer.Case.{Case}
use Rattle.pattern.specs.declared.answer.Sort.TheVariants.{Idle, Own}
use Rattle.pattern.specs.declared.answer.Covering.TheVariants.{Covers}
use Rattle.pattern.specs.declared.answer.FireRefusal.{FireRefusal}
use Rattle.pattern.specs.declared.answer.FireRefusal.TheVariants.{NoSuchRule, ChoiceNotHeld, ConditionNotMet, EffectContradictory, BeyondModel}
use Rattle.pattern.specs.Meaning.{Meaning, Step, to, stuck}

-- The limits of a pattern kind; anything larger is none. Cases are those of one row and one rule.
abbrev pub most_rules : ℕ
most_rules = 32

abbrev pub most_rows : ℕ
most_rows = 64

abbrev pub most_cases : ℕ
most_cases = 16777216

abbrev pub RulesAllowed : ℕ → Type 0
RulesAllowed rules = (1 ≤ rules) × (rules ≤ most_rules)

abbrev pub RowsAllowed : ℕ → Type 0
RowsAllowed rows = (1 ≤ rows) × (rows ≤ most_rows)

abbrev pub CasesAllowed : ℕ → Type 0
CasesAllowed cases = cases ≤ most_cases

-- The grounds on which a rule has no next state under a choice that the model holds.
abbrev pub Ground : FireRefusal → Type 0
Ground NoSuchRule = ⊥
Ground ChoiceNotHeld = ⊥
Ground ConditionNotMet = Unit {0}
Ground EffectContradictory = Unit {0}
Ground BeyondModel = ⊥

pub record Duties {S : Type 0} (m : Meaning S) : Type 0 where
  -- Steps backwards miss nothing: where a rule leads from s to t and t is in a row, s is an earlier state of some case of that rule and row.
  pub steps_back : (s t : S) (row rule : ℕ) (choice : List ℕ) → row < m.rows → rule < m.rules → m.Next s rule choice (to t) → m.Stands row t → (n : ℕ) × (n < m.cases row rule) × m.Earlier (record { row = row; rule = rule; number = n }) s
  -- An idle case has no earlier states.
  pub idle_empty : (c : Case) (s : S) → m.sort c ≡ Idle → m.Earlier c s → ⊥
  -- The earlier states of an own case are in its row.
  pub own_stands : (c : Case) (s : S) → m.sort c ≡ Own → m.Earlier c s → m.Stands c.row s
  -- Where a matching covers, the earlier states are in the named row.
  pub covered_stands : (c : Case) (named : ℕ) (matching : List ℕ) (s : S) → m.covering c named matching ≡ Covers → m.Earlier c s → m.Stands named s
  -- The model holds the opening state.
  pub opening_held : m.Holds m.opening
  -- What comes of a state by a rule under a choice is one thing, and never nothing.
  pub next_one : (s : S) (rule : ℕ) (choice : List ℕ) (x y : Step S) → m.Next s rule choice x → m.Next s rule choice y → x ≡ y
  pub next_some : (s : S) (rule : ℕ) (choice : List ℕ) → rule < m.rules → ((x : Step S) → m.Next s rule choice x → ⊥) → ⊥
  -- Under a choice that the model holds, the ground for no next state is the rule's: its condition or its effect.
  pub grounds : (s : S) (rule : ℕ) (choice : List ℕ) (why : FireRefusal) → rule < m.rules → m.HoldsChoice rule s choice → m.Next s rule choice (stuck why) → Ground why
  -- The limits.
  pub rules_allowed : RulesAllowed m.rules
  pub rows_allowed : RowsAllowed m.rows
  pub cases_allowed : (row rule : ℕ) → CasesAllowed (m.cases row rule)
