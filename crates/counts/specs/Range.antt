-- When plain data is a counted book, and on which ground it is not.
use Rattle.std.specs.Prelude.{◌≡◌, ℕ, ◌<◌, ◌≤◌, List, length}
use Rattle.pattern.specs.Duty.{RulesAllowed, RowsAllowed}
use Rattle.counts.specs.declared.net.NetRefusal.{NetRefusal}
use Rattle.counts.specs.declared.net.NetRefusal.TheVariants.{Places, Rules, Rows, RuleLength, RowLength, OutOfMemory}
use Rattle.counts.specs.Net.{most_places}
use Rattle.counts.specs.Counted.{Transition, CountedBook, rule_at, row_at}

-- A rule takes and gives at each of so many places; a row has a number for each.
abbrev pub RuleFits : ℕ → Transition → Type 0
RuleFits places r = (length r.takes ≡ places) × (length r.gives ≡ places)

abbrev pub RowFits : ℕ → List ℕ → Type 0
RowFits places r = length r ≡ places

module _ (b : CountedBook) where
  -- 1 to 12 places, as many as the opening has counts
  abbrev pub PlacesIn : Type 0
  PlacesIn = (1 ≤ length b.opening) × (length b.opening ≤ most_places)

  abbrev pub RulesIn : Type 0
  RulesIn = RulesAllowed (length b.rules)

  abbrev pub RowsIn : Type 0
  RowsIn = RowsAllowed (length b.rows)

  abbrev pub RulesFit : Type 0
  RulesFit = (rule : ℕ) → rule < length b.rules → RuleFits (length b.opening) (rule_at b rule)

  abbrev pub RowsFit : Type 0
  RowsFit = (row : ℕ) → row < length b.rows → RowFits (length b.opening) (row_at b row)

  -- The data is a counted book.
  abbrev pub InRange : Type 0
  InRange = PlacesIn × RulesIn × RowsIn × RulesFit × RowsFit

  -- The first ground on which it is refused; want of memory is no fault of the data.
  abbrev pub RefusedBy : NetRefusal → Type 0
  RefusedBy Places = PlacesIn → ⊥
  RefusedBy Rules = PlacesIn × (RulesIn → ⊥)
  RefusedBy Rows = PlacesIn × RulesIn × (RowsIn → ⊥)
  RefusedBy RuleLength = PlacesIn × RulesIn × RowsIn × (RulesFit → ⊥)
  RefusedBy RowLength = PlacesIn × RulesIn × RowsIn × RulesFit × (RowsFit → ⊥)
  RefusedBy OutOfMemory = InRange
