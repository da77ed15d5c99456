-- What an observer over a pattern kind means.
use Rattle.std.specs.Prelude.{◌≡◌, ℕ, ◌+◌, ◌*◌, ◌/◌, ◌%◌, ◌<◌, Bool, cond, ◌&&◌, List, length, ◌==◌, nat_lt, slice_index_or}
use Rattle.pattern.specs.declared.Case.{Case}
use Rattle.pattern.specs.declared.Sort.{Sort}
use Rattle.pattern.specs.declared.Sort.TheVariants.{Idle, Own, Open}
use Rattle.pattern.specs.declared.Covering.{Covering}
use Rattle.pattern.specs.declared.Covering.TheVariants.{Malformed, Covers, DoesNotCover}
use Rattle.pattern.specs.Meaning.{Meaning, Step, to, stuck}
use Rattle.pattern.specs.Duty.{RowsAllowed, CasesAllowed}
use Rattle.observer.specs.declared.mode.Mode.{Mode}
use Rattle.observer.specs.declared.mode.Mode.TheVariants.{Zero}
use Rattle.observer.specs.declared.mode.ObserverRow.{ObserverRow}
use Rattle.observer.specs.declared.observed.ObserverRefusal.{ObserverRefusal}
use Rattle.observer.specs.declared.observed.ObserverRefusal.TheVariants.{Moves, Rows, RowBelow, Cases}
use Rattle.observer.specs.Mode.{mode_number, mode_count, same_mode}

-- The book below, the moves (four for each rule, by the mode) and the rows (a row below and a mode each).
pub record ObservedBook (B : Type 0) : Type 0 where
  pub below : B
  pub moves : List Mode
  pub rows : List ObserverRow

-- A case that is not idle below is own if it is own there and leaves the mode as it is, and open if not.
abbrev pub lifted : Sort → Bool → Sort
lifted Idle stays = Idle
lifted Own stays = cond stays Own Open
lifted Open stays = Open

-- A matching that covers below covers a pair in the earlier mode.
abbrev pub paired : Covering → Bool → Covering
paired Malformed same = Malformed
paired Covers same = cond same Covers DoesNotCover
paired DoesNotCover same = DoesNotCover

module _ {S B : Type 0} (m : Meaning S) (b : ObservedBook B) where
  -- The mode to which a rule moves from the mode with this number.
  abbrev pub move_of : ℕ → ℕ → Mode
  move_of rule mode = slice_index_or b.moves (rule * mode_count + mode) Zero

  abbrev pub row_at : ℕ → ObserverRow
  row_at row = slice_index_or b.rows row (record { below = 0; mode = Zero })

  -- How many cases a row and a rule have below.
  abbrev pub cases_below : ℕ → ℕ → ℕ
  cases_below row rule = m.cases (row_at row).below rule

  -- A case number is q · B + c, with B cases below: the earlier mode q, and the case c below.
  abbrev pub mode_before : Case → ℕ
  mode_before c = c.number / cases_below c.row c.rule

  abbrev pub case_below : Case → Case
  case_below c = record { row = (row_at c.row).below; rule = c.rule; number = c.number % cases_below c.row c.rule }

  pub record Exists (c : Case) : Type 0 where
    pub row_in : c.row < length b.rows
    pub rule_in : c.rule < m.rules
    pub number_in : c.number < mode_count * cases_below c.row c.rule

  abbrev pub exists : Case → Bool
  exists c = nat_lt c.row (length b.rows) && nat_lt c.rule m.rules && nat_lt c.number (mode_count * cases_below c.row c.rule)

  -- A firing below moves the mode; where there is none below there is none.
  abbrev pub NextOf : S × Mode → ℕ → List ℕ → Step (S × Mode) → Type 0
  NextOf s rule choice (to t) = m.Next s.0 rule choice (to t.0) × (t.1 ≡ move_of rule (mode_number s.1))
  NextOf s rule choice (stuck why) = m.Next s.0 rule choice (stuck why)

  -- A row stands where the row below and the mode do.
  abbrev pub StandsOf : ℕ → S × Mode → Type 0
  StandsOf row s = (row < length b.rows) × m.Stands (row_at row).below s.0 × (s.1 ≡ (row_at row).mode)

  -- The earlier states of a case are those of the case below, in the earlier mode, if that moves to the row's mode.
  abbrev pub EarlierOf : Case → S × Mode → Type 0
  EarlierOf c s = Exists c × m.Earlier (case_below c) s.0 × (mode_number s.1 ≡ mode_before c) × (move_of c.rule (mode_before c) ≡ (row_at c.row).mode)

  -- The earlier mode moves to the row's mode, and is the row's mode.
  abbrev pub moves_in : Case → Bool
  moves_in c = same_mode (move_of c.rule (mode_before c)) (row_at c.row).mode

  abbrev pub stays_in : Case → Bool
  stays_in c = mode_before c == mode_number (row_at c.row).mode

  abbrev pub sort_of : Case → Sort
  sort_of c = cond (exists c && moves_in c) (lifted (m.sort (case_below c)) (stays_in c)) Idle

  abbrev pub covering_of : Case → ℕ → List ℕ → Covering
  covering_of c named matching = cond (exists c && nat_lt named (length b.rows)) (paired (m.covering (case_below c) (row_at named).below matching) (mode_number (row_at named).mode == mode_before c)) Malformed

  abbrev pub observed : Meaning (S × Mode)
  observed = record {
    opening = (m.opening, Zero);
    rules = m.rules;
    rows = length b.rows;
    Next = NextOf;
    Stands = StandsOf;
    cases = λ row rule. cond (nat_lt row (length b.rows) && nat_lt rule m.rules) (mode_count * cases_below row rule) 0;
    Earlier = EarlierOf;
    sort = sort_of;
    matching_length = λ row. cond (nat_lt row (length b.rows)) (m.matching_length (row_at row).below) 0;
    covering = covering_of;
    HoldsChoice = λ rule s choice. m.HoldsChoice rule s.0 choice;
    Holds = λ s. m.Holds s.0;
  }

  -- The table has four modes for each rule.
  abbrev pub MovesFit : Type 0
  MovesFit = length b.moves ≡ m.rules * mode_count

  abbrev pub RowsIn : Type 0
  RowsIn = RowsAllowed (length b.rows)

  -- Each row names a row below.
  abbrev pub RowsBelow : Type 0
  RowsBelow = (row : ℕ) → row < length b.rows → (row_at row).below < m.rows

  -- Four times the cases below stay within the limit.
  abbrev pub CasesFit : Type 0
  CasesFit = (row : ℕ) → row < length b.rows → (rule : ℕ) → rule < m.rules → CasesAllowed (mode_count * cases_below row rule)

  -- This is an observer of the kind below.
  abbrev pub InRange : Type 0
  InRange = MovesFit × RowsIn × RowsBelow × CasesFit

  -- The first ground on which it is none.
  abbrev pub RefusedBy : ObserverRefusal → Type 0
  RefusedBy Moves = MovesFit → ⊥
  RefusedBy Rows = MovesFit × (RowsIn → ⊥)
  RefusedBy RowBelow = MovesFit × RowsIn × (RowsBelow → ⊥)
  RefusedBy Cases = MovesFit × RowsIn × RowsBelow × (CasesFit → ⊥)
