-- When a table is accepted, and where it fails first.
use Rattle.std.specs.Prelude.{◌≡◌, ℕ, ◌+◌, ◌<◌, ◌≤◌, List, [], ◌∷◌, map, length, take, drop, Some, None, Ok, Err, vec_items, Option, Result, slice_index_or}
use Rattle.pattern.specs.declared.Case.{Case}
use Rattle.pattern.specs.declared.Covering.TheVariants.{Malformed, Covers, DoesNotCover}
use Rattle.pattern.specs.Meaning.{Meaning}
use Rattle.pattern.specs.Duty.{most_rules, most_rows, most_cases}
use Rattle.judge.specs.declared.table.Entry.{Entry}
use Rattle.judge.specs.declared.table.TableGround.{TableGround}
use Rattle.judge.specs.declared.table.TableGround.TheVariants.{RowStands, NoEntry, NoSuchRow, BadMatching, NotCovered, LeftOver}
use Rattle.judge.specs.declared.table.TableRefusal.{TableRefusal}
use Rattle.judge.specs.Walk.{open_cases}

-- What an entry claims, as plain data: the next open case is covered by this row under this matching.
pub record Claim : Type 0 where
  pub row : ℕ
  pub matching : List ℕ

abbrev pub claim_of : Entry → Claim
claim_of e = record { row = e.row; matching = vec_items e.matching }

abbrev pub claims : List Entry → List Claim
claims = map claim_of

module _ {S : Type 0} (m : Meaning S) where
  -- The claim is right of the case: it names a row, and the matching covers.
  abbrev pub Right : Case → Claim → Type 0
  Right c e = (e.row < m.rows) × (m.covering c e.row e.matching ≡ Covers)

  -- The claims cover the cases: both are equally many, and each claim is right of the case at its place.
  pub data Cover : List Case → List Claim → Type 0 where
    none : Cover [] []
    next : {c : Case} {cs : List Case} {e : Claim} {es : List Claim} → Right c e → Cover cs es → Cover (c ∷ cs) (e ∷ es)

  -- No row stands in this state.
  abbrev pub Clear : S → Type 0
  Clear s = (row : ℕ) → row < m.rows → m.Stands row s → ⊥

  -- A table is accepted when no row stands in the opening state and its claims cover the open cases in walk order.
  pub record Accepted (table : List Claim) : Type 0 where
    pub clear : Clear m.opening
    pub covered : Cover (open_cases m) table

  -- The walk over these open cases fails first in this way; the first of these claims has the given number.
  pub data Fails : ℕ → List Case → List Claim → TableRefusal → Type 0 where
    no_entry : {n : ℕ} {c : Case} {cs : List Case} → Fails n (c ∷ cs) [] (record { reason = NoEntry; case = c; entry = n })
    no_such_row : {n : ℕ} {c : Case} {cs : List Case} {e : Claim} {es : List Claim} → m.rows ≤ e.row → Fails n (c ∷ cs) (e ∷ es) (record { reason = NoSuchRow; case = c; entry = n })
    bad_matching : {n : ℕ} {c : Case} {cs : List Case} {e : Claim} {es : List Claim} → e.row < m.rows → m.covering c e.row e.matching ≡ Malformed → Fails n (c ∷ cs) (e ∷ es) (record { reason = BadMatching; case = c; entry = n })
    not_covered : {n : ℕ} {c : Case} {cs : List Case} {e : Claim} {es : List Claim} → e.row < m.rows → m.covering c e.row e.matching ≡ DoesNotCover → Fails n (c ∷ cs) (e ∷ es) (record { reason = NotCovered; case = c; entry = n })
    left_over : {n : ℕ} {e : Claim} {es : List Claim} → Fails n [] (e ∷ es) (record { reason = LeftOver; case = record { row = 0; rule = 0; number = 0 }; entry = n })
    later : {n : ℕ} {c : Case} {cs : List Case} {e : Claim} {es : List Claim} {f : TableRefusal} → Right c e → Fails (n + 1) cs es f → Fails n (c ∷ cs) (e ∷ es) f

  -- What a walk meets at an open case where the first n claims of the table are used up: a right claim, or its failure.
  abbrev pub Met : Case → List Claim → ℕ → Result (Unit {0}) TableGround → Type 0
  Met c table n (Ok _) = (n < length table) × Right c (slice_index_or table n (record { row = 0; matching = [] }))
  Met c table n (Err g) = (cs : List Case) → Fails n (c ∷ cs) (drop n table) (record { reason = g; case = c; entry = n })

  -- The first row that stands in the opening state, if any does.
  abbrev pub LowestStanding : Option ℕ → Type 0
  LowestStanding None = Clear m.opening
  LowestStanding (Some row) = (row < m.rows) × ((r : ℕ) → r < row → m.Stands r m.opening → ⊥) × m.Stands row m.opening

  -- What a walk over all open cases comes to: they are covered by so many claims of the table, or it fails.
  abbrev pub Walked : List Claim → Result ℕ TableRefusal → Type 0
  Walked table (Ok used) = (used ≤ length table) × Cover (open_cases m) (take used table)
  Walked table (Err f) = Fails 0 (open_cases m) table f

  -- The first failure of a table: the lowest row that stands in the opening state, or else the first of the walk.
  pub data FirstFailure (table : List Claim) : TableRefusal → Type 0 where
    row_stands : {row : ℕ} → row < m.rows → ((r : ℕ) → r < row → m.Stands r m.opening → ⊥) → m.Stands row m.opening → FirstFailure table (record { reason = RowStands; case = record { row = row; rule = 0; number = 0 }; entry = 0 })
    in_walk : {f : TableRefusal} → Clear m.opening → Fails 0 (open_cases m) table f → FirstFailure table f

  -- The judge's answer on a table: accepted, or its first failure.
  abbrev pub Judged : List Claim → Result (Unit {0}) TableRefusal → Type 0
  Judged table (Ok _) = Accepted table
  Judged table (Err f) = FirstFailure table f

  -- The verdict on a table: this answer is the judge's, and no other is.
  pub record Verdict (table : List Claim) (answer : Result (Unit {0}) TableRefusal) : Type 0 where
    pub judged : Judged table answer
    pub alone : (other : Result (Unit {0}) TableRefusal) → Judged table other → other ≡ answer

-- The numbers of a refusal are within the limits of a kind, and its entry is one of the table or the one past its end.
pub record Within (table : List Claim) (f : TableRefusal) : Type 0 where
  pub row_in : f.case.row < most_rows
  pub rule_in : f.case.rule < most_rules
  pub number_in : f.case.number ≤ most_cases
  pub entry_in : f.entry ≤ length table
