-- A counted book as plain data, and what it means.
use Rattle.std.specs.Prelude.{◌≡◌, ℕ, ◌<◌, Bool, cond, ◌&&◌, List, [], length, ◌==◌, nat_lt, slice_index_or}
use Rattle.pattern.specs.declared.Case.{Case}
use Rattle.pattern.specs.declared.Sort.{Sort}
use Rattle.pattern.specs.declared.Sort.TheVariants.{Idle, Own, Open}
use Rattle.pattern.specs.declared.Covering.{Covering}
use Rattle.pattern.specs.declared.Covering.TheVariants.{Malformed, Covers, DoesNotCover}
use Rattle.pattern.specs.declared.FireRefusal.TheVariants.{ChoiceNotHeld, ConditionNotMet}
use Rattle.pattern.specs.Meaning.{Meaning, Step, to, stuck}
use Rattle.counts.specs.Net.{Marking, tally, ◌⊑◌, at_most, after, earlier, Held}

-- What a rule takes from each place, and what it gives.
pub record Transition : Type 0 where
  pub takes : List ℕ
  pub gives : List ℕ

-- The opening counts, the rules and the rows; a row is the least count at each place.
pub record CountedBook : Type 0 where
  pub opening : List ℕ
  pub rules : List Transition
  pub rows : List (List ℕ)

module _ (b : CountedBook) where
  abbrev pub rule_at : ℕ → Transition
  rule_at rule = slice_index_or b.rules rule (record { takes = []; gives = [] })

  abbrev pub takes_of : ℕ → Marking
  takes_of rule = tally (rule_at rule).takes

  abbrev pub gives_of : ℕ → Marking
  gives_of rule = tally (rule_at rule).gives

  abbrev pub row_at : ℕ → List ℕ
  row_at row = slice_index_or b.rows row []

  -- The earlier pattern of a case.
  abbrev pub earlier_of : Case → Marking
  earlier_of c = earlier (takes_of c.rule) (gives_of c.rule) (tally (row_at c.row))

  -- Each rule and row have one case, with number 0.
  pub record Exists (c : Case) : Type 0 where
    pub row_in : c.row < length b.rows
    pub rule_in : c.rule < length b.rules
    pub number_in : c.number ≡ 0

  abbrev pub exists : Case → Bool
  exists c = nat_lt c.row (length b.rows) && nat_lt c.rule (length b.rules) && c.number == 0

  -- What comes of a state: a rule fires where every place has at least what it takes. There is nothing to choose.
  pub data NextOf (s : Marking) (rule : ℕ) (choice : List ℕ) : Step Marking → Type 0 where
    fires : {t : Marking} → rule < length b.rules → length choice ≡ 0 → takes_of rule ⊑ s → t ≡ after (takes_of rule) (gives_of rule) s → NextOf s rule choice (to t)
    choice_given : rule < length b.rules → 0 < length choice → NextOf s rule choice (stuck ChoiceNotHeld)
    not_enough : rule < length b.rules → length choice ≡ 0 → (takes_of rule ⊑ s → ⊥) → NextOf s rule choice (stuck ConditionNotMet)

  -- A row stands where every place has at least its number.
  abbrev pub StandsOf : ℕ → Marking → Type 0
  StandsOf row s = (row < length b.rows) × (tally (row_at row) ⊑ s)

  abbrev pub EarlierOf : Case → Marking → Type 0
  EarlierOf c s = Exists c × (earlier_of c ⊑ s)

  -- The earlier pattern of a case is at least as large as a row everywhere.
  abbrev pub covers : Case → ℕ → Bool
  covers c row = at_most (length (row_at row)) (tally (row_at row)) (earlier_of c)

  abbrev pub sort_of : Case → Sort
  sort_of c = cond (exists c) (cond (covers c c.row) Own Open) Idle

  -- A matching is empty.
  abbrev pub covering_of : Case → ℕ → List ℕ → Covering
  covering_of c named matching = cond (exists c && nat_lt named (length b.rows) && length matching == 0) (cond (covers c named) Covers DoesNotCover) Malformed

  abbrev pub counted_meaning : Meaning Marking
  counted_meaning = record {
    opening = tally b.opening;
    rules = length b.rules;
    rows = length b.rows;
    Next = NextOf;
    Stands = StandsOf;
    cases = λ row rule. cond (nat_lt row (length b.rows) && nat_lt rule (length b.rules)) 1 0;
    Earlier = EarlierOf;
    sort = sort_of;
    matching_length = λ row. 0;
    covering = covering_of;
    HoldsChoice = λ rule s choice. length choice ≡ 0;
    Holds = Held;
  }

-- The earlier pattern of a case is exact: its states are those from which the rule leads into the row.
pub record Exact (b : CountedBook) (c : Case) : Type 0 where
  pub leads_in : (s : Marking) → EarlierOf b c s → (t : Marking) × NextOf b s c.rule [] (to t) × StandsOf b c.row t
  pub comes_from : (s t : Marking) (choice : List ℕ) → NextOf b s c.rule choice (to t) → StandsOf b c.row t → Exists b c → EarlierOf b c s
