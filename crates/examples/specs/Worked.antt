-- Worked examples of the definitions: small cases whose answers can be read off by hand.
use Rattle.std.specs.Prelude.{◌≡◌, ℕ, [], ◌∷◌, Ok, Err}
use Rattle.pattern.specs.declared.Case.{Case}
use Rattle.pattern.specs.declared.Sort.TheVariants.{Idle, Own, Open}
use Rattle.pattern.specs.declared.FireRefusal.TheVariants.{BeyondModel}
use Rattle.pattern.specs.Meaning.{Meaning}
use Rattle.pattern.specs.Call.{Fired}
use Rattle.judge.specs.Walk.{open_cases}
use Rattle.judge.specs.Acceptance.{Claim, Accepted}
use Rattle.counts.specs.Net.{Marking, tally}
use Rattle.observer.specs.declared.Mode.{Mode}
use Rattle.observer.specs.declared.Mode.TheVariants.{Zero, One, Two, Three}
use Rattle.observer.specs.declared.ObserverRow.{ObserverRow}
use Rattle.observer.specs.Observed.{ObservedBook, observed}
use Rattle.counts.specs.Counted.{CountedBook, earlier_of, sort_of, counted_meaning}

-- One place. Rule 0 gives 1; rule 1 takes 2 and gives 1; rule 2 takes 1 and gives 1. Row 0 asks for 3.
abbrev pub one_place : CountedBook
one_place = record {
  opening = 0 ∷ [];
  rules = record { takes = 0 ∷ []; gives = 1 ∷ [] } ∷ record { takes = 2 ∷ []; gives = 1 ∷ [] } ∷ record { takes = 1 ∷ []; gives = 1 ∷ [] } ∷ [];
  rows = (3 ∷ []) ∷ [];
}

abbrev pub case_of : ℕ → ℕ → Case
case_of row rule = record { row = row; rule = rule; number = 0 }

-- The place is as full as a model holds.
abbrev pub full : Marking
full = tally (65535 ∷ [])

-- One pump: places token, holding, waiting. Row 0: two hold the pump.
abbrev pub pump : CountedBook
pump = record {
  opening = 1 ∷ 0 ∷ 0 ∷ [];
  rules = record { takes = 0 ∷ 0 ∷ 0 ∷ []; gives = 0 ∷ 0 ∷ 1 ∷ [] } ∷ record { takes = 1 ∷ 0 ∷ 1 ∷ []; gives = 0 ∷ 1 ∷ 0 ∷ [] } ∷ record { takes = 0 ∷ 1 ∷ 0 ∷ []; gives = 1 ∷ 0 ∷ 0 ∷ [] } ∷ [];
  rows = (0 ∷ 2 ∷ 0 ∷ []) ∷ (1 ∷ 1 ∷ 0 ∷ []) ∷ (2 ∷ 0 ∷ 0 ∷ []) ∷ [];
}

abbrev pub claim : ℕ → Claim
claim row = record { row = row; matching = [] }

-- The same rules with other rows: any, a token, two tokens, a token while one holds the pump, two hold it.
abbrev pub pump_below : CountedBook
pump_below = record {
  opening = pump.opening;
  rules = pump.rules;
  rows = (0 ∷ 0 ∷ 0 ∷ []) ∷ (1 ∷ 0 ∷ 0 ∷ []) ∷ (2 ∷ 0 ∷ 0 ∷ []) ∷ (1 ∷ 1 ∷ 0 ∷ []) ∷ (0 ∷ 2 ∷ 0 ∷ []) ∷ [];
}

abbrev pub pair : ℕ → Mode → ObserverRow
pair below mode = record { below = below; mode = mode }

-- An observer that counts in modes 0, 1, 2 how often the pump was taken since it was last let go. Row 0: twice in a row.
abbrev pub held_twice : ObservedBook CountedBook
held_twice = record {
  below = pump_below;
  moves = Zero ∷ One ∷ Two ∷ Three ∷ One ∷ Two ∷ Two ∷ Three ∷ Zero ∷ Zero ∷ Two ∷ Three ∷ [];
  rows = pair 0 Two ∷ pair 1 One ∷ pair 2 Zero ∷ pair 3 Zero ∷ pair 4 Zero ∷ pair 4 One ∷ [];
}

-- Two observers: the lower has seen somebody hold the pump, the upper has seen somebody come. Row 0: the one without the other.
abbrev pub pump_waiting : CountedBook
pump_waiting = record { opening = pump.opening; rules = pump.rules; rows = (0 ∷ 0 ∷ 0 ∷ []) ∷ (0 ∷ 0 ∷ 1 ∷ []) ∷ [] }

abbrev pub held_seen : ObservedBook CountedBook
held_seen = record {
  below = pump_waiting;
  moves = Zero ∷ One ∷ Two ∷ Three ∷ One ∷ One ∷ Two ∷ Three ∷ Zero ∷ One ∷ Two ∷ Three ∷ [];
  rows = pair 0 One ∷ pair 1 Zero ∷ [];
}

abbrev pub come_seen : ObservedBook (ObservedBook CountedBook)
come_seen = record {
  below = held_seen;
  moves = One ∷ One ∷ Two ∷ Three ∷ Zero ∷ One ∷ Two ∷ Three ∷ Zero ∷ One ∷ Two ∷ Three ∷ [];
  rows = pair 0 Zero ∷ pair 1 Zero ∷ [];
}

abbrev pub once_observed : Meaning (Marking × Mode)
once_observed = observed (counted_meaning pump_below) held_twice

abbrev pub twice_observed : Meaning ((Marking × Mode) × Mode)
twice_observed = observed (observed (counted_meaning pump_waiting) held_seen) come_seen

abbrev pub case_at : ℕ → ℕ → ℕ → Case
case_at row rule number = record { row = row; rule = rule; number = number }

pub record Worked : Type 0 where
  -- take 0, give 1, row 3: the earlier pattern asks for 2, and the case is open
  pub gives_one : earlier_of one_place (case_of 0 0) 0 ≡ 2
  pub gives_one_open : sort_of one_place (case_of 0 0) ≡ Open
  -- take 2, give 1, row 3: it asks for 4, and the case is the row's own
  pub takes_two : earlier_of one_place (case_of 0 1) 0 ≡ 4
  pub takes_two_own : sort_of one_place (case_of 0 1) ≡ Own
  -- a full place: take 0, give 1 is beyond the model; take 1, give 1 fires
  pub full_refuses : Fired (counted_meaning one_place) full 0 [] (Err BeyondModel) full
  pub full_fires : Fired (counted_meaning one_place) full 2 [] (Ok tt) full
  -- the open cases of the pump's book, in walk order, and a table that is accepted
  pub pump_open : open_cases (counted_meaning pump) ≡ case_of 0 1 ∷ case_of 1 1 ∷ case_of 1 2 ∷ case_of 2 2 ∷ []
  pub pump_accepted : Accepted (counted_meaning pump) (claim 1 ∷ claim 2 ∷ claim 0 ∷ claim 1 ∷ [])
  -- an observer over it: of the four cases of row 0 and rule 1, mode 0 does not move to mode 2, mode 1 does, mode 2 stays there
  pub observed_idle : once_observed.sort (case_at 0 1 0) ≡ Idle
  pub observed_open : once_observed.sort (case_at 0 1 1) ≡ Open
  pub observed_own : once_observed.sort (case_at 0 1 2) ≡ Own
  pub observed_walk : open_cases once_observed ≡ case_at 0 1 1 ∷ case_at 1 1 0 ∷ case_at 2 2 0 ∷ case_at 2 2 1 ∷ case_at 3 2 0 ∷ case_at 3 2 1 ∷ case_at 4 2 1 ∷ case_at 5 1 0 ∷ []
  -- an observer over an observer: sixteen cases for a row and a rule, of which one is open
  pub twice_cases : twice_observed.cases 0 1 ≡ 16
  pub twice_walk : open_cases twice_observed ≡ case_at 0 1 0 ∷ []
