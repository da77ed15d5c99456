-- A counted book keeps the duties of a pattern kind.
use Rattle.std.specs.Prelude.{◌≡◌, ℕ, ◌<◌, Bool, true, false, cond, ◌&&◌, List, [], length, Decides, ◌==◌, ◌≢◌, nat_lt, refl}
use Rattle.std.proofs.Common.{sym, ap, ◌∙◌, inl, inr, arith}
use Rattle.std.proofs.lemmas.Bool.{and_parts, and_from, ltb-true, lt-ltb, eqb-true, eq-eqb, cases_lt, cond-true, cond_both}
use Rattle.pattern.specs.declared.Case.{Case}
use Rattle.pattern.specs.declared.FireRefusal.{FireRefusal}
use Rattle.pattern.specs.declared.FireRefusal.TheVariants.{ChoiceNotHeld, ConditionNotMet}
use Rattle.pattern.specs.declared.Sort.TheVariants.{Idle, Own, Open}
use Rattle.pattern.specs.declared.Covering.TheVariants.{Malformed, Covers, DoesNotCover}
use Rattle.pattern.specs.Meaning.{Step, to, stuck}
use Rattle.pattern.specs.Duty.{Duties, Ground, RulesAllowed, RowsAllowed, CasesAllowed}
use Rattle.counts.specs.Net.{Marking, tally, ◌⊑◌, after, Held}
use Rattle.counts.specs.Counted.{CountedBook, takes_of, gives_of, row_at, earlier_of, Exists, exists, NextOf, fires, choice_given, not_enough, StandsOf, EarlierOf, covers, covering_of, counted_meaning, Exact}
use Rattle.counts.specs.Patterns.{decides_at_most}

module _ (b : CountedBook) where
  pub decides_exists : (c : Case) → Decides (exists b c) (Exists b c)
  decides_exists c = (there, here)
    where
      there : exists b c ≡ true → Exists b c
      there e =
          let p = and_parts (nat_lt c.row (length b.rows) && nat_lt c.rule (length b.rules)) (c.number == 0) e in
          let q = and_parts (nat_lt c.row (length b.rows)) (nat_lt c.rule (length b.rules)) p.0 in
          record { row_in = ltb-true c.row (length b.rows) q.0; rule_in = ltb-true c.rule (length b.rules) q.1; number_in = eqb-true c.number 0 p.1 }

      here : Exists b c → exists b c ≡ true
      here x = and_from _ _ (and_from _ _ (lt-ltb c.row (length b.rows) x.row_in) (lt-ltb c.rule (length b.rules) x.rule_in)) (eq-eqb c.number 0 x.number_in)

  -- Going back from a state of the row.
  comes_from : (s t : Marking) (c : Case) (choice : List ℕ) → NextOf b s c.rule choice (to t) → StandsOf b c.row t → Exists b c → EarlierOf b c s
  comes_from s t c choice (fires h e enough is) stands x =
      (x, λ place. omega (arith, enough place, stands.1 place, ap (λ (u : Marking). u place) is))

  -- Going on from an earlier state.
  leads_in : (c : Case) (s : Marking) → EarlierOf b c s → (t : Marking) × NextOf b s c.rule [] (to t) × StandsOf b c.row t
  leads_in c s e = (
    after (takes_of b c.rule) (gives_of b c.rule) s,
    fires e.0.rule_in refl (λ place. omega (arith, e.1 place)) refl,
    (e.0.row_in, λ place. omega (arith, e.1 place)),
  )

  pub exact : (c : Case) → Exact b c
  exact c = record { leads_in = leads_in c; comes_from = λ s t choice. comes_from s t c choice }

  next_one : (s : Marking) (rule : ℕ) (choice : List ℕ) (x y : Step Marking) → NextOf b s rule choice x → NextOf b s rule choice y → x ≡ y
  next_one s rule choice x y (fires h e enough is) (fires h' e' enough' is') = ap to (is ∙ sym is')
  next_one s rule choice x y (fires h e enough is) (choice_given h' e') = absurd (omega arith)
  next_one s rule choice x y (fires h e enough is) (not_enough h' e' few) = absurd (few enough)
  next_one s rule choice x y (choice_given h e) (fires h' e' enough is) = absurd (omega arith)
  next_one s rule choice x y (choice_given h e) (choice_given h' e') = refl
  next_one s rule choice x y (choice_given h e) (not_enough h' e' few) = absurd (omega arith)
  next_one s rule choice x y (not_enough h e few) (fires h' e' enough is) = absurd (few enough)
  next_one s rule choice x y (not_enough h e few) (choice_given h' e') = absurd (omega arith)
  next_one s rule choice x y (not_enough h e few) (not_enough h' e' few') = refl

  next_some : (s : Marking) (rule : ℕ) (choice : List ℕ) → rule < length b.rules → ((x : Step Marking) → NextOf b s rule choice x → ⊥) → ⊥
  next_some s rule choice h none = elim (cases_lt 0 (length choice)) [
    | inl l ↦ none (stuck ChoiceNotHeld) (choice_given h l)
    | inr l ↦ none (stuck ConditionNotMet) (not_enough h (omega arith) (λ enough. none (to (after (takes_of b rule) (gives_of b rule) s)) (fires h (omega arith) enough refl)))
  ]

  grounds : (s : Marking) (rule : ℕ) (choice : List ℕ) (why : FireRefusal) → length choice ≡ 0 → NextOf b s rule choice (stuck why) → Ground why
  grounds s rule choice why e (choice_given h l) = absurd (omega arith)
  grounds s rule choice why e (not_enough h l few) = tt

  steps_back : (s t : Marking) (row rule : ℕ) (choice : List ℕ) → row < length b.rows → rule < length b.rules → NextOf b s rule choice (to t) → StandsOf b row t → (n : ℕ) × (n < (counted_meaning b).cases row rule) × EarlierOf b (record { row = row; rule = rule; number = n }) s
  steps_back s t row rule choice h k x stands = (
    0,
    rw (cond-true {A = ℕ} (nat_lt row (length b.rows) && nat_lt rule (length b.rules)) 1 0 (and_from _ _ (lt-ltb row (length b.rows) h) (lt-ltb rule (length b.rules) k))) (omega arith),
    comes_from s t (record { row = row; rule = rule; number = 0 }) choice x stands (record { row_in = h; rule_in = k; number_in = refl }),
  )

  -- the sorts, by their tests
  idle_test : (x y : Bool) → cond x (cond y Own Open) Idle ≡ Idle → x ≢ true
  idle_test true true e h = let z : ◌≡◌ {A = ℕ} 0 1 = cc in omega arith
  idle_test true false e h = let z : ◌≡◌ {A = ℕ} 0 1 = cc in omega arith
  idle_test false y e h = let z : ◌≡◌ {A = ℕ} 0 1 = cc in omega arith

  own_test : (x y : Bool) → cond x (cond y Own Open) Idle ≡ Own → y ≡ true
  own_test true true e = refl
  own_test true false e = absurd (let z : ◌≡◌ {A = ℕ} 0 1 = cc in omega arith)
  own_test false y e = absurd (let z : ◌≡◌ {A = ℕ} 0 1 = cc in omega arith)

  covers_test : (x y : Bool) → cond x (cond y Covers DoesNotCover) Malformed ≡ Covers → (x ≡ true) × (y ≡ true)
  covers_test true true e = (refl, refl)
  covers_test true false e = absurd (let z : ◌≡◌ {A = ℕ} 0 1 = cc in omega arith)
  covers_test false y e = absurd (let z : ◌≡◌ {A = ℕ} 0 1 = cc in omega arith)

  -- Where the earlier pattern covers a row, its states are in it.
  covered : (c : Case) (row : ℕ) (s : Marking) → covers b c row ≡ true → EarlierOf b c s → tally (row_at b row) ⊑ s
  covered c row s e w place = omega (arith, (decides_at_most (row_at b row) (earlier_of b c)).0 e place, w.1 place)

  covered_stands : (c : Case) (named : ℕ) (matching : List ℕ) (s : Marking) → covering_of b c named matching ≡ Covers → EarlierOf b c s → StandsOf b named s
  covered_stands c named matching s e w =
      let p = covers_test (exists b c && nat_lt named (length b.rows) && length matching == 0) (covers b c named) e in
      let q = and_parts (exists b c && nat_lt named (length b.rows)) (length matching == 0) p.0 in
      let r = and_parts (exists b c) (nat_lt named (length b.rows)) q.0 in
      (ltb-true named (length b.rows) r.1, covered c named s p.1 w)

  -- The limits and the opening state are the constructor's part.
  pub counted_duties : RulesAllowed (length b.rules) → RowsAllowed (length b.rows) → Held (tally b.opening) → Duties (counted_meaning b)
  counted_duties rules_in rows_in held = record {
    steps_back = steps_back;
    idle_empty = λ c s e w. idle_test (exists b c) (covers b c c.row) e ((decides_exists c).1 w.0);
    own_stands = λ c s e w. (w.0.row_in, covered c c.row s (own_test (exists b c) (covers b c c.row) e) w);
    covered_stands = covered_stands;
    opening_held = held;
    next_one = next_one;
    next_some = next_some;
    grounds = λ s rule choice why h. grounds s rule choice why;
    rules_allowed = rules_in;
    rows_allowed = rows_in;
    cases_allowed = λ row rule. cond_both {A = ℕ} (nat_lt row (length b.rows) && nat_lt rule (length b.rules)) 1 0 CasesAllowed (λ _. omega arith) (λ _. omega arith);
  }
