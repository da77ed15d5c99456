-- A book of atoms in range keeps the duties of a pattern kind.
use Rattle.std.specs.Prelude.{◌≡◌, ℕ, ◌<◌, Bool, true, false, cond, ◌&&◌, List, length, Decides, ◌≢◌, nat_lt, refl}
use Rattle.std.proofs.Common.{sym, ap, subst, ◌∙◌, inl, inr, arith}
use Rattle.std.proofs.lemmas.Bool.{and_parts, and_from, lt-ltb, ltb-true, both_ways, cond-true, cond_both, cases_eq, cases_Bool}
use Rattle.std.proofs.lemmas.Bool.Decides.{Decides-and, Decides-ltb, Decides-like}
use Rattle.std.proofs.lemmas.Grind.{common_steps}
use Rattle.pattern.specs.declared.Case.{Case}
use Rattle.pattern.specs.declared.FireRefusal.{FireRefusal}
use Rattle.pattern.specs.declared.FireRefusal.TheVariants.{ChoiceNotHeld, ConditionNotMet, EffectContradictory}
use Rattle.pattern.specs.declared.Sort.TheVariants.{Idle, Own, Open}
use Rattle.pattern.specs.declared.Covering.TheVariants.{Malformed, Covers, DoesNotCover}
use Rattle.pattern.specs.Meaning.{Step, to, stuck}
use Rattle.pattern.specs.Duty.{Duties, Ground, CasesAllowed}
use Rattle.literals.specs.State.{State, chosen}
use Rattle.literals.specs.Follow.{contradictory}
use Rattle.atoms.specs.Pattern.{Pattern, StandsIn}
use Rattle.atoms.specs.Fire.{Transition, after, Next, fires, wrong_length, not_met, contradicts}
use Rattle.atoms.specs.Book.{AtomsBook, rule_at, row_at, NextOf, StandsOf}
use Rattle.atoms.specs.Range.{RuleIn, RowIn, InRange}
use Rattle.predecessor.specs.Earlier.{case_count, earlier, idle, covers, covers_itself, well_formed}
use Rattle.predecessor.specs.Kind.{Exists, exists, idle_of, earlier_of, EarlierOf, sort_of, covering_of, atoms_meaning}
use Rattle.predecessor.specs.Ranges.{rule_in_range, row_in_range}
use Rattle.predecessor.specs.Limits.{few}
use Rattle.predecessor.specs.Stepping.{stepped}
use Rattle.predecessor.specs.Covering.{itself_stands, matched_stands}
use Rattle.predecessor.specs.Opening.{just_held}

module _ (r : Transition) (s : State) (choice : List ℕ) where
  -- What comes of a state is one thing, and never nothing.
  next_one : (x y : Step State) → Next r s choice x → Next r s choice y → x ≡ y
  next_one x y (fires long met fair is) (fires long' met' fair' is') = ap to (is ∙ sym is')
  next_one x y (fires long met fair is) (wrong_length wrong) = absurd (wrong long)
  next_one x y (fires long met fair is) (not_met long' fails) = absurd (fails met)
  next_one x y (fires long met fair is) (contradicts long' met' unfair) = absurd (both_ways _ fair unfair)
  next_one x y (wrong_length wrong) (fires long met fair is) = absurd (wrong long)
  next_one x y (wrong_length wrong) (wrong_length wrong') = refl
  next_one x y (wrong_length wrong) (not_met long fails) = absurd (wrong long)
  next_one x y (wrong_length wrong) (contradicts long met unfair) = absurd (wrong long)
  next_one x y (not_met long fails) (fires long' met fair is) = absurd (fails met)
  next_one x y (not_met long fails) (wrong_length wrong) = absurd (wrong long)
  next_one x y (not_met long fails) (not_met long' fails') = refl
  next_one x y (not_met long fails) (contradicts long' met unfair) = absurd (fails met)
  next_one x y (contradicts long met unfair) (fires long' met' fair is) = absurd (both_ways _ fair unfair)
  next_one x y (contradicts long met unfair) (wrong_length wrong) = absurd (wrong long)
  next_one x y (contradicts long met unfair) (not_met long' fails) = absurd (fails met)
  next_one x y (contradicts long met unfair) (contradicts long' met' unfair') = refl

  next_some : ((x : Step State) → Next r s choice x → ⊥) → ⊥
  next_some none = elim (cases_eq (length choice) r.variables) [
    | inl long ↦ none (stuck ConditionNotMet) (not_met long (λ met. elim (cases_Bool (contradictory (chosen choice r.effect))) [
      | inl unfair ↦ none (stuck EffectContradictory) (contradicts long met unfair)
      | inr fair ↦ none (to (after (chosen choice r.effect) s)) (fires long met fair refl)
    ]))
    | inr wrong ↦ none (stuck ChoiceNotHeld) (wrong_length wrong)
  ]

  grounds : (why : FireRefusal) → length choice ≡ r.variables → Next r s choice (stuck why) → Ground why
  grounds why e (wrong_length wrong) = absurd (wrong e)
  grounds why e (not_met long fails) = tt
  grounds why e (contradicts long met unfair) = tt

  -- A firing into a row, backwards.
  back : (row : Pattern) (t : State) → RuleIn r → RowIn row → Next r s choice (to t) → StandsIn row t → (n : ℕ) × (n < case_count r row) × (idle r row n ≡ false) × StandsIn (earlier r row n) s
  back row t rule_in row_in (fires long met fair is) stands = stepped r row rule_in row_in s choice long met fair (subst (StandsIn row) is stands)

-- the sorts and coverings, by their tests
idle_test : (x y z : Bool) → cond x (cond y Idle (cond z Own Open)) Idle ≡ Idle → x ≡ true → y ≢ false
idle_test x y z e h k = grind (arith, common_steps)

own_test : (x y z : Bool) → cond x (cond y Idle (cond z Own Open)) Idle ≡ Own → z ≡ true
own_test x y z e = grind (arith, common_steps)

covers_test : (x y z : Bool) → cond x (cond y (cond z Covers DoesNotCover) Malformed) Malformed ≡ Covers → (x ≡ true) × (y ≡ true) × (z ≡ true)
covers_test x y z e = grind (arith, common_steps)

module _ (b : AtomsBook) where
  pub decides_exists : (c : Case) → Decides (exists b c) (Exists b c)
  decides_exists c =
      Decides-like (exists b c) (λ x. record { row_in = x.0; rule_in = x.1.0; number_in = x.1.1 }) (λ x. (x.row_in, (x.rule_in, x.number_in)))
      (Decides-and _ _ (Decides-ltb c.row (length b.rows)) (Decides-and _ _ (Decides-ltb c.rule (length b.rules)) (Decides-ltb c.number (case_count (rule_at b c.rule) (row_at b c.row)))))

  own_stands : (c : Case) (s : State) → sort_of b c ≡ Own → EarlierOf b c s → StandsOf b c.row s
  own_stands c s e w = (
    w.there.row_in,
    itself_stands (earlier_of b c).literals w.stands.place s w.stands.all_hold (earlier_of b c).variables w.stands.different (row_at b c.row) (omega arith)
        (own_test (exists b c) (idle_of b c) (covers_itself (earlier_of b c).literals (row_at b c.row)) e),
  )

  covered_stands : (c : Case) (named : ℕ) (matching : List ℕ) (s : State) → covering_of b c named matching ≡ Covers → EarlierOf b c s → StandsOf b named s
  covered_stands c named matching s e w =
      let p = covers_test (exists b c && nat_lt named (length b.rows)) (well_formed (row_at b named) (earlier_of b c).variables matching) (covers (earlier_of b c).literals matching (row_at b named)) e in (
        ltb-true named (length b.rows) (and_parts (exists b c) (nat_lt named (length b.rows)) p.0).1,
        matched_stands (earlier_of b c).literals w.stands.place s w.stands.all_hold (earlier_of b c).variables w.stands.different (row_at b named) matching p.1 p.2,
      )

  module _ (range : InRange b) where
    steps_back : (s t : State) (row rule : ℕ) (choice : List ℕ) → row < length b.rows → rule < length b.rules → NextOf b s rule choice (to t) → StandsOf b row t → (n : ℕ) × (n < (atoms_meaning b).cases row rule) × EarlierOf b (record { row = row; rule = rule; number = n }) s
    steps_back s t row rule choice h k x stands =
        let w = back (rule_at b rule) s choice (row_at b row) t (rule_in_range b range rule k) (row_in_range b range row h) x.1 stands.1 in (
          w.0,
          rw (cond-true {A = ℕ} (nat_lt row (length b.rows) && nat_lt rule (length b.rules)) (case_count (rule_at b rule) (row_at b row)) 0 (and_from _ _ (lt-ltb row (length b.rows) h) (lt-ltb rule (length b.rules) k))) w.1,
          record { there = record { row_in = h; rule_in = k; number_in = w.1 }; not_idle = w.2; stands = w.3 },
        )

    cases_within : (row rule : ℕ) → CasesAllowed ((atoms_meaning b).cases row rule)
    cases_within row rule =
        cond_both {A = ℕ} (nat_lt row (length b.rows) && nat_lt rule (length b.rules)) (case_count (rule_at b rule) (row_at b row)) 0 CasesAllowed
        (λ e. let there = and_parts (nat_lt row (length b.rows)) (nat_lt rule (length b.rules)) e in few (rule_at b rule) (row_at b row) (rule_in_range b range rule (ltb-true rule (length b.rules) there.1)) (row_in_range b range row (ltb-true row (length b.rows) there.0)))
        (λ _. omega arith)

    pub atoms_duties : Duties (atoms_meaning b)
    atoms_duties = record {
      steps_back = steps_back;
      idle_empty = λ c s e w. idle_test (exists b c) (idle_of b c) (covers_itself (earlier_of b c).literals (row_at b c.row)) e ((decides_exists c).1 w.there) w.not_idle;
      own_stands = own_stands;
      covered_stands = covered_stands;
      opening_held = just_held b.opening range.opening_in;
      next_one = λ s rule choice x y p q. next_one (rule_at b rule) s choice x y p.1 q.1;
      next_some = λ s rule choice h none. next_some (rule_at b rule) s choice (λ x n. none x (h, n));
      grounds = λ s rule choice why h held n. grounds (rule_at b rule) s choice why held.0 n.1;
      rules_allowed = range.rules_in;
      rows_allowed = range.rows_in;
      cases_allowed = cases_within;
    }
