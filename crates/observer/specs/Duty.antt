-- An observer over a kind that keeps its duties keeps them too.
use Rattle.std.specs.Prelude.{◌≡◌, ℕ, ◌+◌, ◌*◌, ◌/◌, ◌%◌, ◌<◌, Bool, true, false, cond, ◌&&◌, List, length, Decides, ◌==◌, nat_lt, refl}
use Rattle.std.proofs.Common.{sym, ap, ◌∙◌, subst, arith}
use Rattle.std.proofs.lemmas.Nat.{mul-add-lt, div-mul-add, mod-mul-add}
use Rattle.std.proofs.lemmas.Bool.{and_parts, and_from, ltb-true, lt-ltb, eqb-true, cond-true, cond_both}
use Rattle.std.proofs.lemmas.Bool.Decides.{Decides-and, Decides-ltb, Decides-like}
use Rattle.pattern.specs.declared.Case.{Case}
use Rattle.pattern.specs.declared.Sort.{Sort}
use Rattle.pattern.specs.declared.Sort.TheVariants.{Idle, Own, Open}
use Rattle.pattern.specs.declared.Covering.{Covering}
use Rattle.pattern.specs.declared.Covering.TheVariants.{Malformed, Covers, DoesNotCover}
use Rattle.pattern.specs.Meaning.{Meaning, Step, to, stuck}
use Rattle.pattern.specs.Duty.{Duties, CasesAllowed}
use Rattle.observer.specs.declared.mode.Mode.{Mode}
use Rattle.observer.specs.Mode.{mode_number, mode_count}
use Rattle.observer.specs.Observed.{ObservedBook, lifted, paired, move_of, row_at, cases_below, mode_before, case_below, Exists, exists, NextOf, StandsOf, EarlierOf, moves_in, stays_in, sort_of, covering_of, observed, InRange}
use Rattle.observer.specs.Modes.{number_below, same_number, decides_same}

-- what a sort or a covering that was lifted was below
lifted_idle : (moves stays : Bool) (x : Sort) → cond moves (lifted x stays) Idle ≡ Idle → moves ≡ true → x ≡ Idle
lifted_idle true stays Idle e h = refl
lifted_idle true true Own e h = e
lifted_idle true false Own e h = absurd (let z : ◌≡◌ {A = ℕ} 0 1 = cc in omega arith)
lifted_idle true stays Open e h = e
lifted_idle false stays x e h = absurd (let z : ◌≡◌ {A = ℕ} 0 1 = cc in omega arith)

lifted_own : (moves stays : Bool) (x : Sort) → cond moves (lifted x stays) Idle ≡ Own → (stays ≡ true) × (x ≡ Own)
lifted_own true stays Idle e = absurd (let z : ◌≡◌ {A = ℕ} 0 1 = cc in omega arith)
lifted_own true true Own e = (refl, refl)
lifted_own true false Own e = absurd (let z : ◌≡◌ {A = ℕ} 0 1 = cc in omega arith)
lifted_own true stays Open e = absurd (let z : ◌≡◌ {A = ℕ} 0 1 = cc in omega arith)
lifted_own false stays x e = absurd (let z : ◌≡◌ {A = ℕ} 0 1 = cc in omega arith)

paired_covers : (there same : Bool) (x : Covering) → cond there (paired x same) Malformed ≡ Covers → (there ≡ true) × (same ≡ true) × (x ≡ Covers)
paired_covers true same Malformed e = absurd (let z : ◌≡◌ {A = ℕ} 0 1 = cc in omega arith)
paired_covers true true Covers e = (refl, refl, refl)
paired_covers true false Covers e = absurd (let z : ◌≡◌ {A = ℕ} 0 1 = cc in omega arith)
paired_covers true same DoesNotCover e = absurd (let z : ◌≡◌ {A = ℕ} 0 1 = cc in omega arith)
paired_covers false same x e = absurd (let z : ◌≡◌ {A = ℕ} 0 1 = cc in omega arith)

module _ {S B : Type 0} (m : Meaning S) (b : ObservedBook B) where
  pub decides_exists : (c : Case) → Decides (exists m b c) (Exists m b c)
  decides_exists c =
      Decides-like (exists m b c) (λ x. record { row_in = x.0.0; rule_in = x.0.1; number_in = x.1 }) (λ x. ((x.row_in, x.rule_in), x.number_in))
      (Decides-and _ _ (Decides-and _ _ (Decides-ltb c.row (length b.rows)) (Decides-ltb c.rule m.rules)) (Decides-ltb c.number (mode_count * cases_below m b c.row c.rule)))

  module _ (d : Duties m) (r : InRange m b) where
    -- The case of an earlier mode and a case below.
    steps_back : (s t : S × Mode) (row rule : ℕ) (choice : List ℕ) → row < length b.rows → rule < m.rules → NextOf m b s rule choice (to t) → StandsOf m b row t → (n : ℕ) × (n < (observed m b).cases row rule) × EarlierOf m b (record { row = row; rule = rule; number = n }) s
    steps_back s t row rule choice h k x stands =
        let back = d.steps_back s.0 t.0 (row_at m b row).below rule choice (r.2 row h) k x.0 stands.1 in
        let B : ℕ = cases_below m b row rule in
        let q : ℕ = mode_number s.1 in
        let n : ℕ = q * B + back.0 in
        let quotient : n / B ≡ q = div-mul-add q B back.0 back.1 in
        let remainder : n % B ≡ back.0 = mod-mul-add q B back.0 back.1 in
        let below : n < mode_count * B = omega (arith, mul-add-lt q B back.0 mode_count (number_below s.1) back.1) in (
          n,
          rw (cond-true {A = ℕ} (nat_lt row (length b.rows) && nat_lt rule m.rules) (mode_count * B) 0 (and_from _ _ (lt-ltb row (length b.rows) h) (lt-ltb rule m.rules k))) below,
          (
            record { row_in = h; rule_in = k; number_in = below },
            subst (λ (i : ℕ). m.Earlier (record { row = (row_at m b row).below; rule = rule; number = i }) s.0) (sym remainder) back.2,
            sym quotient,
            ap (move_of m b rule) quotient ∙ sym x.1 ∙ stands.2,
          ),
        )

    moves_there : (c : Case) (s : S × Mode) → EarlierOf m b c s → (exists m b c && moves_in m b c) ≡ true
    moves_there c s w = and_from _ _ ((decides_exists c).1 w.0) ((decides_same (move_of m b c.rule (mode_before m b c)) (row_at m b c.row).mode).1 w.3)

    own_stands : (c : Case) (s : S × Mode) → sort_of m b c ≡ Own → EarlierOf m b c s → StandsOf m b c.row s
    own_stands c s e w =
        let own = lifted_own (exists m b c && moves_in m b c) (stays_in m b c) (m.sort (case_below m b c)) e in (
          w.0.row_in,
          d.own_stands (case_below m b c) s.0 own.1 w.1,
          same_number s.1 (row_at m b c.row).mode (w.2 ∙ eqb-true (mode_before m b c) (mode_number (row_at m b c.row).mode) own.0),
        )

    covered_stands : (c : Case) (named : ℕ) (matching : List ℕ) (s : S × Mode) → covering_of m b c named matching ≡ Covers → EarlierOf m b c s → StandsOf m b named s
    covered_stands c named matching s e w =
        let covered = paired_covers (exists m b c && nat_lt named (length b.rows)) (mode_number (row_at m b named).mode == mode_before m b c) (m.covering (case_below m b c) (row_at m b named).below matching) e in
        let there = and_parts (exists m b c) (nat_lt named (length b.rows)) covered.0 in (
          ltb-true named (length b.rows) there.1,
          d.covered_stands (case_below m b c) (row_at m b named).below matching s.0 covered.2 w.1,
          same_number s.1 (row_at m b named).mode (w.2 ∙ sym (eqb-true (mode_number (row_at m b named).mode) (mode_before m b c) covered.1)),
        )

    next_one : (s : S × Mode) (rule : ℕ) (choice : List ℕ) (x y : Step (S × Mode)) → NextOf m b s rule choice x → NextOf m b s rule choice y → x ≡ y
    next_one s rule choice (to t) (to u) x y =
        let one : to t.0 ≡ to u.0 = d.next_one s.0 rule choice (to t.0) (to u.0) x.0 y.0 in
        let same : t.0 ≡ u.0 = cc in
        let moved : t.1 ≡ u.1 = x.1 ∙ sym y.1 in
        λ i. to (same i, moved i)
    next_one s rule choice (to t) (stuck why) x y = absurd (apart (d.next_one s.0 rule choice (to t.0) (stuck why) x.0 y))
      where
        apart : to t.0 ≡ stuck why → ⊥
        apart e = let z : ◌≡◌ {A = ℕ} 0 1 = cc in omega arith
    next_one s rule choice (stuck why) (to t) x y = absurd (apart (d.next_one s.0 rule choice (stuck why) (to t.0) x y.0))
      where
        apart : stuck why ≡ to t.0 → ⊥
        apart e = let z : ◌≡◌ {A = ℕ} 0 1 = cc in omega arith
    next_one s rule choice (stuck why) (stuck other) x y = let one : ◌≡◌ {A = Step S} (stuck why) (stuck other) = d.next_one s.0 rule choice (stuck why) (stuck other) x y in let same : why ≡ other = cc in ap stuck same

    next_some : (s : S × Mode) (rule : ℕ) (choice : List ℕ) → rule < m.rules → ((x : Step (S × Mode)) → NextOf m b s rule choice x → ⊥) → ⊥
    next_some s rule choice h none = d.next_some s.0 rule choice h below
      where
        below : (x : Step S) → m.Next s.0 rule choice x → ⊥
        below (to t) x = none (to (t, move_of m b rule (mode_number s.1))) (x, refl)
        below (stuck why) x = none (stuck why) x

    cases_within : (row rule : ℕ) → CasesAllowed ((observed m b).cases row rule)
    cases_within row rule =
        cond_both {A = ℕ} (nat_lt row (length b.rows) && nat_lt rule m.rules) (mode_count * cases_below m b row rule) 0 CasesAllowed
        (λ e. let there = and_parts (nat_lt row (length b.rows)) (nat_lt rule m.rules) e in r.3 row (ltb-true row (length b.rows) there.0) rule (ltb-true rule m.rules there.1))
        (λ _. omega arith)

    pub observed_duties : Duties (observed m b)
    observed_duties = record {
      steps_back = steps_back;
      idle_empty = λ c s e w. d.idle_empty (case_below m b c) s.0 (lifted_idle (exists m b c && moves_in m b c) (stays_in m b c) (m.sort (case_below m b c)) e (moves_there c s w)) w.1;
      own_stands = own_stands;
      covered_stands = covered_stands;
      opening_held = d.opening_held;
      next_one = next_one;
      next_some = next_some;
      grounds = λ s. d.grounds s.0;
      rules_allowed = d.rules_allowed;
      rows_allowed = r.1;
      cases_allowed = cases_within;
    }
