-- A kind keeps its duties among the states of a larger type.
use Rattle.std.specs.Prelude.{◌≡◌, ℕ, ◌<◌, List, Some, None, Ok, Err, Option, Result, refl}
use Rattle.std.proofs.Common.{sym, ap, ◌∙◌, subst, arith}
use Rattle.pattern.specs.declared.Case.{Case}
use Rattle.pattern.specs.declared.Sort.TheVariants.{Idle, Own}
use Rattle.pattern.specs.declared.Covering.TheVariants.{Covers}
use Rattle.pattern.specs.declared.FireRefusal.{FireRefusal}
use Rattle.pattern.specs.declared.FireRefusal.TheVariants.{NoSuchRule, ChoiceNotHeld, ConditionNotMet, EffectContradictory, BeyondModel}
use Rattle.pattern.specs.Meaning.{Meaning, Step, to, stuck}
use Rattle.pattern.specs.Duty.{Duties, Ground}
use Rattle.pattern.specs.Call.{Fired}
use Rattle.either_kind.specs.Side.{At, NextAt, NextFrom, lifted}

-- The kind's states are told from the others, and a state of the larger type is the one that it holds.
module _ {S U : Type 0} (inject : S → U) (part : U → Option S) (back : (s : S) → part (inject s) ≡ Some s) (forth : (u : U) (s : S) → part u ≡ Some s → inject s ≡ u) (m : Meaning S) where
  -- A fact of a state of the kind is one of that state in the larger type.
  at_inject : (P : S → Type 0) (s : S) → P s → At inject part m P (part (inject s))
  at_inject P s w = subst (At inject part m P) (sym (back s)) w

  at_not : (P : S → Type 0) (s : S) → (P s → ⊥) → At inject part m P (part (inject s)) → ⊥
  at_not P s w x = w (subst (At inject part m P) (back s) x)

  next_inject : (s : S) (rule : ℕ) (choice : List ℕ) (x : Step U) → NextAt inject part m s rule choice x → NextFrom inject part m (part (inject s)) rule choice x
  next_inject s rule choice x w = subst (λ (o : Option S). NextFrom inject part m o rule choice x) (sym (back s)) w

  module _ (d : Duties m) where
    steps_back : (u v : U) (row rule : ℕ) (choice : List ℕ) → row < m.rows → rule < m.rules → (lifted inject part m).Next u rule choice (to v) → (lifted inject part m).Stands row v → (n : ℕ) × (n < m.cases row rule) × (lifted inject part m).Earlier (record { row = row; rule = rule; number = n }) u
    steps_back u v row rule choice h k = from (part u)
      where
        into : (s : S) (o : Option S) → At inject part m (λ t. m.Next s rule choice (to t)) o → At inject part m (m.Stands row) o → (n : ℕ) × (n < m.cases row rule) × m.Earlier (record { row = row; rule = rule; number = n }) s
        into s None x stands = elim x [ ]
        into s (Some t) x stands = d.steps_back s t row rule choice h k x stands

        from : (o : Option S) → NextFrom inject part m o rule choice (to v) → At inject part m (m.Stands row) (part v) → (n : ℕ) × (n < m.cases row rule) × At inject part m (m.Earlier (record { row = row; rule = rule; number = n })) o
        from None x stands = absurd (let z : ◌≡◌ {A = ℕ} 0 1 = cc in omega arith)
        from (Some s) x stands = into s (part v) x stands

    idle_empty : (c : Case) (o : Option S) → m.sort c ≡ Idle → At inject part m (m.Earlier c) o → ⊥
    idle_empty c None e w = w
    idle_empty c (Some s) e w = d.idle_empty c s e w

    own_stands : (c : Case) (o : Option S) → m.sort c ≡ Own → At inject part m (m.Earlier c) o → At inject part m (m.Stands c.row) o
    own_stands c None e w = w
    own_stands c (Some s) e w = d.own_stands c s e w

    covered_stands : (c : Case) (named : ℕ) (matching : List ℕ) (o : Option S) → m.covering c named matching ≡ Covers → At inject part m (m.Earlier c) o → At inject part m (m.Stands named) o
    covered_stands c named matching None e w = w
    covered_stands c named matching (Some s) e w = d.covered_stands c named matching s e w

    next_one : (o : Option S) (rule : ℕ) (choice : List ℕ) (x y : Step U) → NextFrom inject part m o rule choice x → NextFrom inject part m o rule choice y → x ≡ y
    next_one None rule choice x y p q = p ∙ sym q
    next_one (Some s) rule choice (to v) (to w) p q = ends (part v) (part w) refl refl p q
      where
        ends : (a b : Option S) → part v ≡ a → part w ≡ b → At inject part m (λ t. m.Next s rule choice (to t)) a → At inject part m (λ t. m.Next s rule choice (to t)) b → to v ≡ to w
        ends None b e f p q = elim p [ ]
        ends (Some t) None e f p q = elim q [ ]
        ends (Some t) (Some u) e f p q =
            let one : to t ≡ to u = d.next_one s rule choice (to t) (to u) p q in
            let same : t ≡ u = cc in
            ap to (sym (forth v t e) ∙ ap inject same ∙ forth w u f)
    next_one (Some s) rule choice (to v) (stuck why) p q = absurd (apart (part v) p)
      where
        apart : (a : Option S) → At inject part m (λ t. m.Next s rule choice (to t)) a → ⊥
        apart None p = p
        apart (Some t) p = let one : to t ≡ stuck why = d.next_one s rule choice (to t) (stuck why) p q in let z : ◌≡◌ {A = ℕ} 0 1 = cc in omega arith
    next_one (Some s) rule choice (stuck why) (to v) p q = absurd (apart (part v) q)
      where
        apart : (a : Option S) → At inject part m (λ t. m.Next s rule choice (to t)) a → ⊥
        apart None q = q
        apart (Some t) q = let one : to t ≡ stuck why = d.next_one s rule choice (to t) (stuck why) q p in let z : ◌≡◌ {A = ℕ} 0 1 = cc in omega arith
    next_one (Some s) rule choice (stuck why) (stuck other) p q = let one : ◌≡◌ {A = Step S} (stuck why) (stuck other) = d.next_one s rule choice (stuck why) (stuck other) p q in let same : why ≡ other = cc in ap stuck same

    next_some : (o : Option S) (rule : ℕ) (choice : List ℕ) → rule < m.rules → ((x : Step U) → NextFrom inject part m o rule choice x → ⊥) → ⊥
    next_some None rule choice h none = none (stuck ConditionNotMet) refl
    next_some (Some s) rule choice h none = d.next_some s rule choice h below
      where
        below : (x : Step S) → m.Next s rule choice x → ⊥
        below (to t) w = none (to (inject t)) (at_inject (λ u. m.Next s rule choice (to u)) t w)
        below (stuck why) w = none (stuck why) w

    grounds : (o : Option S) (rule : ℕ) (choice : List ℕ) (why : FireRefusal) → rule < m.rules → At inject part m (λ s. m.HoldsChoice rule s choice) o → NextFrom inject part m o rule choice (stuck why) → Ground why
    grounds None rule choice why h w x = elim w [ ]
    grounds (Some s) rule choice why h w x = d.grounds s rule choice why h w x

    pub lifted_duties : Duties (lifted inject part m)
    lifted_duties = record {
      steps_back = steps_back;
      idle_empty = λ c u. idle_empty c (part u);
      own_stands = λ c u. own_stands c (part u);
      covered_stands = λ c named matching u. covered_stands c named matching (part u);
      opening_held = at_inject m.Holds m.opening d.opening_held;
      next_one = λ u. next_one (part u);
      next_some = λ u. next_some (part u);
      grounds = λ u. grounds (part u);
      rules_allowed = d.rules_allowed;
      rows_allowed = d.rows_allowed;
      cases_allowed = d.cases_allowed;
    }

  -- A firing of the kind is one in the larger type.
  pub fired_above : (s t : S) (rule : ℕ) (choice : List ℕ) (r : Result (Unit {0}) FireRefusal) → Fired m s rule choice r t → Fired (lifted inject part m) (inject s) rule choice r (inject t)
  fired_above s t rule choice (Ok _) w = (w.0, at_inject (λ x. m.HoldsChoice rule x choice) s w.1, next_inject s rule choice (to (inject t)) (at_inject (λ x. m.Next s rule choice (to x)) t w.2), at_inject m.Holds t w.3)
  fired_above s t rule choice (Err NoSuchRule) w = (w.0, ap inject w.1)
  fired_above s t rule choice (Err ChoiceNotHeld) w = (w.0, at_not (λ x. m.HoldsChoice rule x choice) s w.1, ap inject w.2)
  fired_above s t rule choice (Err ConditionNotMet) w = (w.0, at_inject (λ x. m.HoldsChoice rule x choice) s w.1, next_inject s rule choice (stuck ConditionNotMet) w.2, ap inject w.3)
  fired_above s t rule choice (Err EffectContradictory) w = (w.0, at_inject (λ x. m.HoldsChoice rule x choice) s w.1, next_inject s rule choice (stuck EffectContradictory) w.2, ap inject w.3)
  fired_above s t rule choice (Err BeyondModel) w =
      let u = w.2.0 in
      (w.0, at_inject (λ x. m.HoldsChoice rule x choice) s w.1, (inject u, next_inject s rule choice (to (inject u)) (at_inject (λ x. m.Next s rule choice (to x)) u w.2.1), at_not m.Holds u w.2.2), ap inject w.3)
