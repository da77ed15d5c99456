-- What a firing does, by what was found of the rule in the marking.
use Rattle.std.proofs.Common.{◌≡◌, ℕ, ◌<◌, ◌≤◌, List, length, IfOk, IfErr, Ok, Err, Result, sym, refl, subst, inl, inr, arith}
use Rattle.std.proofs.lemmas.Bool.{cases_lt}
use Rattle.std.proofs.lemmas.List.{get_or_past}
use Rattle.pattern.specs.declared.FireRefusal.{FireRefusal}
use Rattle.pattern.specs.declared.FireRefusal.TheVariants.{NoSuchRule, ChoiceNotHeld, ConditionNotMet, EffectContradictory, BeyondModel}
use Rattle.pattern.specs.Call.{Fired}
use Rattle.counts.specs.Net.{Marking, tally, after, Checked}
use Rattle.counts.specs.Counted.{Transition, CountedBook, rule_at, fires, not_enough, counted_meaning}

-- The places of a marking that a rule was applied to, as a whole.
pub applied : (takes gives marking left : List ℕ) → length left ≡ length marking → length gives ≤ length marking → ((place : ℕ) → place < length marking → tally left place ≡ after (tally takes) (tally gives) (tally marking) place) → tally left ≡ after (tally takes) (tally gives) (tally marking)
applied takes gives marking left e long h = λ i place. at place i
  where
    at : (place : ℕ) → tally left place ≡ after (tally takes) (tally gives) (tally marking) place
    at place = elim (cases_lt place (length marking)) [
      | inl l ↦ h place l
      | inr l ↦ omega (arith, get_or_past left place 0 (omega arith), get_or_past marking place 0 l, get_or_past gives place 0 (omega arith))
    ]

module _ (b : CountedBook) (rule : ℕ) (choice : List ℕ) (t : Transition) (rule_in : rule < length b.rules) (none : length choice ≡ 0) (t-is : t ≡ rule_at b rule) where
  checked_fired : (s u : Marking) → Checked (tally t.takes) (tally t.gives) s (Ok tt) → u ≡ after (tally t.takes) (tally t.gives) s → Fired (counted_meaning b) s rule choice (Ok tt) u
  checked_fired s u w is = (rule_in, none, fires rule_in none (rw t-is at w.0) (rw t-is at is), rw is w.1)

  checked_refused : (s : Marking) (why : FireRefusal) → Checked (tally t.takes) (tally t.gives) s (Err why) → Fired (counted_meaning b) s rule choice (Err why) s
  checked_refused s NoSuchRule w = elim w [ ]
  checked_refused s ChoiceNotHeld w = elim w [ ]
  checked_refused s ConditionNotMet w = (rule_in, none, not_enough rule_in none (rw t-is at w), refl)
  checked_refused s EffectContradictory w = elim w [ ]
  checked_refused s BeyondModel w = (rule_in, none, (after (tally t.takes) (tally t.gives) s, fires rule_in none (rw t-is at w.0) (rw t-is), w.1), refl)

  -- A rule that was fired on the marking, as the firing of a state.
  pub marking_fired : (marking lent left : List ℕ) (r : Result (Unit {0}) FireRefusal) → lent ≡ marking → Checked (tally t.takes) (tally t.gives) (tally lent) r → IfOk r (λ _. tally left ≡ after (tally t.takes) (tally t.gives) (tally lent)) → IfErr r (λ _. left ≡ lent) → Fired (counted_meaning b) (tally marking) rule choice r (tally left)
  marking_fired marking lent left r e w moved stays = subst (λ (xs : List ℕ). Fired (counted_meaning b) (tally xs) rule choice r (tally left)) e (lent_fired r w moved stays)
    where
      lent_fired : (r : Result (Unit {0}) FireRefusal) → Checked (tally t.takes) (tally t.gives) (tally lent) r → IfOk r (λ _. tally left ≡ after (tally t.takes) (tally t.gives) (tally lent)) → IfErr r (λ _. left ≡ lent) → Fired (counted_meaning b) (tally lent) rule choice r (tally left)
      lent_fired (Ok _) w moved stays = checked_fired (tally lent) (tally left) w moved
      lent_fired (Err why) w moved stays = subst (λ (xs : List ℕ). Fired (counted_meaning b) (tally lent) rule choice (Err why) (tally xs)) (sym stays) (checked_refused (tally lent) why w)
