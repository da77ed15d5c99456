-- What a firing does, by what was found of the rule in the state.
use Rattle.std.proofs.Common.{◌≡◌, ℕ, ◌<◌, List, length, get_or, Ok, Err, refl, inl, inr, arith}
use Rattle.std.specs.List.{AllByRecursion}
use Rattle.std.proofs.lemmas.List.{get_or_past}
use Rattle.std.proofs.ByRecursion.{All-get_or, All-weaker, All-map}
use Rattle.std.proofs.lemmas.Bool.{cases_lt}
use Rattle.pattern.specs.declared.FireRefusal.{FireRefusal}
use Rattle.pattern.specs.declared.FireRefusal.TheVariants.{NoSuchRule, ChoiceNotHeld, ConditionNotMet, EffectContradictory, BeyondModel}
use Rattle.literals.specs.declared.Fact.{Fact}
use Rattle.literals.specs.declared.Fact.TheVariants.{Unary, Binary, From, Into}
use Rattle.literals.specs.State.{State, fact_under, under, chosen}
use Rattle.atoms.specs.Fire.{Transition, fires, not_met, contradicts, after}
use Rattle.atoms.specs.Book.{Held, ChoiceHeld, object_count}
use Rattle.atoms.specs.Range.{FactIn, LiteralIn, RuleIn}
use Rattle.atoms.specs.Firing.{Checked, Fires}

-- The effect of a rule on held objects is in the model.
object_at : (choice : List ℕ) → AllByRecursion (λ d. d < object_count) choice → (x : ℕ) → get_or choice x 0 < object_count
object_at choice all x = elim (cases_lt x (length choice)) [
  | inl l ↦ All-get_or (λ d. d < object_count) choice x 0 l all
  | inr l ↦ omega (arith, get_or_past choice x 0 l)
]

fact_in : (n : ℕ) (f : ℕ → ℕ) → ((x : ℕ) → f x < object_count) → (x : Fact) → FactIn n x → FactIn object_count (fact_under f x)
fact_in n f held (Unary a x) h = (h.0, held x)
fact_in n f held (Binary b x y) h = (h.0, held x, held y)
fact_in n f held (From b x) h = (h.0, held x)
fact_in n f held (Into b x) h = (h.0, held x)

pub effect_in : (r : Transition) (choice : List ℕ) → RuleIn r → ChoiceHeld r choice → AllByRecursion (LiteralIn object_count) (chosen choice r.effect)
effect_in r choice ranged held =
    All-map (LiteralIn object_count) (under (λ x. get_or choice x 0)) r.effect
    (All-weaker (LiteralIn r.variables) (λ l. LiteralIn object_count (under (λ x. get_or choice x 0) l)) (λ l h. fact_in r.variables (λ x. get_or choice x 0) (object_at choice held.1) l.fact h) r.effect ranged.effect_in)

module _ (r : Transition) (s : State) (choice : List ℕ) where
  pub refusing : (e : FireRefusal) → Checked r s choice (Err e) → Fires r s choice (Err e) s
  refusing NoSuchRule w = elim w [ ]
  refusing ChoiceNotHeld w = (w, refl)
  refusing ConditionNotMet w = (w.0, not_met w.0.0 w.1, refl)
  refusing EffectContradictory w = (w.0, contradicts w.0.0 w.1 w.2, refl)
  refusing BeyondModel w = elim w [ ]

  pub firing : (t : State) → Checked r s choice (Ok tt) → t ≡ after (chosen choice r.effect) s → Held t → Fires r s choice (Ok tt) t
  firing t w is held = (w.0, fires w.0.0 w.1 w.2 is, held)
