-- A kind whose states are one part of a larger type: the states of the other part are in no row.
use Rattle.std.specs.Prelude.{◌≡◌, ℕ, ◌⊎◌, List, Some, None, Option}
use Rattle.std.proofs.Common.{inl, inr}
use Rattle.pattern.specs.declared.FireRefusal.TheVariants.{ConditionNotMet}
use Rattle.pattern.specs.Meaning.{Meaning, Step, to, stuck}

module _ {S U : Type 0} (inject : S → U) (part : U → Option S) (m : Meaning S) where
  -- A fact of a state of the kind, at a state that is one.
  abbrev pub At : (S → Type 0) → Option S → Type 0
  At P None = ⊥
  At P (Some s) = P s

  -- What comes of a state of the kind.
  abbrev pub NextAt : S → ℕ → List ℕ → Step U → Type 0
  NextAt s rule choice (to u) = At (λ t. m.Next s rule choice (to t)) (part u)
  NextAt s rule choice (stuck why) = m.Next s rule choice (stuck why)

  -- No rule has its condition met in a state of the other part.
  abbrev pub NextFrom : Option S → ℕ → List ℕ → Step U → Type 0
  NextFrom None rule choice x = x ≡ stuck ConditionNotMet
  NextFrom (Some s) rule choice x = NextAt s rule choice x

  abbrev pub lifted : Meaning U
  lifted = record {
    opening = inject m.opening;
    rules = m.rules;
    rows = m.rows;
    Next = λ u. NextFrom (part u);
    Stands = λ row u. At (m.Stands row) (part u);
    cases = m.cases;
    Earlier = λ c u. At (m.Earlier c) (part u);
    sort = m.sort;
    matching_length = m.matching_length;
    covering = m.covering;
    HoldsChoice = λ rule u choice. At (λ s. m.HoldsChoice rule s choice) (part u);
    Holds = λ u. At m.Holds (part u);
  }

-- The parts of a sum.
abbrev pub left_part : {S T : Type 0} → S ⊎ T → Option S
left_part (inl s) = Some s
left_part (inr t) = None

abbrev pub right_part : {S T : Type 0} → S ⊎ T → Option T
right_part (inl s) = None
right_part (inr t) = Some t

-- What a book of either kind means.
abbrev pub either_meaning : {S T A B : Type 0} → (A → Meaning S) → (B → Meaning T) → A ⊎ B → Meaning (S ⊎ T)
either_meaning f g (inl a) = lifted inl left_part (f a)
either_meaning f g (inr b) = lifted inr right_part (g b)
