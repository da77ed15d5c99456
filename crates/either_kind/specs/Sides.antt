-- The two parts of a sum.
use Rattle.std.specs.Prelude.{◌≡◌, ℕ, ◌⊎◌, List, Some, Result, refl}
use Rattle.std.proofs.Common.{sym, ap, subst, inl, inr, arith}
use Rattle.pattern.specs.declared.FireRefusal.{FireRefusal}
use Rattle.pattern.specs.Meaning.{Meaning}
use Rattle.pattern.specs.Call.{Fired}
use Rattle.either_kind.specs.declared.sum.Either.{Either}
use Rattle.either_kind.specs.declared.sum.Either.TheVariants.{Left, Right}
use Rattle.either_kind.specs.Side.{left_part, right_part, either_meaning}
use Rattle.either_kind.specs.Kind.{either_of}
use Rattle.either_kind.specs.Lifting.{fired_above}

module _ (S T : Type 0) where
  pub left_back : (s : S) → left_part {T = T} (inl s) ≡ Some s
  left_back s = refl

  pub left_forth : (u : S ⊎ T) (s : S) → left_part u ≡ Some s → inl s ≡ u
  left_forth (inl t) s e = let same : t ≡ s = cc in ap inl (sym same)
  left_forth (inr t) s e = absurd (let z : ◌≡◌ {A = ℕ} 0 1 = cc in omega arith)

  pub right_back : (t : T) → right_part {S = S} (inr t) ≡ Some t
  right_back t = refl

  pub right_forth : (u : S ⊎ T) (t : T) → right_part u ≡ Some t → inr t ≡ u
  right_forth (inl s) t e = absurd (let z : ◌≡◌ {A = ℕ} 0 1 = cc in omega arith)
  right_forth (inr s) t e = let same : s ≡ t = cc in ap inr (sym same)

-- A firing of the side that a value is of is a firing of the value.
module _ {X Y A B S T : Type 0} (mA : A → Meaning S) (mB : B → Meaning T) (bookA : X → A) (bookB : Y → B) (stateA : X → S) (stateB : Y → T) (e : Either X Y) (rule : ℕ) (choice : List ℕ) (r : Result (Unit {0}) FireRefusal) where
  pub left_fired : (a : X) (t : S) → e ≡ Left a → Fired (mA (bookA a)) (stateA a) rule choice r t → Fired (either_meaning mA mB (either_of bookA bookB e)) (either_of stateA stateB e) rule choice r (inl t)
  left_fired a t is w =
      subst (λ (x : Either X Y). Fired (either_meaning mA mB (either_of bookA bookB x)) (either_of stateA stateB x) rule choice r (inl t)) (sym is)
      (fired_above inl left_part (left_back S T) (left_forth S T) (mA (bookA a)) (stateA a) t rule choice r w)

  pub right_fired : (b : Y) (t : T) → e ≡ Right b → Fired (mB (bookB b)) (stateB b) rule choice r t → Fired (either_meaning mA mB (either_of bookA bookB e)) (either_of stateA stateB e) rule choice r (inr t)
  right_fired b t is w =
      subst (λ (x : Either X Y). Fired (either_meaning mA mB (either_of bookA bookB x)) (either_of stateA stateB x) rule choice r (inr t)) (sym is)
      (fired_above inr right_part (right_back S T) (right_forth S T) (mB (bookB b)) (stateB b) t rule choice r w)
