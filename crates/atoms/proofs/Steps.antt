-- Placing one variable more.
use Rattle.std.proofs.Common.{◌≡◌, ℕ, ◌+◌, ◌-◌, ◌<◌, ◌≤◌, Bool, cond, eqb, List, [], ◌∷◌, ◌++◌, length, take, sym, ap, ◌∙◌, subst, ap₂, inl, inr, arith, below_more, length-append}
use Rattle.std.proofs.Math.ListN.{get_or-append}
use Rattle.std.proofs.Math.Seq.{get_or-append_seam, take-append_seam}
use Rattle.std.proofs.ByRecursion.{All-weaker}
use Rattle.std.specs.List.{AllByRecursion}
use Rattle.std.proofs.lemmas.Bool.{eq-eqb, ne_eqb, cases_eq}
use Rattle.std.proofs.lemmas.List.{length-take}
use Rattle.std.proofs.lemmas.List.Sums.{length-filter, count_by-le-length}
use Rattle.literals.specs.declared.Fact.{Fact}
use Rattle.literals.specs.declared.Fact.TheVariants.{Unary, Binary, From, Into}
use Rattle.literals.specs.declared.Literal.{Literal}
use Rattle.literals.specs.State.{State, Holds, fact_under, under, last_variable}
use Rattle.atoms.specs.Pattern.{Pattern}
use Rattle.atoms.specs.Placing.{at, MetAt, due, AllHoldAt, New, FitsAt, FirstFit, Placed, Extends}

-- A fact sees only its variables.
fact_same : (f g : ℕ → ℕ) (x : Fact) → ((j : ℕ) → j ≤ last_variable x → f j ≡ g j) → fact_under f x ≡ fact_under g x
fact_same f g (Unary a x) same = ap (Unary a) (same x (omega arith))
fact_same f g (Binary b x y) same = ap₂ (Binary b) (same x (omega arith)) (same y (omega arith))
fact_same f g (From b x) same = ap (From b) (same x (omega arith))
fact_same f g (Into b x) same = ap (Into b) (same x (omega arith))

under_same : (f g : ℕ → ℕ) (l : Literal) → ((j : ℕ) → j ≤ last_variable l.fact → f j ≡ g j) → under f l ≡ under g l
under_same f g l same = ap (λ (x : Fact). record { fact = x; affirmed = l.affirmed }) (fact_same f g l.fact same)

below_at : (P : ℕ → Type 0) (n : ℕ) {m : ℕ} → m ≡ n → ((i : ℕ) → i < n → P i) → (i : ℕ) → i < m → P i
below_at P n same all i h = all i (omega (arith, same))

fits_same : (p : Pattern) (s : State) (i : ℕ) (f g : ℕ → ℕ) → ((j : ℕ) → j ≤ i → f j ≡ g j) → FitsAt p s f i → FitsAt p s g i
fits_same p s i f g same fits = (
  λ j h q. fits.0 j h (same j (omega arith) ∙ q ∙ sym (same i (omega arith))),
  All-weaker (MetAt s f i) (MetAt s g i) (λ l met e. subst (Holds s) (under_same f g l (λ j h. same j (omega (arith, e)))) (met e)) p.literals fits.1,
)

-- One more that is placed, after those before.
module _ (before : List ℕ) (v : ℕ) where
  abbrev more : List ℕ
  more = before ++ v ∷ []

  kept : (i : ℕ) → i < length before → at more i ≡ at before i
  kept i h = get_or-append before (v ∷ []) 0 i h

  placed_last : at more (length before) ≡ v
  placed_last = get_or-append_seam before v [] 0

  pub one_more : length more ≡ length before + 1
  one_more = length-append before (v ∷ [])

  pub extends_more : (f : ℕ → ℕ) → Extends before f → f (length before) ≡ v → Extends more f
  extends_more f x e = below_at (λ i. f i ≡ at more i) (length before + 1) one_more (below_more (λ i. f i ≡ at more i) (length before) (λ i h. x i h ∙ sym (kept i h)) (e ∙ sym placed_last))

  module _ (p : Pattern) (s : State) where
    pub placed_more : Placed p s before → FitsAt p s (at more) (length before) → Placed p s more
    placed_more placed fits =
        below_at (FitsAt p s (at more)) (length before + 1) one_more (below_more (FitsAt p s (at more)) (length before) (λ i h. fits_same p s i (at before) (at more) (λ j g. sym (kept j (omega arith))) (placed i h)) fits)

    -- That it fits, said of a list that is this one.
    pub fits_here : (xs : List ℕ) → xs ≡ more → FitsAt p s (at xs) (length xs - 1) → FitsAt p s (at more) (length before)
    fits_here xs is fits = subst (FitsAt p s (at more)) (omega (arith, one_more)) (subst (λ (ys : List ℕ). FitsAt p s (at ys) (length ys - 1)) is fits)

    pub fits_there : (xs : List ℕ) → xs ≡ more → FitsAt p s (at more) (length before) → FitsAt p s (at xs) (length xs - 1)
    fits_there xs is fits = subst (λ (ys : List ℕ). FitsAt p s (at ys) (length ys - 1)) (sym is) (subst (FitsAt p s (at more)) (omega (arith, one_more)) fits)

    -- Where it does not fit, no placement has it next.
    pub not_here : (n : ℕ) (f : ℕ → ℕ) → length before < n → (FitsAt p s (at more) (length before) → ⊥) → Extends before f → FirstFit p s n f → f (length before) ≡ v → ⊥
    not_here n f h unfit x placed here = unfit (fits_same p s (length before) f (at more) (λ j g. extends_more f x here j (omega (arith, one_more))) (placed (length before) h))

-- Those before are left when it is taken off.
pub taken_off : (before xs ys : List ℕ) (v : ℕ) → xs ≡ before ++ v ∷ [] → ys ≡ take (length xs - 1) xs → ys ≡ before
taken_off before xs ys v e t =
    t ∙ ap (λ (zs : List ℕ). take (length zs - 1) zs) e ∙ ap (λ (n : ℕ). take n (before ++ v ∷ [])) (omega (arith, one_more before v)) ∙ take-append_seam before (v ∷ [])

-- No candidate before the k-th, and not the k-th.
pub none_more : (P : ℕ → Type 0) (k : ℕ) → ((j : ℕ) → j < k → P j → ⊥) → (P k → ⊥) → (j : ℕ) → j < k + 1 → P j → ⊥
none_more P k below here = below_more (λ j. P j → ⊥) k below here

-- The literals that are due hold just where every literal is met.
module _ (s : State) (place : ℕ → ℕ) (i : ℕ) where
  -- That those that are due hold, with the first one among them where b is true.
  abbrev HoldIf : Literal → List Literal → Bool → Type 0
  HoldIf l ls b = AllHoldAt s place (cond b (l ∷ due i ls) (due i ls))

  met_due : (ls : List Literal) → AllHoldAt s place (due i ls) → AllByRecursion (MetAt s place i) ls
  met_due [] h = tt
  met_due (l ∷ ls) h = elim (cases_eq (last_variable l.fact) i) [
    | inl e ↦ let all = subst (HoldIf l ls) (eq-eqb _ _ e) h in (λ _. all.0, met_due ls all.1)
    | inr n ↦ (λ e. absurd (n e), met_due ls (subst (HoldIf l ls) (ne_eqb _ _ n) h))
  ]

  due_met : (ls : List Literal) → AllByRecursion (MetAt s place i) ls → AllHoldAt s place (due i ls)
  due_met [] h = tt
  due_met (l ∷ ls) h = elim (cases_eq (last_variable l.fact) i) [
    | inl e ↦ subst (HoldIf l ls) (sym (eq-eqb _ _ e)) (h.0 e, due_met ls h.1)
    | inr n ↦ subst (HoldIf l ls) (sym (ne_eqb _ _ n)) (due_met ls h.1)
  ]

  -- A variable fits where it is new and what is due holds.
  pub fits_of : (p : Pattern) (ls : List Literal) → ls ≡ due i p.literals → New place i × AllHoldAt s place ls → FitsAt p s place i
  fits_of p ls is h = (h.0, met_due p.literals (subst (AllHoldAt s place) is h.1))

  pub of_fits : (p : Pattern) (ls : List Literal) → ls ≡ due i p.literals → FitsAt p s place i → New place i × AllHoldAt s place ls
  of_fits p ls is h = (h.0, subst (AllHoldAt s place) (sym is) (due_met p.literals h.1))

-- Of the first k literals fewer are due than there are in all.
pub due_few : (i k : ℕ) (ls : List Literal) → k < length ls → length (due i (take k ls)) < length ls
due_few i k ls h =
    let test : Literal → Bool = λ l. eqb (last_variable l.fact) i in
    omega (arith, length-filter test (take k ls), count_by-le-length test (take k ls), length-take k ls)
