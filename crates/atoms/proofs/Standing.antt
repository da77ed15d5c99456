-- Standing over all whole numbers, and the placements that are tried.
use Rattle.std.proofs.Common.{◌≡◌, ℕ, ◌+◌, ◌<◌, ◌≤◌, Bool, true, false, ltb, ◌⊎◌, List, [], ◌∷◌, Decides, sym, refl, ap, ◌∙◌, inl, inr, arith}
use Rattle.std.specs.List.{AllByRecursion}
use Rattle.std.proofs.ByRecursion.{All-weaker, All-map}
use Rattle.std.proofs.lemmas.Bool.{cases_lt, cases_order, cond-true, cond-false, lt-ltb, le-ltb, false≢true}
use Rattle.literals.proofs.Listing.{all_unmapped}
use Rattle.literals.specs.declared.Fact.{Fact}
use Rattle.literals.specs.declared.Fact.TheVariants.{Unary, Binary, From, Into}
use Rattle.literals.specs.declared.Literal.{Literal}
use Rattle.literals.specs.State.{State, TrueIn, Said, Holds, fact_under, under, last_variable}
use Rattle.atoms.specs.Book.{Held, object_count}
use Rattle.atoms.specs.Pattern.{Pattern, Different, StandsIn}
use Rattle.atoms.specs.Range.{FactIn, LiteralIn, RowIn}
use Rattle.atoms.specs.Placing.{at, MetAt, FirstFit, Tried, Outcome, candidate}

-- Two objects that a held state cannot tell apart: they are equal, or both are beyond the model.
abbrev Alike : ℕ → ℕ → Type 0
Alike d e = (d ≡ e) ⊎ ((object_count ≤ d) × (object_count ≤ e))

back : (d e : ℕ) → Alike d e → Alike e d
back d e (inl same) = inl (sym same)
back d e (inr beyond) = inr (beyond.1, beyond.0)

module _ (s : State) (held : Held s) where
  unary_alike : (a d e : ℕ) → Alike d e → s.unary a d ≡ true → s.unary a e ≡ true
  unary_alike a d e (inl same) t = ap (s.unary a) (sym same) ∙ t
  unary_alike a d e (inr beyond) t = absurd (let h = held.unary_held a d t in omega arith)

  first_alike : (b d e z : ℕ) → Alike d e → s.binary b d z ≡ true → s.binary b e z ≡ true
  first_alike b d e z (inl same) t = ap (λ (x : ℕ). s.binary b x z) (sym same) ∙ t
  first_alike b d e z (inr beyond) t = absurd (let h = held.binary_held b d z t in omega arith)

  second_alike : (b d e z : ℕ) → Alike d e → s.binary b z d ≡ true → s.binary b z e ≡ true
  second_alike b d e z (inl same) t = ap (λ (x : ℕ). s.binary b z x) (sym same) ∙ t
  second_alike b d e z (inr beyond) t = absurd (let h = held.binary_held b z d t in omega arith)

  fact_alike : (f g : ℕ → ℕ) (x : Fact) → ((i : ℕ) → Alike (f i) (g i)) → TrueIn s (fact_under f x) → TrueIn s (fact_under g x)
  fact_alike f g (Unary a x) same t = unary_alike a (f x) (g x) (same x) t
  fact_alike f g (Binary b x y) same t = second_alike b (f y) (g y) (g x) (same y) (first_alike b (f x) (g x) (f y) (same x) t)
  fact_alike f g (From b x) same t = (t.0, first_alike b (f x) (g x) t.0 (same x) t.1)
  fact_alike f g (Into b x) same t = (t.0, second_alike b (f x) (g x) t.0 (same x) t.1)

  said_alike : (v : Bool) {P Q : Type 0} → (P → Q) → (Q → P) → Said v P → Said v Q
  said_alike true to from h = to h
  said_alike false to from h = λ q. h (from q)

  holds_alike : (f g : ℕ → ℕ) → ((i : ℕ) → Alike (f i) (g i)) → (l : Literal) → Holds s (under f l) → Holds s (under g l)
  holds_alike f g same l = said_alike l.affirmed (fact_alike f g l.fact same) (fact_alike g f l.fact (λ i. back (f i) (g i) (same i)))

-- Any placement in the form that is tried: objects of the model stay, any other becomes the variable's own.
abbrev own : (ℕ → ℕ) → ℕ → ℕ
own f i = candidate i (f i)

own_cases : (f : ℕ → ℕ) (i : ℕ) → ((f i < object_count) × (own f i ≡ f i)) ⊎ ((object_count ≤ f i) × (own f i ≡ object_count + i))
own_cases f i = elim (cases_lt (f i) object_count) [
  | inl l ↦ inl (l, cond-true {A = ℕ} (ltb (f i) object_count) (f i) (object_count + i) (lt-ltb (f i) object_count l))
  | inr l ↦ inr (l, cond-false {A = ℕ} (ltb (f i) object_count) (f i) (object_count + i) (le-ltb (f i) object_count l))
]

own_alike : (f : ℕ → ℕ) (i : ℕ) → Alike (f i) (own f i)
own_alike f i = elim (own_cases f i) [
  | inl h ↦ inl (sym h.1)
  | inr h ↦ inr (h.0, omega (arith, h.1))
]

own_tried : (f : ℕ → ℕ) (n : ℕ) → Tried n (own f)
own_tried f n i h = elim (own_cases f i) [
  | inl w ↦ (f i, omega (arith, w.0), refl)
  | inr w ↦ (object_count, omega arith, w.1)
]

own_different : (f : ℕ → ℕ) (n : ℕ) → Different n f → Different n (own f)
own_different f n different i j hi hj e = elim (own_cases f i) [
  | inl a ↦ elim (own_cases f j) [
    | inl b ↦ different i j hi hj (sym a.1 ∙ e ∙ b.1)
    | inr b ↦ absurd (omega (arith, a.0, a.1, b.0, b.1, e))
  ]
  | inr a ↦ elim (own_cases f j) [
    | inl b ↦ absurd (omega (arith, a.0, a.1, b.0, b.1, e))
    | inr b ↦ omega (arith, a.1, b.1, e)
  ]
]

module _ (p : Pattern) (s : State) where
  -- A placement with every literal met, one variable after another.
  from_different : (f : ℕ → ℕ) → Different p.variables f → AllByRecursion (λ l. Holds s (under f l)) p.literals → FirstFit p s p.variables f
  from_different f different all i h = (
    λ j g e. let same : j ≡ i = different j i (omega arith) h e in omega arith,
    All-weaker (λ l. Holds s (under f l)) (MetAt s f i) (λ l met _. met) p.literals all,
  )

  to_different : (f : ℕ → ℕ) → FirstFit p s p.variables f → Different p.variables f
  to_different f placed i j hi hj e = elim (cases_order i j) [
    | inl same ↦ same
    | inr other ↦ elim other [
      | inl less ↦ absurd ((placed j hj).0 i less e)
      | inr more ↦ absurd ((placed i hi).0 j more (sym e))
    ]
  ]

  last_in : (n : ℕ) (x : Fact) → FactIn n x → last_variable x < n
  last_in n (Unary a x) h = h.1
  last_in n (Binary b x y) h = omega (arith, h.1, h.2)
  last_in n (From b x) h = h.1
  last_in n (Into b x) h = h.1

  all_met : (f : ℕ → ℕ) (n : ℕ) (ls : List Literal) → AllByRecursion (LiteralIn n) ls → ((i : ℕ) → i < n → AllByRecursion (MetAt s f i) ls) → AllByRecursion (λ l. Holds s (under f l)) ls
  all_met f n [] ranged met = tt
  all_met f n (l ∷ ls) ranged met = ((met (last_variable l.fact) (last_in n l.fact ranged.0)).0 refl, all_met f n ls ranged.1 (λ i h. (met i h).1))

  placed_stands : RowIn p → (f : ℕ → ℕ) → FirstFit p s p.variables f → StandsIn p s
  placed_stands ranged f placed = record {
    place = f;
    different = to_different f placed;
    all_hold = All-map (Holds s) (under f) p.literals (all_met f p.variables p.literals ranged.literals_in (λ i h. (placed i h).1));
  }

  stands_tried : Held s → (w : StandsIn p s) → FirstFit p s p.variables (own w.place)
  stands_tried held w = from_different (own w.place) (own_different w.place p.variables w.different)
      (All-weaker (λ l. Holds s (under w.place l)) (λ l. Holds s (under (own w.place) l)) (holds_alike s held w.place (own w.place) (own_alike w.place)) p.literals (all_unmapped (Holds s) (under w.place) p.literals w.all_hold))

  -- Placing from the start decides whether the pattern stands.
  pub stands_decided : RowIn p → Held s → (left : List ℕ) (r : Bool) → Outcome p s [] left r → Decides r (StandsIn p s)
  stands_decided ranged held left true placed = (λ _. placed_stands ranged (at left) placed, λ _. refl)
  stands_decided ranged held left false none = (
    λ e. absurd (false≢true e),
    λ w. absurd (none.0 (own w.place) (λ i h. absurd (omega arith)) (own_tried w.place p.variables) (stands_tried held w)),
  )
