-- The test for new variables taken in order decides what it says.
use Rattle.std.proofs.Common.{◌≡◌, ℕ, zero, suc, ◌+◌, ◌-◌, ◌<◌, ◌≤◌, true, cond, eqb, leb, ◌⊎◌, List, [], ◌∷◌, length, get_or, Decides, sym, refl, subst, inl, inr, arith}
use Rattle.std.proofs.lemmas.Bool.{and_parts, and_from, cond-true, cond-false, eq-eqb, ne_eqb, leb-true, le-leb, cases_eq, cases_lt}
use Rattle.predecessor.specs.Proper.{Proper, proper}

-- In order, where of the new variables those below `next` were taken before.
abbrev Onwards : ℕ → ℕ → List ℕ → Type 0
Onwards m next ds = (i j : ℕ) → i < length ds → get_or ds i 0 ≡ m + suc j → (m + j < next) ⊎ ((h : ℕ) × (h < i) × (get_or ds h 0 ≡ m + j))

module _ (m : ℕ) where
  -- the first digit, and those after it
  head_step : (next d : ℕ) (ds : List ℕ) → Onwards m next (d ∷ ds) → m ≤ next → d ≤ next
  head_step next d ds h k = elim (cases_lt next d) [
    | inl l ↦ elim (h 0 (d - m - 1) (omega arith) (omega arith)) [ inl w ↦ omega arith | inr w ↦ absurd (omega (arith, w.1)) ]
    | inr l ↦ l
  ]

  after_new : (next : ℕ) (ds : List ℕ) → Onwards m (suc next) ds → Onwards m next (next ∷ ds)
  after_new next ds h zero j i e = inl (omega arith)
  after_new next ds h (suc i) j l e = elim (h i j (omega arith) e) [
    | inl w ↦ elim (cases_eq (m + j) next) [ inl q ↦ inr (0, omega arith, sym q) | inr q ↦ inl (omega arith) ]
    | inr w ↦ inr (suc w.0, omega (arith, w.1), w.2)
  ]

  after_old : (next d : ℕ) (ds : List ℕ) → d ≤ next → Onwards m next ds → Onwards m next (d ∷ ds)
  after_old next d ds k h zero j i e = inl (omega arith)
  after_old next d ds k h (suc i) j l e = elim (h i j (omega arith) e) [ inl w ↦ inl w | inr w ↦ inr (suc w.0, omega (arith, w.1), w.2) ]

  -- what is left of it, past the first digit
  rest : (next later d : ℕ) (ds : List ℕ) → next ≤ later → d < later → Onwards m next (d ∷ ds) → Onwards m later ds
  rest next later d ds k b h i j l e = elim (h (suc i) j (omega arith) e) [ inl w ↦ inl (omega arith) | inr w ↦ by_place w.0 w.1 w.2 ]
    where
      by_place : (g : ℕ) → g < suc i → get_or (d ∷ ds) g 0 ≡ m + j → (m + j < later) ⊎ ((h : ℕ) × (h < i) × (get_or ds h 0 ≡ m + j))
      by_place zero p q = inl (omega arith)
      by_place (suc g) p q = inr (g, omega arith, q)

  in_order : (next : ℕ) (ds : List ℕ) → m ≤ next → proper next ds ≡ true → Onwards m next ds
  in_order next [] k e = λ i j l q. absurd (omega arith)
  in_order next (d ∷ ds) k e =
      let p = and_parts (leb d next) (proper (cond (eqb d next) (suc next) next) ds) e in
      elim (cases_eq d next) [
        | inl q ↦ subst (λ (x : ℕ). Onwards m next (x ∷ ds)) (sym q) (after_new next ds (in_order (suc next) ds (omega arith) (rw (cond-true {A = ℕ} (eqb d next) (suc next) next (eq-eqb d next q)) at p.1)))
        | inr q ↦ after_old next d ds (leb-true d next p.0) (in_order next ds k (rw (cond-false {A = ℕ} (eqb d next) (suc next) next (ne_eqb d next q)) at p.1))
      ]

  tested : (next : ℕ) (ds : List ℕ) → m ≤ next → Onwards m next ds → proper next ds ≡ true
  tested next [] k h = refl
  tested next (d ∷ ds) k h =
      let b = head_step next d ds h k in
      and_from (leb d next) (proper (cond (eqb d next) (suc next) next) ds) (le-leb d next b)
      (elim (cases_eq d next) [
        | inl q ↦ rw (cond-true {A = ℕ} (eqb d next) (suc next) next (eq-eqb d next q)) (tested (suc next) ds (omega arith) (rest next (suc next) d ds (omega arith) (omega arith) h))
        | inr q ↦ rw (cond-false {A = ℕ} (eqb d next) (suc next) next (ne_eqb d next q)) (tested next ds k (rest next next d ds (omega arith) (omega arith) h))
      ])

  pub decides_proper : (ds : List ℕ) → Decides (proper m ds) (Proper m ds)
  decides_proper ds = (
    λ e i j l q. elim (in_order m ds (omega arith) e i j l q) [ inl w ↦ absurd (omega arith) | inr w ↦ w ],
    λ h. tested m ds (omega arith) (λ i j l q. inr (h i j l q)),
  )
