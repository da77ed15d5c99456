-- A cover of the open cases has a right claim for each open case.
use Rattle.std.proofs.Common.{◌≡◌, ℕ, zero, suc, ◌+◌, ◌<◌, ◌≤◌, List, [], ◌∷◌, ◌++◌, sym, subst, inl, inr, eq-or-lt_of_le, arith}
use Rattle.pattern.specs.declared.Case.{Case}
use Rattle.pattern.specs.declared.Sort.{Sort}
use Rattle.pattern.specs.declared.Sort.TheVariants.{Open}
use Rattle.pattern.specs.Meaning.{Meaning}
use Rattle.judge.specs.Walk.{each, listed, open_case, open_of_rule, open_of_row, open_cases}
use Rattle.judge.specs.Acceptance.{Claim, Right, Cover, none, next}

-- the case is in the list
data In (c : Case) : List Case → Type 0 where
  here : {cs : List Case} → In c (c ∷ cs)
  there : {d : Case} {cs : List Case} → In c cs → In c (d ∷ cs)

in_left : {c : Case} {cs : List Case} (ds : List Case) → In c cs → In c (cs ++ ds)
in_left ds here = here
in_left ds (there i) = there (in_left ds i)

in_right : {c : Case} (cs : List Case) {ds : List Case} → In c ds → In c (cs ++ ds)
in_right [] i = i
in_right (d ∷ cs) i = there (in_right cs i)

in_each : (c : Case) (first many k : ℕ) (f : ℕ → List Case) → first ≤ k → k < first + many → In c (f k) → In c (each first many f)
in_each c first zero k f a b i = absurd (omega arith)
in_each c first (suc many) k f a b i = elim (eq-or-lt_of_le a) [
  | inl e ↦ in_left (each (first + 1) many f) (subst (λ (n : ℕ). In c (f n)) (sym e) i)
  | inr l ↦ in_right (f first) (in_each c (first + 1) many k f (omega arith) (omega arith) i)
]

in_listed : (c : Case) (x : Sort) → x ≡ Open → In c (listed c x)
in_listed c x e = subst (λ (y : Sort). In c (listed c y)) (sym e) here

right_at : {S : Type 0} {m : Meaning S} {c : Case} {cs : List Case} {es : List Claim} → Cover m cs es → In c cs → (e : Claim) × Right m c e
right_at none i = elim i [ ]
right_at (next {e = e} r w) here = (e, r)
right_at (next r w) (there i) = right_at w i

-- Where the claims cover the open cases, each open case has a right claim.
pub each_open_covered : {S : Type 0} (m : Meaning S) (table : List Claim) → Cover m (open_cases m) table → (row rule n : ℕ) → row < m.rows → rule < m.rules → n < m.cases row rule → m.sort (record { row = row; rule = rule; number = n }) ≡ Open → (e : Claim) × Right m (record { row = row; rule = rule; number = n }) e
each_open_covered m table w row rule n a b h o =
    let c : Case = record { row = row; rule = rule; number = n } in
    right_at w
    (in_each c 0 m.rows row (open_of_row m) (omega arith) (omega arith)
    (in_each c 0 m.rules rule (open_of_rule m row) (omega arith) (omega arith)
    (in_each c 0 (m.cases row rule) n (open_case m row rule) (omega arith) (omega arith)
    (in_listed c (m.sort c) o))))
