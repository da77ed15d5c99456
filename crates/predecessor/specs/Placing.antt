-- A placement of a row's variables and a choice of objects: which variable each chosen object is, old or new.
use Rattle.std.specs.Prelude.{◌≡◌, ℕ, zero, suc, ◌+◌, ◌<◌, ◌≤◌, true, cond, ◌⊎◌, List, [], ◌∷◌, map, length, ◌==◌, ◌≢◌, nat_le, nat_lt, refl}
use Rattle.std.proofs.Common.{ap, ◌∙◌, inl, inr, arith}
use Rattle.std.specs.List.{AllByRecursion}
use Rattle.std.proofs.lemmas.Bool.{and_from, cond-true, cond-false, eq-eqb, ne_eqb, le-leb, lt-ltb, le-ltb, cases_eq, cases_lt}
use Rattle.atoms.specs.Pattern.{Different}
use Rattle.predecessor.specs.Proper.{proper}

-- two lists with the same first and the same rest
cons_same : {x y : ℕ} {xs ys : List ℕ} → x ≡ y → xs ≡ ys → x ∷ xs ≡ y ∷ ys
cons_same p q = λ i. p i ∷ q i

-- Which of the first n variables an object is, if any.
found : (place : ℕ → ℕ) (n d : ℕ) → ((i : ℕ) × (i < n) × (place i ≡ d)) ⊎ ((i : ℕ) → i < n → place i ≢ d)
found place zero d = inr (λ i h e. omega arith)
found place (suc n) d = elim (found place n d) [
  | inl w ↦ inl (w.0, omega (arith, w.1), w.2)
  | inr none ↦ elim (cases_eq (place n) d) [
    | inl e ↦ inl (n, omega arith, e)
    | inr e ↦ inr (λ i h q. elim (cases_lt i n) [ inl l ↦ none i l q | inr l ↦ let same : i ≡ n = omega arith in e (rw (← same) q) ])
  ]
]

-- The same placement with an object for the variable n.
abbrev with : (ℕ → ℕ) → ℕ → ℕ → ℕ → ℕ
with place n d i = cond (i == n) d (place i)

with_new : (place : ℕ → ℕ) (n d : ℕ) → with place n d n ≡ d
with_new place n d = cond-true {A = ℕ} (n == n) d (place n) (eq-eqb n n refl)

with_old : (place : ℕ → ℕ) (n d i : ℕ) → i < n → with place n d i ≡ place i
with_old place n d i h = cond-false {A = ℕ} (i == n) d (place i) (ne_eqb i n (omega arith))

different_with : (place : ℕ → ℕ) (n d : ℕ) → Different n place → ((i : ℕ) → i < n → place i ≢ d) → Different (suc n) (with place n d)
different_with place n d different new i j h k e = grind (arith, with_old place n d i, with_old place n d j, with_new place n d, different i j, new i, new j)

-- A number above the objects of the first n variables.
abbrev above : (ℕ → ℕ) → ℕ → ℕ
above place zero = 0
above place (suc n) = suc (place n + above place n)

is_above : (place : ℕ → ℕ) (n i : ℕ) → i < n → place i < above place n
is_above place zero i h = absurd (omega arith)
is_above place (suc n) i h = grind (arith, is_above place n i)

-- The same placement of the first n variables, with objects for all others that nothing else has.
abbrev filled : (ℕ → ℕ) → ℕ → ℕ → ℕ
filled place n i = cond (nat_lt i n) (place i) (above place n + i)

filled_old : (place : ℕ → ℕ) (n i : ℕ) → i < n → filled place n i ≡ place i
filled_old place n i h = cond-true {A = ℕ} (nat_lt i n) (place i) (above place n + i) (lt-ltb i n h)

filled_new : (place : ℕ → ℕ) (n i : ℕ) → n ≤ i → filled place n i ≡ above place n + i
filled_new place n i h = cond-false {A = ℕ} (nat_lt i n) (place i) (above place n + i) (le-ltb i n h)

different_filled : (place : ℕ → ℕ) (n total : ℕ) → Different n place → Different total (filled place n)
different_filled place n total different i j _ _ e = grind (arith, filled_old place n i, filled_old place n j, filled_new place n i, filled_new place n j, is_above place n i, is_above place n j, different i j)

-- A choice in terms of variables: which variable each chosen object is, and a placement of them all that gives the objects back.
-- The first n variables are placed before; an object that none of them has is the next new variable.
pub record Taken (n total : ℕ) (old : ℕ → ℕ) (choice : List ℕ) : Type 0 where
  pub taken : List ℕ
  pub place : ℕ → ℕ
  pub as_many : length taken ≡ length choice
  pub in_order : proper n taken ≡ true
  pub each_below : AllByRecursion (λ x. x < total) taken
  pub different : Different total place
  pub stays : (i : ℕ) → i < n → place i ≡ old i
  pub given_back : map place taken ≡ choice

pub take : (n total : ℕ) (old : ℕ → ℕ) (choice : List ℕ) → n + length choice ≤ total → Different n old → Taken n total old choice
take n total old [] room h = record {
  taken = [];
  place = filled old n;
  as_many = refl;
  in_order = refl;
  each_below = tt;
  different = different_filled old n total h;
  stays = filled_old old n;
  given_back = refl;
}
take n total old (d ∷ choice) room h = elim (found old n d) [
  | inl w ↦
      let r = take n total old choice (omega arith) h in
      let apart : w.0 ≡ n → ⊥ = λ e. omega (arith, w.1) in
      let same : proper (cond (w.0 == n) (suc n) n) r.taken ≡ true = rw (cond-false {A = ℕ} (w.0 == n) (suc n) n (ne_eqb w.0 n apart)) r.in_order in
      record {
        taken = w.0 ∷ r.taken;
        place = r.place;
        as_many = ap suc r.as_many;
        in_order = and_from (nat_le w.0 n) _ (le-leb w.0 n (omega (arith, w.1))) same;
        each_below = (omega (arith, w.1), r.each_below);
        different = r.different;
        stays = r.stays;
        given_back = cc (r.stays w.0 w.1, w.2, r.given_back);
      }
  | inr none ↦
      let r = take (suc n) total (with old n d) choice (omega arith) (different_with old n d h none) in
      let same : proper (cond (n == n) (suc n) n) r.taken ≡ true = rw (cond-true {A = ℕ} (n == n) (suc n) n (eq-eqb n n refl)) r.in_order in
      record {
        taken = n ∷ r.taken;
        place = r.place;
        as_many = ap suc r.as_many;
        in_order = and_from (nat_le n n) _ (le-leb n n (omega arith)) same;
        each_below = (omega arith, r.each_below);
        different = r.different;
        stays = λ i l. r.stays i (omega arith) ∙ with_old old n d i l;
        given_back = let same_place : r.place n ≡ with old n d n = r.stays n (omega arith) in cc (same_place, with_new old n d, r.given_back);
      }
]
