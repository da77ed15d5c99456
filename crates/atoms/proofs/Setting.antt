-- Cells that are set, as states.
use Rattle.std.proofs.Common.{◌≡◌, ℕ, ◌<◌, ◌≤◌, Bool, true, false, not, ◌&&◌, ◌||◌, eqb, ltb, List, length, get_or, set, sym, refl, ap, ◌∙◌, subst, inl, inr, arith}
use Rattle.std.proofs.lemmas.List.{get_or-set_same, get_or-set_other}
use Rattle.std.proofs.lemmas.Bool.{cases_lt, cases_eq, and_parts, ltb-true, lt-ltb, le-ltb, eq-eqb, ne_eqb}
use Rattle.literals.specs.declared.Fact.TheVariants.{Unary, Binary, From, Into}
use Rattle.literals.specs.declared.Fact.{Fact}
use Rattle.literals.specs.State.{State, relation_of}
use Rattle.atoms.specs.declared.cells.Cells.{Cells}
use Rattle.atoms.specs.declared.objects.Objects.{Objects}
use Rattle.atoms.specs.declared.objects.Pairs.{Pairs}
use Rattle.atoms.specs.Book.{Held, relation_count, object_count}
use Rattle.atoms.specs.Objects.{has_object, has_pair, no_objects}
use Rattle.atoms.specs.Cells.{no_pairs, unary_cell, binary_cell, state_of, gains, loses}

-- Two states with the same atoms are equal.
pub same_state : (s t : State) → ((a d : ℕ) → s.unary a d ≡ t.unary a d) → ((b d e : ℕ) → s.binary b d e ≡ t.binary b d e) → s ≡ t
same_state s t u v = λ i. record { unary = λ a d. u a d i; binary = λ b d e. v b d e i }

pub with_none : (s : Bool) → s ≡ (s || false)
with_none true = refl
with_none false = refl

pub without_none : (s : Bool) → s ≡ (s && true)
without_none true = refl
without_none false = refl

-- The model holds what cells hold.
pub all_held : (c : Cells) → Held (state_of c)
all_held c = record { unary_held = unary_held; binary_held = binary_held }
  where
    inside : (n i : ℕ) (h : Bool) → (ltb i n && h) ≡ true → (i < n) × (h ≡ true)
    inside n i h t = let p = and_parts (ltb i n) h t in (ltb-true i n p.0, p.1)

    unary_held : (a d : ℕ) → unary_cell c.unary a d ≡ true → (a < relation_count) × (d < object_count)
    unary_held a d t = let p = inside relation_count a _ t in (p.0, (inside object_count d _ p.1).0)

    binary_held : (b d e : ℕ) → binary_cell c.binary b d e ≡ true → (b < relation_count) × (d < object_count) × (e < object_count)
    binary_held b d e t =
        let p = inside relation_count b _ t in
        let q = inside object_count d _ p.1 in
        (p.0, q.0, (inside object_count e _ q.1).0)

-- What is read of a list where one is set, if reading the new one adds to what was read there, or takes from it.
module _ {X : Type 0} (n : ℕ) (xs : List X) (i : ℕ) (y d : X) (has : X → Bool) (t : Bool) (h : i < n) (l : i < length xs) (j : ℕ) where
  abbrev Read : List X → Bool
  Read ys = ltb j n && has (get_or ys j d)

  pub read_with : has y ≡ (has (get_or xs i d) || t) → Read (set xs i y) ≡ (Read xs || (eqb i j && t))
  read_with e = elim (cases_eq i j) [
    | inl same ↦ subst (λ (k : ℕ). (ltb k n && has (get_or (set xs i y) k d)) ≡ ((ltb k n && has (get_or xs k d)) || (eqb i k && t))) same
        (rw (lt-ltb i n h, eq-eqb i i refl, get_or-set_same xs i y d l) e)
    | inr other ↦ rw (ne_eqb i j other) (ap (λ (x : X). ltb j n && has x) (get_or-set_other xs i j y d (λ s. other (sym s))) ∙ with_none (Read xs))
  ]

  pub read_without : has y ≡ (has (get_or xs i d) && not t) → Read (set xs i y) ≡ (Read xs && not (eqb j i && t))
  read_without e = elim (cases_eq i j) [
    | inl same ↦ subst (λ (k : ℕ). (ltb k n && has (get_or (set xs i y) k d)) ≡ ((ltb k n && has (get_or xs k d)) && not (eqb k i && t))) same
        (rw (lt-ltb i n h, eq-eqb i i refl, get_or-set_same xs i y d l) e)
    | inr other ↦ rw (ne_eqb j i (λ s. other (sym s))) (ap (λ (x : X). ltb j n && has x) (get_or-set_other xs i j y d (λ s. other (sym s))) ∙ without_none (Read xs))
  ]

module _ (c : Cells) (a : ℕ) (h : a < relation_count) where
  module _ (new : Objects) (l : a < length c.unary) (x : ℕ) where
    abbrev with_objects : Cells
    with_objects = record { unary = set c.unary a new; binary = c.binary }

    pub unary_gained : ((d : ℕ) → has_object new d ≡ (has_object (get_or c.unary a no_objects) d || eqb x d)) → state_of with_objects ≡ gains (Unary a x) (state_of c)
    unary_gained more = same_state (state_of with_objects) (gains (Unary a x) (state_of c))
        (λ b d. read_with relation_count c.unary a new no_objects (λ (o : Objects). has_object o d) (eqb x d) h l b (more d))
        (λ b d e. with_none (binary_cell c.binary b d e))

    pub unary_lost : ((d : ℕ) → has_object new d ≡ (has_object (get_or c.unary a no_objects) d && not (eqb d x))) → state_of with_objects ≡ loses (Unary a x) (state_of c)
    unary_lost less = same_state (state_of with_objects) (loses (Unary a x) (state_of c))
        (λ b d. read_without relation_count c.unary a new no_objects (λ (o : Objects). has_object o d) (eqb d x) h l b (less d))
        (λ b d e. without_none (binary_cell c.binary b d e))

  module _ (new : Pairs) (l : a < length c.binary) where
    abbrev with_pairs : Cells
    with_pairs = record { unary = c.unary; binary = set c.binary a new }

    pub binary_gained : (x y : ℕ) → ((d e : ℕ) → has_pair new d e ≡ (has_pair (get_or c.binary a no_pairs) d e || (eqb x d && eqb y e))) → state_of with_pairs ≡ gains (Binary a x y) (state_of c)
    binary_gained x y more = same_state (state_of with_pairs) (gains (Binary a x y) (state_of c))
        (λ b d. with_none (unary_cell c.unary b d))
        (λ b d e. read_with relation_count c.binary a new no_pairs (λ (p : Pairs). has_pair p d e) (eqb x d && eqb y e) h l b (more d e))

    -- of the pairs, those go that pass a test
    pairs_lost : (test : ℕ → ℕ → Bool) → ((d e : ℕ) → has_pair new d e ≡ (has_pair (get_or c.binary a no_pairs) d e && not (test d e)))
        → state_of with_pairs ≡ record { unary = λ b d. unary_cell c.unary b d && true; binary = λ b d e. binary_cell c.binary b d e && not (eqb b a && test d e) }
    pairs_lost test less = same_state (state_of with_pairs) _
        (λ b d. without_none (unary_cell c.unary b d))
        (λ b d e. read_without relation_count c.binary a new no_pairs (λ (p : Pairs). has_pair p d e) (test d e) h l b (less d e))

    pub binary_lost : (x y : ℕ) → ((d e : ℕ) → has_pair new d e ≡ (has_pair (get_or c.binary a no_pairs) d e && not (eqb d x && eqb e y))) → state_of with_pairs ≡ loses (Binary a x y) (state_of c)
    binary_lost x y less = pairs_lost (λ d e. eqb d x && eqb e y) less

    pub from_lost : (x : ℕ) → ((d e : ℕ) → has_pair new d e ≡ (has_pair (get_or c.binary a no_pairs) d e && not (eqb d x))) → state_of with_pairs ≡ loses (From a x) (state_of c)
    from_lost x less = pairs_lost (λ d e. eqb d x) less

    pub into_lost : (x : ℕ) → ((d e : ℕ) → has_pair new d e ≡ (has_pair (get_or c.binary a no_pairs) d e && not (eqb e x))) → state_of with_pairs ≡ loses (Into a x) (state_of c)
    into_lost x less = pairs_lost (λ d e. eqb e x) less

-- There is nothing of a relation beyond the model.
beyond : (n b a : ℕ) (h t : Bool) → n ≤ a → (ltb b n && h) ≡ ((ltb b n && h) && not (eqb b a && t))
beyond n b a h t past = elim (cases_lt b n) [
  | inl l ↦ rw (ne_eqb b a (λ e. omega arith)) (without_none (ltb b n && h))
  | inr l ↦ rw (le-ltb b n l) refl
]

pub none_lost : (c : Cells) (f : Fact) → relation_count ≤ relation_of f → state_of c ≡ loses f (state_of c)
none_lost c (Unary a x) past = same_state (state_of c) (loses (Unary a x) (state_of c)) (λ b d. beyond relation_count b a _ (eqb d x) past) (λ b d e. without_none (binary_cell c.binary b d e))
none_lost c (Binary a x y) past = same_state (state_of c) (loses (Binary a x y) (state_of c)) (λ b d. without_none (unary_cell c.unary b d)) (λ b d e. beyond relation_count b a _ (eqb d x && eqb e y) past)
none_lost c (From a x) past = same_state (state_of c) (loses (From a x) (state_of c)) (λ b d. without_none (unary_cell c.unary b d)) (λ b d e. beyond relation_count b a _ (eqb d x) past)
none_lost c (Into a x) past = same_state (state_of c) (loses (Into a x) (state_of c)) (λ b d. without_none (unary_cell c.unary b d)) (λ b d e. beyond relation_count b a _ (eqb e x) past)
