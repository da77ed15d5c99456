-- Whether some, or each, element of a list passes a test.
use Rattle.std.proofs.Common.{◌≡◌, Bool, true, false, ◌||◌, ◌⊎◌, List, [], ◌∷◌, ◌++◌, map, filter, refl, ap, ◌∙◌, subst, inl, inr}
use Rattle.std.specs.List.{AllByRecursion, list_any, list_all}
use Rattle.std.proofs.lemmas.Bool.{and_parts, or_cases, or_parts, or_left, or_right, cond-true, cond-false, both_ways, cases_Bool, false≢true}
use Rattle.std.proofs.ByRecursion.{All-weaker}
use Rattle.literals.proofs.Failing.{fails_so}

-- One that passes, with what holds of each.
pub some_passes : {X : Type 0} (p : X → Bool) (P : X → Type 0) (xs : List X) → list_any p xs ≡ true → AllByRecursion P xs → (x : X) × (p x ≡ true) × P x
some_passes p P [] e h = absurd (false≢true e)
some_passes p P (x ∷ xs) e h = elim (or_cases (p x) (list_any p xs) e) [ inl t ↦ (x, t, h.0) | inr t ↦ some_passes p P xs t h.1 ]

-- Each element, if it passes, is one that passes.
pub each_counts : {X Y : Type 0} (p : Y → X → Bool) (xs : List X) → AllByRecursion (λ x. (y : Y) → p y x ≡ true → list_any (p y) xs ≡ true) xs
each_counts p [] = tt
each_counts {X} {Y} p (x ∷ xs) = (
  λ y e. or_left (p y x) (list_any (p y) xs) e,
  All-weaker (λ z. (y : Y) → p y z ≡ true → list_any (p y) xs ≡ true) (λ z. (y : Y) → p y z ≡ true → list_any (p y) (x ∷ xs) ≡ true) (λ z h y e. or_right (p y x) (list_any (p y) xs) (h y e)) xs (each_counts p xs),
)

-- None passes if each does not.
pub none_passes : {X : Type 0} (p : X → Bool) (xs : List X) → AllByRecursion (λ x. p x ≡ true → ⊥) xs → list_any p xs ≡ false
none_passes p xs h = fails_so (list_any p xs) (λ e. let w = some_passes p (λ x. p x ≡ true → ⊥) xs e h in w.2 w.1)

-- Where a pass under one test is a pass under another, or under one of two others.
pub any_either : {X : Type 0} (p q r : X → Bool) → ((x : X) → p x ≡ true → (q x ≡ true) ⊎ (r x ≡ true)) → (xs : List X) → list_any p xs ≡ true → (list_any q xs ≡ true) ⊎ (list_any r xs ≡ true)
any_either p q r either [] e = absurd (false≢true e)
any_either p q r either (x ∷ xs) e = elim (or_cases (p x) (list_any p xs) e) [
  | inl t ↦ elim (either x t) [ inl u ↦ inl (or_left (q x) (list_any q xs) u) | inr u ↦ inr (or_left (r x) (list_any r xs) u) ]
  | inr t ↦ elim (any_either p q r either xs t) [ inl u ↦ inl (or_right (q x) (list_any q xs) u) | inr u ↦ inr (or_right (r x) (list_any r xs) u) ]
]

pub any_weaker : {X : Type 0} (p q : X → Bool) → ((x : X) → p x ≡ true → q x ≡ true) → (xs : List X) → list_any p xs ≡ true → list_any q xs ≡ true
any_weaker p q weaker xs e = elim (any_either p q q (λ x t. inl (weaker x t)) xs e) [ inl u ↦ u | inr u ↦ u ]

-- A map under which each passes as before.
pub any_map : {X Y : Type 0} (p : X → Bool) (q : Y → Bool) (f : X → Y) (xs : List X) → AllByRecursion (λ x. q (f x) ≡ p x) xs → list_any q (map f xs) ≡ list_any p xs
any_map p q f [] h = refl
any_map p q f (x ∷ xs) h = ap (λ (t : Bool). t || list_any q (map f xs)) h.0 ∙ ap (λ (t : Bool). p x || t) (any_map p q f xs h.1)

-- What holds of every value holds of each element.
pub all_of : {X : Type 0} (P : X → Type 0) → ((x : X) → P x) → (xs : List X) → AllByRecursion P xs
all_of P h [] = tt
all_of P h (x ∷ xs) = (h x, all_of P h xs)

-- A map that keeps what passes.
pub map_keeps : {X Y : Type 0} (p : X → Bool) (q : Y → Bool) (f : X → Y) → ((x : X) → p x ≡ true → q (f x) ≡ true) → (xs : List X) → list_any p xs ≡ true → list_any q (map f xs) ≡ true
map_keeps p q f keeps xs e = any_map (λ x. q (f x)) q f xs (all_of (λ x. q (f x) ≡ q (f x)) (λ x. refl) xs) ∙ any_weaker p (λ x. q (f x)) keeps xs e

-- Where all pass, each does.
pub each_passes : {X : Type 0} (p : X → Bool) (xs : List X) → list_all p xs ≡ true → AllByRecursion (λ x. p x ≡ true) xs
each_passes p [] e = tt
each_passes p (x ∷ xs) e = let w = and_parts (p x) (list_all p xs) e in (w.0, each_passes p xs w.1)

-- Where none passes, each does not.
pub each_fails : {X : Type 0} (p : X → Bool) (xs : List X) → list_any p xs ≡ false → AllByRecursion (λ x. p x ≡ false) xs
each_fails p [] e = tt
each_fails p (x ∷ xs) e = let w = or_parts (p x) (list_any p xs) e in (w.0, each_fails p xs w.1)

-- Of each element, a third thing by two others.
pub all_from_both : {X : Type 0} (P Q R : X → Type 0) → ((x : X) → P x → Q x → R x) → (xs : List X) → AllByRecursion P xs → AllByRecursion Q xs → AllByRecursion R xs
all_from_both P Q R h [] p q = tt
all_from_both P Q R h (x ∷ xs) p q = (h x p.0 q.0, all_from_both P Q R h xs p.1 q.1)

-- What holds of each image holds of each element's image.
pub all_unmapped : {X Y : Type 0} (P : Y → Type 0) (f : X → Y) (xs : List X) → AllByRecursion P (map f xs) → AllByRecursion (λ x. P (f x)) xs
all_unmapped P f [] h = tt
all_unmapped P f (x ∷ xs) h = (h.0, all_unmapped P f xs h.1)

-- What holds of all of two lists, joined, holds of each list.
pub all_parts : {X : Type 0} (P : X → Type 0) (xs ys : List X) → AllByRecursion P (xs ++ ys) → AllByRecursion P xs × AllByRecursion P ys
all_parts P [] ys h = (tt, h)
all_parts P (x ∷ xs) ys h = let w = all_parts P xs ys h.1 in ((h.0, w.0), w.1)

-- What holds of those that a filter keeps holds of each that passes it.
pub all_unfiltered : {X : Type 0} (p : X → Bool) (P : X → Type 0) (xs : List X) → AllByRecursion P (filter p xs) → AllByRecursion (λ x. p x ≡ true → P x) xs
all_unfiltered p P [] h = tt
all_unfiltered p P (x ∷ xs) h = elim (cases_Bool (p x)) [
  | inl t ↦ let w : AllByRecursion P (x ∷ filter p xs) = subst (AllByRecursion P) (cond-true (p x) (x ∷ filter p xs) (filter p xs) t) h in (λ e. w.0, all_unfiltered p P xs w.1)
  | inr f ↦ (λ e. absurd (both_ways (p x) f e), all_unfiltered p P xs (subst (AllByRecursion P) (cond-false (p x) (x ∷ filter p xs) (filter p xs) f) h))
]
