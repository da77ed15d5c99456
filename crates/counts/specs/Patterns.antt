-- Patterns: the computed comparison agrees with the comparison everywhere.
use Rattle.std.specs.Prelude.{ℕ, ◌<◌, ◌≤◌, List, length, Decides, nat_le, refl}
use Rattle.std.proofs.Common.{inl, inr, arith}
use Rattle.std.proofs.lemmas.Bool.{leb-true, le-leb, cases_lt}
use Rattle.std.proofs.lemmas.List.{get_or_past}
use Rattle.std.proofs.lemmas.Bool.Decides.{Decides-below_and, Decides-like}
use Rattle.counts.specs.Net.{Marking, tally, ◌⊑◌, at_most, after, most_held, Held}

-- A list asks for nothing past its end.
pub within_all : (xs : List ℕ) (q : Marking) → ((place : ℕ) → place < length xs → tally xs place ≤ q place) → tally xs ⊑ q
within_all xs q h place = elim (cases_lt place (length xs)) [
  | inl l ↦ h place l
  | inr l ↦ omega (arith, get_or_past xs place 0 l)
]

pub decides_at_most : (xs : List ℕ) (q : Marking) → Decides (at_most (length xs) (tally xs) q) (tally xs ⊑ q)
decides_at_most xs q =
    Decides-like (at_most (length xs) (tally xs) q) (within_all xs q) (λ h place l. h place)
    (Decides-below_and (λ place. nat_le (tally xs place) (q place)) (λ place. tally xs place ≤ q place) (λ n. at_most n (tally xs) q) (λ place. (leb-true (tally xs place) (q place), le-leb (tally xs place) (q place))) refl (λ _. refl) (length xs))

-- A rule that gives nothing past the marking's end leaves nothing there.
pub held_all : (takes gives marking : List ℕ) → length gives ≤ length marking → ((place : ℕ) → place < length marking → after (tally takes) (tally gives) (tally marking) place ≤ most_held) → Held (after (tally takes) (tally gives) (tally marking))
held_all takes gives marking long h place = elim (cases_lt place (length marking)) [
  | inl l ↦ h place l
  | inr l ↦ omega (arith, get_or_past marking place 0 l, get_or_past gives place 0 (omega arith))
]
