-- What `all` answers of a list, and of a list read as plain data.
use Rattle.std.proofs.Common.{ℕ, ◌<◌, List, [], ◌∷◌, map, length, Bool, true, false, MatchBool, Decides, refl, arith}
use Rattle.std.specs.List.{AllByRecursion, AllWithin, HoldsAt}
use Rattle.std.proofs.ByRecursion.{All-map, all_from_every, every_from_all}
use Rattle.literals.proofs.Listing.{all_unmapped}
use Rattle.std.proofs.lemmas.Bool.{false≢true}

-- Each of a list read as plain data is as it should be, by what the elements are.
pub mapped_decides : {X Y : Type 0} (P : Y → Type 0) (f : X → Y) (xs : List X) (r : Bool) → Decides r (AllByRecursion (λ x. P (f x)) xs) → Decides r (AllByRecursion P (map f xs))
mapped_decides P f xs r d = (λ e. All-map P f xs (d.0 e), λ all. d.1 (all_unmapped P f xs all))

-- What `all` answers decides that each is so.
one_of : {X : Type 0} (xs : List X) (k : ℕ) → k < length xs → X
one_of [] k h = absurd (omega arith)
one_of (x ∷ xs) k h = x

pub all_decided : {X : Type 0} (P : X → Type 0) (xs : List X) (r : Bool) → MatchBool r (AllWithin P xs 0 (length xs)) ((k : ℕ) × (k < length xs) × HoldsAt (λ x. P x → ⊥) xs k) → Decides r (AllByRecursion P xs)
all_decided P xs true h = (λ _. all_from_every P xs h, λ _. refl)
all_decided P xs false h = (λ e. absurd (false≢true e), λ all. let d = one_of xs h.0 h.1 in absurd (h.2 d (every_from_all P xs all h.0 d (omega arith) h.1)))
