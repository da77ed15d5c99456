-- What `all` decides over rules or rows, read as plain data.
use Rattle.std.proofs.Common.{ℕ, ◌<◌, Bool, true, false, List, [], ◌∷◌, map, length, get_or, Decides, MatchBool, refl, arith}
use Rattle.std.specs.List.{AllWithin, HoldsAt}
use Rattle.std.proofs.lemmas.Bool.{false≢true}
use Rattle.std.proofs.lemmas.List.{length-map, get_or-map}

some_of : {X : Type 0} (xs : List X) (i : ℕ) → i < length xs → X
some_of [] i h = absurd (omega arith)
some_of (x ∷ xs) i h = x

pub all_mapped : {X Y : Type 0} (f : X → Y) (P : Y → Type 0) (d : Y) (xs : List X) (r : Bool) → MatchBool r (AllWithin (λ x. P (f x)) xs 0 (length xs)) ((k : ℕ) × (k < length xs) × HoldsAt (λ x. P (f x) → ⊥) xs k) → Decides r ((i : ℕ) → i < length (map f xs) → P (get_or (map f xs) i d))
all_mapped f P d xs true w = (
  λ _ i h. let l : i < length xs = simp length-map at h in rw (get_or-map f xs i (some_of xs i l) d l) (w i (some_of xs i l) (omega arith) l),
  λ _. refl,
)
all_mapped f P d xs false w = (
  λ e. absurd (false≢true e),
  λ all. let x = some_of xs w.0 w.1 in absurd (w.2 x (rw (get_or-map f xs w.0 x d w.1) at (all w.0 (simp length-map w.1)))),
)
