-- What `all` decides over a list, and over the numbers below another.
use Rattle.std.proofs.Common.{◌≡◌, ℕ, ◌<◌, Bool, true, false, List, length, get_or, Decides, MatchBool, refl, arith}
use Rattle.std.specs.List.{AllWithin, HoldsAt, range_with_len}
use Rattle.std.proofs.lemmas.List.FromFn.{length-range_with_len, get_or-range_with_len}

pub all_in_list : {X : Type 0} (P : X → Type 0) (xs : List X) (d : X) (r : Bool) → MatchBool r (AllWithin P xs 0 (length xs)) ((k : ℕ) × (k < length xs) × HoldsAt (λ x. P x → ⊥) xs k) → Decides r ((i : ℕ) → i < length xs → P (get_or xs i d))
all_in_list P xs d true w = (λ _ i h. w i d (omega arith) h, λ _. refl)
all_in_list P xs d false w = (λ e. absurd (let z : ◌≡◌ {A = ℕ} 0 1 = cc in omega arith), λ all. absurd (w.2 d (all w.0 w.1)))

pub all_below : (P : ℕ → Type 0) (n : ℕ) (r : Bool) → MatchBool r (AllWithin P (range_with_len 0 n) 0 (length (range_with_len 0 n))) ((k : ℕ) × (k < length (range_with_len 0 n)) × HoldsAt (λ x. P x → ⊥) (range_with_len 0 n) k) → Decides r ((i : ℕ) → i < n → P i)
all_below P n r w = (λ e i h. at i h (decided.0 e i (rw (length-range_with_len 0 n) h)), λ all. decided.1 (λ i h. back i (rw (length-range_with_len 0 n) at h) (all i (rw (length-range_with_len 0 n) at h))))
  where
    decided : Decides r ((i : ℕ) → i < length (range_with_len 0 n) → P (get_or (range_with_len 0 n) i 0))
    decided = all_in_list P (range_with_len 0 n) 0 r w

    at : (i : ℕ) → i < n → P (get_or (range_with_len 0 n) i 0) → P i
    at i h p = let e : get_or (range_with_len 0 n) i 0 ≡ i = omega (arith, get_or-range_with_len 0 n i 0 h) in rw e at p

    back : (i : ℕ) → i < n → P i → P (get_or (range_with_len 0 n) i 0)
    back i h p = let e : get_or (range_with_len 0 n) i 0 ≡ i = omega (arith, get_or-range_with_len 0 n i 0 h) in rw e p
