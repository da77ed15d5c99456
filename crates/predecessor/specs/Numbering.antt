-- The number that has given digits.
use Rattle.std.specs.Prelude.{◌≡◌, ℕ, zero, suc, ◌+◌, ◌*◌, ◌/◌, ◌^◌, ◌<◌, ◌≤◌, List, [], ◌∷◌, length, refl}
use Rattle.std.proofs.Common.{pow-suc, arith}
use Rattle.std.proofs.Math.Nat.{pow-zero}
use Rattle.std.specs.List.{AllByRecursion}
use Rattle.std.proofs.lemmas.Nat.{mul-add-lt, div-mul-add, mod-mul-add, mod_below}
use Rattle.predecessor.specs.Proper.{digits}

-- the number with these digits, lowest first
abbrev pub number_of : ℕ → List ℕ → ℕ
number_of base [] = 0
number_of base (d ∷ ds) = number_of base ds * base + d

pub digits_of_number : (base : ℕ) (ds : List ℕ) → AllByRecursion (λ d. d < base) ds → digits base (length ds) (number_of base ds) ≡ ds
digits_of_number base [] h = refl
digits_of_number base (d ∷ ds) h = cc (mod-mul-add (number_of base ds) base d h.0, div-mul-add (number_of base ds) base d h.0, digits_of_number base ds h.1)

pub number_below : (base : ℕ) (ds : List ℕ) → AllByRecursion (λ d. d < base) ds → number_of base ds < base ^ length ds
number_below base [] h = omega (arith, pow-zero base)
number_below base (d ∷ ds) h = omega (arith, pow-suc base (length ds), mul-add-lt (number_of base ds) base d (base ^ length ds) (number_below base ds h.1) h.0)

pub length_digits : (base k n : ℕ) → length (digits base k n) ≡ k
length_digits base zero n = refl
length_digits base (suc k) n = grind (arith, length_digits base k (n / base))

pub digits_below : (base k n : ℕ) → k ≤ base → AllByRecursion (λ d. d < base) (digits base k n)
digits_below base zero n h = tt
digits_below base (suc k) n h = (mod_below n base (omega arith), digits_below base k (n / base) (omega arith))
