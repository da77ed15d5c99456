-- Modes are told apart by their numbers.
use Rattle.std.specs.Prelude.{◌≡◌, ℕ, zero, suc, ◌<◌, Decides, refl}
use Rattle.std.proofs.Common.{sym, ap, ◌∙◌, arith}
use Rattle.std.proofs.lemmas.Bool.{eqb-true, eq-eqb}
use Rattle.observer.specs.declared.mode.Mode.{Mode}
use Rattle.observer.specs.declared.mode.Mode.TheVariants.{Zero, One, Two, Three}
use Rattle.observer.specs.Mode.{mode_number, mode_count, same_mode}

pub number_below : (p : Mode) → mode_number p < mode_count
number_below Zero = omega arith
number_below One = omega arith
number_below Two = omega arith
number_below Three = omega arith

-- the mode with a number
abbrev with_number : ℕ → Mode
with_number zero = Zero
with_number (suc zero) = One
with_number (suc (suc zero)) = Two
with_number (suc (suc (suc _))) = Three

back : (p : Mode) → with_number (mode_number p) ≡ p
back Zero = refl
back One = refl
back Two = refl
back Three = refl

pub same_number : (p q : Mode) → mode_number p ≡ mode_number q → p ≡ q
same_number p q e = sym (back p) ∙ ap with_number e ∙ back q

pub decides_same : (p q : Mode) → Decides (same_mode p q) (p ≡ q)
decides_same p q = (λ e. same_number p q (eqb-true (mode_number p) (mode_number q) e), λ e. eq-eqb (mode_number p) (mode_number q) (ap mode_number e))
