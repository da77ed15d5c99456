-- The modes of an observer and their numbers.
use Rattle.std.specs.Prelude.{◌≡◌, ℕ, ◌≤◌, Bool, Ok, Err, ◌==◌, Result}
use Rattle.observer.specs.declared.mode.Mode.{Mode}
use Rattle.observer.specs.declared.mode.NoSuchMode.{NoSuchMode}
use Rattle.observer.specs.declared.mode.Mode.TheVariants.{Zero, One, Two, Three}

abbrev pub mode_number : Mode → ℕ
mode_number Zero = 0
mode_number One = 1
mode_number Two = 2
mode_number Three = 3

abbrev pub mode_count : ℕ
mode_count = 4

-- What comes of a number: the mode that has it, or that none does.
abbrev pub Numbered : ℕ → Result Mode NoSuchMode → Type 0
Numbered n (Ok m) = mode_number m ≡ n
Numbered n (Err e) = (e.0 ≡ n) × (mode_count ≤ n)

abbrev pub same_mode : Mode → Mode → Bool
same_mode p q = mode_number p == mode_number q
