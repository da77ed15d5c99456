-- Fields of bodies: numbers of two bytes, and modes.
use Rattle.std.specs.Prelude.{◌≡◌, ℕ, zero, suc, ◌<◌, ◌≤◌, Bool, true, false, List, [], ◌∷◌, map, Ok, Err, vec_items, Result, Vec, nat_le}
use Rattle.std.specs.List.{list_all}
use Rattle.std.specs.declared.alloc.Global.{Global}
use Rattle.observer.specs.declared.Mode.{Mode}
use Rattle.observer.specs.declared.Mode.TheVariants.{Zero, One, Two, Three}
use Rattle.observer.specs.Mode.{mode_number}
use Rattle.records.specs.declared.fault.FieldFault.{FieldFault}
use Rattle.records.specs.declared.fault.RecordFault.{RecordFault}
use Rattle.records.specs.declared.fault.RecordFault.TheVariants.{KindNotAllowed, WrongLength, Field, Literal, OutOfMemory}
use Rattle.records.specs.Bytes.{word}

-- Numbers of two bytes, and modes, one after the other.
abbrev pub words : List ℕ → List ℕ
words [] = []
words (low ∷ []) = []
words (low ∷ high ∷ bytes) = word low high ∷ words bytes

abbrev pub mode_of : ℕ → Mode
mode_of zero = Zero
mode_of (suc zero) = One
mode_of (suc (suc zero)) = Two
mode_of (suc (suc (suc n))) = Three

abbrev pub all_at_most : ℕ → List ℕ → Bool
all_at_most most = list_all (λ n. nat_le n most)

-- A byte that is read as a mode, in the record at a place.
abbrev pub ModeRead : ℕ → ℕ → Result Mode FieldFault → Type 0
ModeRead number place (Ok m) = (number ≤ mode_number Three) × (m ≡ mode_of number)
ModeRead number place (Err f) = (f.place ≡ place) × (mode_number Three < number)

-- Bytes that are read as modes.
abbrev pub Moded : List ℕ → ℕ → Result (Vec Mode Global) RecordFault → Type 0
Moded bytes place (Ok v) = (all_at_most (mode_number Three) bytes ≡ true) × (vec_items v ≡ map mode_of bytes)
Moded bytes place (Err (KindNotAllowed p)) = ⊥
Moded bytes place (Err (WrongLength p)) = ⊥
Moded bytes place (Err (Field f)) = (f.place ≡ place) × (all_at_most (mode_number Three) bytes ≡ false)
Moded bytes place (Err (Literal f)) = ⊥
Moded bytes place (Err OutOfMemory) = Unit {0}
