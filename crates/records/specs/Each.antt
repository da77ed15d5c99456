-- A list whose items are read one after the other, each by the same reading.
use Rattle.std.specs.Prelude.{◌≡◌, ◌⊎◌, List, [], ◌∷◌, IfOk, IfErr, Ok, Err, Result, Vec, vec_items}
use Rattle.std.specs.declared.alloc.Global.{Global}
use Rattle.records.specs.declared.fault.RecordFault.{RecordFault}
use Rattle.records.specs.declared.fault.RecordFault.TheVariants.{OutOfMemory}

-- Each item gives the value at its place.
abbrev pub EachGives : {X Y : Type 0} → (X → Result Y RecordFault → Type 0) → List X → List Y → Type 0
EachGives Gives [] [] = Unit {0}
EachGives Gives [] (y ∷ ys) = ⊥
EachGives Gives (x ∷ xs) [] = ⊥
EachGives Gives (x ∷ xs) (y ∷ ys) = Gives x (Ok y) × EachGives Gives xs ys

-- Some item gives this fault, and those before it give values.
abbrev pub FirstGives : {X Y : Type 0} → (X → Result Y RecordFault → Type 0) → List X → RecordFault → Type 0
FirstGives Gives [] e = ⊥
FirstGives {X} {Y} Gives (x ∷ xs) e = Gives x (Err e) ⊎ ((y : Y) × Gives x (Ok y) × FirstGives Gives xs e)

-- All values, or the fault of the first item that gives one, or want of memory.
pub record EachRead {X Y : Type 0} (Gives : X → Result Y RecordFault → Type 0) (xs : List X) (r : Result (Vec Y Global) RecordFault) : Type 0 where
  pub values : IfOk r (λ v. EachGives Gives xs (vec_items v))
  pub fault : IfErr r (λ e. (e ≡ OutOfMemory) ⊎ FirstGives Gives xs e)
