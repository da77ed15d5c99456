-- Items of a list that are read one after the other.
use Rattle.std.proofs.Common.{◌≡◌, ℕ, zero, suc, ◌+◌, ◌<◌, ◌≤◌, Bool, true, false, leb, List, [], ◌∷◌, ◌++◌, map, length, get_or, take, Ok, Err, Result, Vec, vec_items, sym, refl, ap, ◌∙◌, subst, inl, inr, arith}
use Rattle.std.specs.List.{list_all}
use Rattle.std.proofs.lemmas.List.{take_more}
use Rattle.std.proofs.lemmas.Bool.{and_from, and_left, and_right, le-leb, lt-leb}
use Rattle.std.specs.declared.alloc.Global.{Global}
use Rattle.observer.specs.declared.Mode.{Mode}
use Rattle.records.specs.declared.fault.RecordFault.{RecordFault}
use Rattle.records.specs.declared.fault.RecordFault.TheVariants.{KindNotAllowed, WrongLength, Field, Literal, OutOfMemory}
use Rattle.records.specs.Field.{mode_of, Moded}
use Rattle.records.specs.Each.{EachGives, FirstGives, EachRead}

module _ {X Y : Type 0} (Gives : X → Result Y RecordFault → Type 0) where
  after : (xs : List X) (ys : List Y) (x : X) (y : Y) → EachGives Gives xs ys → Gives x (Ok y) → EachGives Gives (xs ++ x ∷ []) (ys ++ y ∷ [])
  after [] [] x y e h = (h, tt)
  after [] (z ∷ ys) x y e h = absurd e
  after (w ∷ xs) [] x y e h = absurd e
  after (w ∷ xs) (z ∷ ys) x y e h = (e.0, after xs ys x y e.1 h)

  -- The item at a place gives one value more, or a fault.
  module _ (xs : List X) (i : ℕ) (x : X) (here : i < length xs) (is : x ≡ get_or xs i x) where
    pub one_more : (ys more : List Y) (y : Y) → more ≡ ys ++ y ∷ [] → Gives x (Ok y) → EachGives Gives (take i xs) ys → EachGives Gives (take (i + 1) xs) more
    one_more ys more y e h inv =
        let next : take (i + 1) xs ≡ take i xs ++ x ∷ [] = take_more xs i x here ∙ ap (λ (w : X). take i xs ++ w ∷ []) (sym is) in
        rw (e, next) (after (take i xs) ys x y inv h)

  pub one_fails : (xs : List X) (i : ℕ) (x : X) (e : RecordFault) (ys : List Y) → i < length xs → x ≡ get_or xs i x → EachGives Gives (take i xs) ys → Gives x (Err e) → FirstGives Gives xs e
  one_fails [] i x e ys here is inv h = absurd (omega arith)
  one_fails (w ∷ xs) zero x e ys here is inv h = inl (subst (λ (z : X). Gives z (Err e)) is h)
  one_fails (w ∷ xs) (suc i) x e [] here is inv h = absurd inv
  one_fails (w ∷ xs) (suc i) x e (y ∷ ys) here is inv h = inr (y, inv.0, one_fails xs i x e ys (omega arith) is inv.1 h)

  -- What holds wherever an item gives a fault holds where some item does.
  pub some_here : (P : Type 0) (e : RecordFault) → ((x : X) → Gives x (Err e) → P) → (xs : List X) → FirstGives Gives xs e → P
  some_here P e law [] h = absurd h
  some_here P e law (x ∷ xs) h = elim h [ inl this ↦ law x this | inr rest ↦ some_here P e law xs rest.2 ]

  -- All items are in range and say their values, or some item is out of range.
  pub all_said : (ok : X → Bool) (says : X → Y) → ((x : X) (y : Y) → Gives x (Ok y) → (ok x ≡ true) × (y ≡ says x)) → (xs : List X) (ys : List Y) → EachGives Gives xs ys → (list_all ok xs ≡ true) × (ys ≡ map says xs)
  all_said ok says law [] [] h = (refl, refl)
  all_said ok says law [] (y ∷ ys) h = absurd h
  all_said ok says law (x ∷ xs) [] h = absurd h
  all_said ok says law (x ∷ xs) (y ∷ ys) h =
      let this = law x y h.0 in
      let rest = all_said ok says law xs ys h.1 in
      (and_from (ok x) (list_all ok xs) this.0 rest.0, (λ j. this.1 j ∷ rest.1 j))

  pub some_out : (ok : X → Bool) (e : RecordFault) → ((x : X) → Gives x (Err e) → ok x ≡ false) → (xs : List X) → FirstGives Gives xs e → list_all ok xs ≡ false
  some_out ok e law [] h = absurd h
  some_out ok e law (x ∷ xs) h = elim h [ inl this ↦ and_left (ok x) (list_all ok xs) (law x this) | inr rest ↦ and_right (ok x) (list_all ok xs) (some_out ok e law xs rest.2) ]

-- What is read of a byte as a mode.
abbrev pub ModeGiven : ℕ → ℕ → Result Mode RecordFault → Type 0
ModeGiven place n (Ok m) = (n ≤ 3) × (m ≡ mode_of n)
ModeGiven place n (Err (KindNotAllowed p)) = ⊥
ModeGiven place n (Err (WrongLength p)) = ⊥
ModeGiven place n (Err (Field f)) = (f.place ≡ place) × (3 < n)
ModeGiven place n (Err (Literal f)) = ⊥
ModeGiven place n (Err OutOfMemory) = ⊥

module _ (Gives : ℕ → Result Mode RecordFault → Type 0) (place : ℕ) where
  mode_fault : (bytes : List ℕ) (e : RecordFault) → FirstGives Gives bytes e → ((n : ℕ) (r : Result Mode RecordFault) → Gives n r → ModeGiven place n r) → Moded bytes place (Err e)
  mode_fault bytes (KindNotAllowed p) h law = some_here Gives ⊥ _ (λ n g. law n _ g) bytes h
  mode_fault bytes (WrongLength p) h law = some_here Gives ⊥ _ (λ n g. law n _ g) bytes h
  mode_fault bytes (Field f) h law = (some_here Gives (f.place ≡ place) (Field f) (λ n g. (law n (Err (Field f)) g).0) bytes h, some_out Gives (λ n. leb n 3) (Field f) (λ n g. lt-leb n 3 (law n (Err (Field f)) g).1) bytes h)
  mode_fault bytes (Literal f) h law = some_here Gives ⊥ _ (λ n g. law n _ g) bytes h
  mode_fault bytes OutOfMemory h law = tt

  pub moded : (bytes : List ℕ) (r : Result (Vec Mode Global) RecordFault) → EachRead Gives bytes r → ((n : ℕ) (s : Result Mode RecordFault) → Gives n s → ModeGiven place n s) → Moded bytes place r
  moded bytes (Ok v) h law = all_said Gives (λ n. leb n 3) mode_of (λ n m g. let l = law n (Ok m) g in (le-leb n 3 l.0, l.1)) bytes (vec_items v) h.values
  moded bytes (Err e) h law = elim h.fault [ inl none ↦ subst (λ (f : RecordFault). Moded bytes place (Err f)) (sym none) tt | inr some ↦ mode_fault bytes e some law ]
