-- Items of four bytes each, taken from a list four bytes at a time.
use Rattle.std.proofs.Common.{◌≡◌, ℕ, zero, suc, ◌/◌, Bool, false, ◌&&◌, List, [], ◌∷◌, map, length, Ok, Err, Result, Vec, vec_items, refl, ap, ◌∙◌, sym, subst, inl, inr, arith}
use Rattle.std.specs.List.{list_all}
use Rattle.std.specs.Simd.{first_chunks}
use Rattle.std.specs.declared.alloc.Global.{Global}
use Rattle.records.specs.declared.RecordFault.{RecordFault}
use Rattle.records.specs.declared.RecordFault.TheVariants.{KindNotAllowed, WrongLength, Field, Literal, OutOfMemory}
use Rattle.records.specs.Each.{FirstGives, EachRead}
use Rattle.records.proofs.Items.{some_here, all_said, some_out}
use Rattle.bodies.specs.Literal.{of_four}
use Rattle.bodies.specs.Lists.{each_four, all_four, Taken}

-- The items are what each four bytes give.
all_fours : (p : ℕ → ℕ → ℕ → ℕ → Bool) (k : ℕ) (b : List ℕ) → length b / 4 ≡ k → list_all (of_four p) (first_chunks 4 k b) ≡ all_four p b
all_fours p zero [] e = refl
all_fours p zero (a ∷ []) e = refl
all_fours p zero (a ∷ b ∷ []) e = refl
all_fours p zero (a ∷ b ∷ c ∷ []) e = refl
all_fours p zero (a ∷ b ∷ c ∷ d ∷ bytes) e = absurd (let long : suc (suc (suc (suc (length bytes)))) / 4 ≡ 0 = e in omega arith)
all_fours p (suc k) [] e = absurd (let short : 0 / 4 ≡ suc k = e in omega arith)
all_fours p (suc k) (a ∷ []) e = absurd (let short : 1 / 4 ≡ suc k = e in omega arith)
all_fours p (suc k) (a ∷ b ∷ []) e = absurd (let short : 2 / 4 ≡ suc k = e in omega arith)
all_fours p (suc k) (a ∷ b ∷ c ∷ []) e = absurd (let short : 3 / 4 ≡ suc k = e in omega arith)
all_fours p (suc k) (a ∷ b ∷ c ∷ d ∷ bytes) e = ap (λ (rest : Bool). p a b c d && rest) (all_fours p k bytes (let long : suc (suc (suc (suc (length bytes)))) / 4 ≡ suc k = e in omega arith))

each_fours : {X : Type 0} (f : ℕ → ℕ → ℕ → ℕ → X) (k : ℕ) (b : List ℕ) → length b / 4 ≡ k → map (of_four f) (first_chunks 4 k b) ≡ each_four f b
each_fours f zero [] e = refl
each_fours f zero (a ∷ []) e = refl
each_fours f zero (a ∷ b ∷ []) e = refl
each_fours f zero (a ∷ b ∷ c ∷ []) e = refl
each_fours f zero (a ∷ b ∷ c ∷ d ∷ bytes) e = absurd (let long : suc (suc (suc (suc (length bytes)))) / 4 ≡ 0 = e in omega arith)
each_fours f (suc k) [] e = absurd (let short : 0 / 4 ≡ suc k = e in omega arith)
each_fours f (suc k) (a ∷ []) e = absurd (let short : 1 / 4 ≡ suc k = e in omega arith)
each_fours f (suc k) (a ∷ b ∷ []) e = absurd (let short : 2 / 4 ≡ suc k = e in omega arith)
each_fours f (suc k) (a ∷ b ∷ c ∷ []) e = absurd (let short : 3 / 4 ≡ suc k = e in omega arith)
each_fours {X} f (suc k) (a ∷ b ∷ c ∷ d ∷ bytes) e = ap (λ (rest : List X). f a b c d ∷ rest) (each_fours f k bytes (let long : suc (suc (suc (suc (length bytes)))) / 4 ≡ suc k = e in omega arith))

-- What is read of each four bytes, told of all.
module _ {X : Type 0} (Gives : List ℕ → Result X RecordFault → Type 0) (p : ℕ → ℕ → ℕ → ℕ → Bool) (f : ℕ → ℕ → ℕ → ℕ → X) (place : ℕ) (b : List ℕ) where
  abbrev fours : List (List ℕ)
  fours = first_chunks 4 (length b / 4) b

  abbrev Law : Type 0
  Law = (four : List ℕ) (s : Result X RecordFault) → Gives four s → Taken (λ x. x) (of_four p four) (of_four f four) place s

  out : (e : RecordFault) → ((four : List ℕ) → Gives four (Err e) → of_four p four ≡ false) → FirstGives Gives fours e → all_four p b ≡ false
  out e law h = sym (all_fours p (length b / 4) b refl) ∙ some_out Gives (of_four p) e law fours h

  fault : (e : RecordFault) → FirstGives Gives fours e → Law → Taken (vec_items {Z = Global}) (all_four p b) (each_four f b) place (Err e)
  fault (KindNotAllowed q) h law = some_here Gives ⊥ _ (λ n g. law n _ g) fours h
  fault (WrongLength q) h law = some_here Gives ⊥ _ (λ n g. law n _ g) fours h
  fault (Field q) h law = (some_here Gives _ _ (λ n g. (law n _ g).0) fours h, out _ (λ n g. (law n _ g).1) h)
  fault (Literal q) h law = (some_here Gives _ _ (λ n g. (law n _ g).0) fours h, out _ (λ n g. (law n _ g).1) h)
  fault OutOfMemory h law = tt

  pub all_taken : (xs : List (List ℕ)) (r : Result (Vec X Global) RecordFault) → xs ≡ fours → EachRead Gives xs r → Law → Taken (vec_items {Z = Global}) (all_four p b) (each_four f b) place r
  all_taken xs (Ok v) is h law =
      let said = all_said Gives (of_four p) (of_four f) (λ n x g. law n (Ok x) g) fours (vec_items v) (rw is at h.values) in
      (sym (all_fours p (length b / 4) b refl) ∙ said.0, said.1 ∙ each_fours f (length b / 4) b refl)
  all_taken xs (Err e) is h law = elim h.fault [
    | inl none ↦ subst (λ (q : RecordFault). Taken (vec_items {Z = Global}) (all_four p b) (each_four f b) place (Err q)) (sym none) tt
    | inr some ↦ fault e (rw is at some) law
  ]
