-- Numbers of two bytes, taken from a list two bytes at a time.
use Rattle.std.proofs.Common.{◌≡◌, ℕ, zero, suc, ◌+◌, ◌*◌, ◌/◌, List, [], ◌∷◌, map, length, refl, arith, w16}
use Rattle.std.specs.Int.{from_le_bytes}
use Rattle.std.specs.Simd.{first_chunks}
use Rattle.records.specs.Field.{words}

pub words_by : (k : ℕ) (b : List ℕ) → length b / 2 ≡ k → map (from_le_bytes w16) (first_chunks 2 k b) ≡ words b
words_by zero [] e = refl
words_by zero (low ∷ []) e = refl
words_by zero (low ∷ high ∷ b) e = absurd (let long : suc (suc (length b)) / 2 ≡ 0 = e in omega arith)
words_by (suc k) [] e = absurd (let short : 0 / 2 ≡ suc k = e in omega arith)
words_by (suc k) (low ∷ []) e = absurd (let short : 1 / 2 ≡ suc k = e in omega arith)
words_by (suc k) (low ∷ high ∷ b) e =
    let first : from_le_bytes w16 (low ∷ high ∷ []) ≡ low + 256 * high = omega arith in
    let rest = words_by k b (let long : suc (suc (length b)) / 2 ≡ suc k = e in omega arith) in
    (λ i. first i ∷ rest i)
