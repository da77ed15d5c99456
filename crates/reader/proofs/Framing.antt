-- A record in the bytes of a file, written and read back.
use Rattle.std.proofs.Common.{◌≡◌, ℕ, suc, ◌+◌, ◌*◌, ◌/◌, ◌%◌, ◌≤◌, List, [], ◌∷◌, ◌++◌, length, take, sym, ap, ◌∙◌, arith}
use Rattle.std.proofs.lemmas.List.{take_at, length-take-le}
use Rattle.records.specs.declared.RecordKind.{RecordKind}
use Rattle.records.specs.Number.{record_number}
use Rattle.records.specs.Bytes.{word, length_at, kind_at, body_at}
use Rattle.reader.specs.Dossier.{Bytes}
use Rattle.reader.specs.Encode.{word_bytes, framed}

-- A number of two bytes, written and read, and read and written.
pub word_of_bytes : (n : ℕ) → word (n % 256) (n / 256) ≡ n
word_of_bytes n = omega arith

pub bytes_of_word : (low high : ℕ) → low ≤ 255 → word_bytes (word low high) ≡ low ∷ high ∷ []
bytes_of_word low high h =
    let l : (low + 256 * high) % 256 ≡ low = omega arith in
    let m : (low + 256 * high) / 256 ≡ high = omega arith in
    rw (l, m)

pub length_framed : (k : RecordKind) (b : List ℕ) → length (framed k b) ≡ 4 + length b
unfolding framed
length_framed k b = omega arith

-- Bytes that begin with a record.
module _ (k : RecordKind) (b post : List ℕ) where
  pub framed_length : length_at (framed k b ++ post) ≡ length b
  unfolding framed
  framed_length = word_of_bytes (length b)

  pub framed_kind : kind_at (framed k b ++ post) ≡ record_number k
  unfolding framed
  framed_kind = word_of_bytes (record_number k)

  pub framed_body : body_at (framed k b ++ post) ≡ b
  unfolding framed
  framed_body = take_at b post _ (sym (word_of_bytes (length b)))

-- A whole record of a kind is that kind and its body, framed.
pub whole_framed : (rest : List ℕ) (k : RecordKind) → Bytes rest → 4 + length_at rest ≤ length rest → kind_at rest ≡ record_number k → take (4 + length_at rest) rest ≡ framed k (body_at rest)
unfolding framed
whole_framed [] k o h e = absurd (omega (arith, h))
whole_framed (a ∷ []) k o h e = absurd (omega (arith, h))
whole_framed (a ∷ b ∷ []) k o h e = absurd (omega (arith, h))
whole_framed (a ∷ b ∷ c ∷ []) k o h e = absurd (omega (arith, h))
whole_framed (a ∷ b ∷ c ∷ d ∷ xs) k o h e =
    let n : ℕ = word a b in
    let four : 4 + n ≡ suc (suc (suc (suc n))) = omega arith in
    let long : length (take n xs) ≡ n = length-take-le n xs (omega (arith, h)) in
    let size : word_bytes (length (take n xs)) ≡ a ∷ b ∷ [] = ap word_bytes long ∙ bytes_of_word a b o.0 in
    let sort : word_bytes (record_number k) ≡ c ∷ d ∷ [] = ap word_bytes (sym e) ∙ bytes_of_word c d o.1.1.0 in
    ap (λ (m : ℕ). take m (a ∷ b ∷ c ∷ d ∷ xs)) four
    ∙ sym (ap (λ (w : List ℕ). w ++ (word_bytes (record_number k) ++ take n xs)) size ∙ ap (λ (w : List ℕ). a ∷ b ∷ (w ++ take n xs)) sort)
