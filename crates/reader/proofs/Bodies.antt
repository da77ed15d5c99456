-- The bodies of records, read and written, and written and read.
use Rattle.std.proofs.Common.{◌≡◌, ℕ, zero, suc, ◌-◌, ◌*◌, ◌≤◌, true, leb, List, [], ◌∷◌, ◌++◌, map, length, refl, ap, ◌∙◌, arith}
use Rattle.std.specs.List.{flat_map}
use Rattle.std.proofs.lemmas.Bool.{and_parts, and_from, leb-true, le-leb}
use Rattle.observer.specs.declared.Mode.{Mode}
use Rattle.observer.specs.declared.Mode.TheVariants.{Zero, One, Two, Three}
use Rattle.observer.specs.Mode.{mode_number}
use Rattle.records.specs.Field.{words, mode_of, all_at_most}
use Rattle.reader.specs.Dossier.{Bytes}
use Rattle.reader.specs.Encode.{word_bytes}
use Rattle.reader.proofs.Framing.{word_of_bytes, bytes_of_word}

-- Numbers of two bytes.
pub bytes_of_words : (n : ℕ) (b : List ℕ) → Bytes b → length b ≡ 2 * n → flat_map word_bytes (words b) ≡ b
bytes_of_words n [] o h = refl
bytes_of_words n (low ∷ []) o h = absurd (let odd : suc 0 ≡ 2 * n = h in omega arith)
bytes_of_words n (low ∷ high ∷ b) o h =
    let rest : length b ≡ 2 * (n - 1) = (let long : suc (suc (length b)) ≡ 2 * n = h in omega arith) in
    ap (λ (w : List ℕ). w ++ flat_map word_bytes (words b)) (bytes_of_word low high o.0) ∙ ap (λ (w : List ℕ). low ∷ high ∷ w) (bytes_of_words (n - 1) b o.1.1 rest)

pub words_of_bytes : (ns : List ℕ) → words (flat_map word_bytes ns) ≡ ns
words_of_bytes [] = refl
words_of_bytes (n ∷ ns) = ap (λ (m : ℕ). m ∷ words (flat_map word_bytes ns)) (word_of_bytes n) ∙ ap (λ (ms : List ℕ). n ∷ ms) (words_of_bytes ns)

pub length_words_bytes : (ns : List ℕ) → length (flat_map word_bytes ns) ≡ 2 * length ns
length_words_bytes [] = refl
length_words_bytes (n ∷ ns) = omega (arith, length_words_bytes ns)

-- Modes.
pub number_of_mode : (n : ℕ) → n ≤ 3 → mode_number (mode_of n) ≡ n
number_of_mode zero h = refl
number_of_mode (suc zero) h = refl
number_of_mode (suc (suc zero)) h = refl
number_of_mode (suc (suc (suc n))) h = omega arith

pub mode_of_number : (m : Mode) → mode_of (mode_number m) ≡ m
mode_of_number Zero = refl
mode_of_number One = refl
mode_of_number Two = refl
mode_of_number Three = refl

pub mode_small : (m : Mode) → mode_number m ≤ 3
mode_small Zero = omega arith
mode_small One = omega arith
mode_small Two = omega arith
mode_small Three = omega arith

pub numbers_of_modes : (b : List ℕ) → all_at_most 3 b ≡ true → map mode_number (map mode_of b) ≡ b
numbers_of_modes [] h = refl
numbers_of_modes (n ∷ b) h =
    let parts = and_parts (leb n 3) (all_at_most 3 b) h in
    ap (λ (m : ℕ). m ∷ map mode_number (map mode_of b)) (number_of_mode n (leb-true n 3 parts.0)) ∙ ap (λ (w : List ℕ). n ∷ w) (numbers_of_modes b parts.1)

pub modes_of_numbers : (ms : List Mode) → map mode_of (map mode_number ms) ≡ ms
modes_of_numbers [] = refl
modes_of_numbers (m ∷ ms) = ap (λ (n : Mode). n ∷ map mode_of (map mode_number ms)) (mode_of_number m) ∙ ap (λ (ns : List Mode). m ∷ ns) (modes_of_numbers ms)

pub modes_small : (ms : List Mode) → all_at_most 3 (map mode_number ms) ≡ true
modes_small [] = refl
modes_small (m ∷ ms) = and_from (leb (mode_number m) 3) (all_at_most 3 (map mode_number ms)) (le-leb (mode_number m) 3 (mode_small m)) (modes_small ms)
