-- A file is in form exactly where it is the encoding of a dossier in range.
use Rattle.std.proofs.Common.{ℕ, ◌≤◌, List, get_or, arith, w8, Fits}
use Rattle.std.proofs.ByRecursion.{All-from_get_or}
use Rattle.records.specs.declared.Books.{Books}
use Rattle.reader.specs.Dossier.{Bytes}
use Rattle.reader.specs.Encode.{EncodingLaw}
use Rattle.reader.proofs.Written as written
use Rattle.reader.proofs.Decoded as read

pub octets : (bytes : List ℕ) → ((i : ℕ) → Fits w8 (get_or bytes i 0)) → Bytes bytes
octets bytes h = All-from_get_or (λ n. n ≤ 255) bytes 0 (λ i _. omega (arith, h i))

pub encoding_law : (books : Books) (bytes : List ℕ) → ((i : ℕ) → Fits w8 (get_or bytes i 0)) → EncodingLaw books bytes
encoding_law books bytes h = record { encoded = λ g f. written.encoded bytes (octets bytes h) g f; decoded = read.decoded books bytes }
