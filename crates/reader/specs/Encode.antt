-- A dossier as the bytes of a file.
use Rattle.std.specs.Prelude.{◌≡◌, ℕ, ◌/◌, ◌%◌, ◌≤◌, List, [], ◌∷◌, ◌++◌, map, length}
use Rattle.std.specs.List.{flat_map}
use Rattle.counts.specs.Counted.{Transition}
use Rattle.bodies.specs.Encoding.{atom_bytes, rule_bytes, row_bytes}
use Rattle.judge.specs.Acceptance.{Claim}
use Rattle.observer.specs.declared.ObserverRow.{ObserverRow}
use Rattle.observer.specs.Mode.{mode_number}
use Rattle.records.specs.declared.Books.{Books}
use Rattle.records.specs.declared.RecordKind.{RecordKind}
use Rattle.records.specs.declared.RecordKind.TheVariants as kind
use Rattle.records.specs.Number.{book_number, record_number}
use Rattle.drafting.specs.Book.{Book, counted, atomic, book_kind}
use Rattle.drafting.specs.Progress.{Layer, Progress}
use Rattle.reader.specs.Dossier.{Dossier, dossier_of, Holds, InRange}
use Rattle.reader.specs.Form.{most_bytes, InForm}

-- A number of two bytes, the low byte first.
abbrev pub word_bytes : ℕ → List ℕ
word_bytes n = n % 256 ∷ n / 256 ∷ []

-- A rule of counts: what it takes, then what it gives.
abbrev pub transition_bytes : Transition → List ℕ
transition_bytes t = t.takes ++ t.gives

-- The number of the kind of a book, and how many places its head says.
abbrev pub kind_number : Book → ℕ
kind_number b = book_number (book_kind b)

abbrev pub place_count : Book → ℕ
place_count (counted b) = length b.opening
place_count (atomic b) = 0

-- The bodies of its opening, its rules and its rows.
abbrev pub opening_body : Book → List ℕ
opening_body (counted b) = flat_map word_bytes b.opening
opening_body (atomic b) = flat_map atom_bytes b.opening

abbrev pub rule_bodies : Book → List (List ℕ)
rule_bodies (counted b) = map transition_bytes b.rules
rule_bodies (atomic b) = map rule_bytes b.rules

abbrev pub row_bodies : Book → List (List ℕ)
row_bodies (counted b) = map (flat_map word_bytes) b.rows
row_bodies (atomic b) = map row_bytes b.rows

-- A record: the length of its body, its kind and its body.
unfoldable pub framed : RecordKind → List ℕ → List ℕ
framed k body = word_bytes (length body) ++ (word_bytes (record_number k) ++ body)

-- The head: the kind of the book, how many observers and how many places.
abbrev pub head_record : ℕ → ℕ → ℕ → List ℕ
head_record number observers places = framed kind.Head (number ∷ observers ∷ places ∷ [])

abbrev pub opening_record : Book → List ℕ
opening_record b = framed kind.Opening (opening_body b)

abbrev pub rule_records : Book → List ℕ
rule_records b = flat_map (framed kind.Rule) (rule_bodies b)

abbrev pub row_records : Book → List ℕ
row_records b = flat_map (framed kind.Row) (row_bodies b)

-- A row of an observer: the row below and the mode.
abbrev pub pair_record : ObserverRow → List ℕ
pair_record r = framed kind.ObserverRow (r.below ∷ mode_number r.mode ∷ [])

-- An observer: its moves, then its rows.
abbrev pub layer_records : Layer → List ℕ
layer_records l = framed kind.Moves (map mode_number l.moves) ++ flat_map pair_record l.rows

-- An entry of the table: the row that it names and the matching.
abbrev pub entry_record : Claim → List ℕ
entry_record e = framed kind.Entry (e.row ∷ e.matching)

-- The end, with nothing in it.
abbrev pub end_record : List ℕ
end_record = framed kind.End []

-- The records of a dossier, one after the other.
abbrev pub encode : Dossier → List ℕ
encode d = (((((head_record (kind_number d.book) (length d.layers) (place_count d.book) ++ opening_record d.book) ++ rule_records d.book) ++ row_records d.book) ++ flat_map layer_records d.layers) ++ flat_map entry_record d.entries) ++ end_record

-- A file that may hold such books is in form exactly where it is the encoding of a dossier in range with such a book, and then it holds that dossier.
pub record EncodingLaw (books : Books) (bytes : List ℕ) : Type 0 where
  -- A file in form is the encoding of what it holds, which is in range, with a book that it may hold.
  pub encoded : (g : Progress) → InForm books bytes g → Holds books g.book × InRange (dossier_of g) × (encode (dossier_of g) ≡ bytes)
  -- The encoding of such a dossier that is not too long is in form, and holds that dossier.
  pub decoded : (d : Dossier) → Holds books d.book → InRange d → encode d ≡ bytes → length bytes ≤ most_bytes → (g : Progress) × InForm books bytes g × (dossier_of g ≡ d)
