-- The bodies of a book's records, of either kind: read and written, and written and read.
use Rattle.std.proofs.Common.{◌≡◌, ℕ, ◌+◌, ◌*◌, ◌<◌, Bool, true, ◌&&◌, eqb, leb, List, [], ◌∷◌, ◌++◌, map, length, get_or, take, drop, sym, refl, ap, ◌∙◌, arith}
use Rattle.std.specs.List.{flat_map}
use Rattle.std.proofs.ByRecursion.{All-get_or}
use Rattle.std.proofs.lemmas.List.{length-append, length-map, length-take-le, take_at, drop_at, take-append-drop, take_all, take_more, map_push, get_or-map}
use Rattle.std.proofs.lemmas.Bool.{and_from, or_left, or_right, eqb-true, eq-eqb, le-leb}
use Rattle.pattern.specs.Duty.{RulesAllowed, RowsAllowed}
use Rattle.counts.specs.Net.{most_places}
use Rattle.counts.specs.Counted.{Transition}
use Rattle.counts.specs.Range.{RuleFits, RowFits}
use Rattle.atoms.specs.Range.{RuleIn, RowIn}
use Rattle.bodies.specs.Rule as atoms
use Rattle.bodies.specs.Encoding.{rule_bytes, row_bytes}
use Rattle.bodies.proofs.Encoding.{opening_written, rule_written, row_written, opening_read, rule_read, row_read}
use Rattle.records.specs.declared.BookKind.TheVariants.{Atoms, Counts}
use Rattle.records.specs.declared.Books.{Books}
use Rattle.records.specs.Number.{hold}
use Rattle.records.specs.Field.{words}
use Rattle.drafting.specs.Book.{Book, counted, atomic, begun, places_in, rule_count, row_count, opening_fits, rule_fits, row_fits, opening_in, rule_in, row_in, with_opening, with_rule, with_row}
use Rattle.reader.specs.Dossier.{Bytes, Holds, BookIn}
use Rattle.reader.specs.Encode.{word_bytes, transition_bytes, kind_number, place_count, opening_body, rule_bodies, row_bodies}
use Rattle.reader.proofs.Well.{PlacesWell, OpeningWell}
use Rattle.reader.proofs.Bodies.{bytes_of_words, words_of_bytes, length_words_bytes}

-- A body for each rule and each row.
pub as_many_rules : (k : Book) → length (rule_bodies k) ≡ rule_count k
as_many_rules (counted k) = length-map k.rules transition_bytes
as_many_rules (atomic k) = length-map k.rules rule_bytes

pub as_many_rows : (k : Book) → length (row_bodies k) ≡ row_count k
as_many_rows (counted k) = length-map k.rows (flat_map word_bytes)
as_many_rows (atomic k) = length-map k.rows row_bytes

-- The head says the places of the book.
pub places_again : (n : ℕ) (k : Book) → PlacesWell n k → OpeningWell n k → place_count k ≡ n
places_again n (counted k) p o = o.0
places_again n (atomic k) p o = sym p

pub places_read : (books : Books) (k : Book) → Holds books k → BookIn k → places_in books (kind_number k) (place_count k) ≡ true
places_read books (counted k) w h = or_right _ _ (and_from (hold books Counts) (leb 1 (length k.opening) && leb (length k.opening) most_places) w (and_from (leb 1 (length k.opening)) (leb (length k.opening) most_places) (le-leb 1 (length k.opening) h.0.0.0) (le-leb (length k.opening) most_places h.0.0.1)))
places_read books (atomic k) w h = or_left _ _ (and_from (hold books Atoms) true w refl)

-- One item more is one body more.
pushed : {X : Type 0} (bytes_of : X → List ℕ) (xs : List X) (x : X) (b : List ℕ) → bytes_of x ≡ b → map bytes_of (xs ++ x ∷ []) ≡ map bytes_of xs ++ b ∷ []
pushed bytes_of xs x b e = map_push bytes_of xs x ∙ ap (λ (w : List ℕ). map bytes_of xs ++ w ∷ []) e

-- What a body adds is written as that body, and the rest as before.
module _ (n : ℕ) (b : List ℕ) (octets : Bytes b) where
  words_again : eqb (length b) (2 * n) ≡ true → flat_map word_bytes (words b) ≡ b
  words_again l = bytes_of_words n b octets (eqb-true (length b) (2 * n) l)

  pub opening_again : (k : Book) → opening_fits n k b ≡ true → opening_in k b ≡ true → (kind_number (with_opening k b) ≡ kind_number k) × (opening_body (with_opening k b) ≡ b)
  opening_again (counted k) l r = (refl, words_again l)
  opening_again (atomic k) l r = (refl, opening_written b l r)

  pub rule_again : (k : Book) → rule_fits n k b ≡ true → rule_in k b ≡ true → (kind_number (with_rule n k b) ≡ kind_number k) × (opening_body (with_rule n k b) ≡ opening_body k) × (rule_bodies (with_rule n k b) ≡ rule_bodies k ++ b ∷ [])
  rule_again (counted k) l r = (refl, refl, pushed transition_bytes k.rules (record { takes = take n b; gives = drop n b }) b (take-append-drop n b))
  rule_again (atomic k) l r = (refl, refl, pushed rule_bytes k.rules (atoms.rule_of b) b (rule_written b l r))

  pub row_again : (k : Book) → row_fits n k b ≡ true → row_in k b ≡ true → (kind_number (with_row k b) ≡ kind_number k) × (opening_body (with_row k b) ≡ opening_body k) × (rule_bodies (with_row k b) ≡ rule_bodies k) × (row_bodies (with_row k b) ≡ row_bodies k ++ b ∷ [])
  row_again (counted k) l r = (refl, refl, refl, pushed (flat_map word_bytes) k.rows (words b) b (words_again l))
  row_again (atomic k) l r = (refl, refl, refl, pushed row_bytes k.rows (atoms.row_of b) b (row_written b l r))

-- The book with its first rules and no rows, and with all rules and its first rows.
abbrev pub first_rules : Book → ℕ → Book
first_rules (counted k) i = counted (record { opening = k.opening; rules = take i k.rules; rows = [] })
first_rules (atomic k) i = atomic (record { opening = k.opening; rules = take i k.rules; rows = [] })

abbrev pub first_rows : Book → ℕ → Book
first_rows (counted k) i = counted (record { opening = k.opening; rules = k.rules; rows = take i k.rows })
first_rows (atomic k) i = atomic (record { opening = k.opening; rules = k.rules; rows = take i k.rows })

pub all_rules : (k : Book) → first_rules k (rule_count k) ≡ first_rows k 0
all_rules (counted k) = λ j. counted (record { opening = k.opening; rules = take_all (length k.rules) k.rules (omega arith) j; rows = [] })
all_rules (atomic k) = λ j. atomic (record { opening = k.opening; rules = take_all (length k.rules) k.rules (omega arith) j; rows = [] })

pub all_rows : (k : Book) → first_rows k (row_count k) ≡ k
all_rows (counted k) = λ j. counted (record { opening = k.opening; rules = k.rules; rows = take_all (length k.rows) k.rows (omega arith) j })
all_rows (atomic k) = λ j. atomic (record { opening = k.opening; rules = k.rules; rows = take_all (length k.rows) k.rows (omega arith) j })

-- A body fits, is in range and says an item.
abbrev Says : {X : Type 0} → (List ℕ → Bool) → (List ℕ → Bool) → (List ℕ → X) → List ℕ → X → Type 0
Says fits in' says b x = (fits b ≡ true) × (in' b ≡ true) × (says b ≡ x)

-- The next item of a list is read from its body.
next_item : {X : Type 0} (fits in' : List ℕ → Bool) (says : List ℕ → X) (bytes_of : X → List ℕ) (xs : List X) (d : X) (i : ℕ) (b : List ℕ) → i < length xs → get_or (map bytes_of xs) i [] ≡ b → Says fits in' says (bytes_of (get_or xs i d)) (get_or xs i d) → (length (take i xs) ≡ i) × Says fits in' (λ w. take i xs ++ says w ∷ []) b (take (i + 1) xs)
next_item fits in' says bytes_of xs d i b h e s =
    let this : bytes_of (get_or xs i d) ≡ b = sym (get_or-map bytes_of xs i d [] h) ∙ e in (
      length-take-le i xs (omega arith),
      (ap fits (sym this) ∙ s.0, ap in' (sym this) ∙ s.1, (λ j. take i xs ++ (ap says (sym this) ∙ s.2) j ∷ []) ∙ sym (take_more xs i d h)),
    )

transition_read : (n : ℕ) (t : Transition) → RuleFits n t → Says {X = Transition} (λ b. eqb (length b) (2 * n)) (λ _. true) (λ b. record { takes = take n b; gives = drop n b }) (transition_bytes t) t
transition_read n t h = (
  eq-eqb (length (transition_bytes t)) (2 * n) (omega (arith, h.0, h.1, length-append t.takes t.gives)),
  refl,
  (λ i. record { takes = take_at t.takes t.gives n h.0 i; gives = drop_at t.takes t.gives n h.0 i }),
)

words_read : (n : ℕ) (ns : List ℕ) → RowFits n ns → Says (λ b. eqb (length b) (2 * n)) (λ _. true) words (flat_map word_bytes ns) ns
words_read n ns h = (eq-eqb (length (flat_map word_bytes ns)) (2 * n) (length_words_bytes ns ∙ ap (λ (m : ℕ). 2 * m) h), refl, words_of_bytes ns)

-- The body of the opening, and of the next rule or row, is read on.
pub opening_next : (k : Book) → BookIn k → Says (opening_fits (place_count k) (begun (kind_number k))) (opening_in (begun (kind_number k))) (with_opening (begun (kind_number k))) (opening_body k) (first_rules k 0)
opening_next (counted k) h =
    let s = words_read (length k.opening) k.opening refl in
    (s.0, refl, (λ j. counted (record { opening = s.2 j; rules = []; rows = [] })))
opening_next (atomic k) h =
    let s = opening_read k.opening h.opening_short h.opening_in in
    (s.0, s.1, (λ j. atomic (record { opening = s.2 j; rules = []; rows = [] })))

pub rule_next : (k : Book) → BookIn k → (i : ℕ) (b : List ℕ) → i < rule_count k → get_or (rule_bodies k) i [] ≡ b → (rule_count (first_rules k i) ≡ i) × Says (rule_fits (place_count k) (first_rules k i)) (rule_in (first_rules k i)) (with_rule (place_count k) (first_rules k i)) b (first_rules k (i + 1))
rule_next (counted k) h i b few e =
    let n : ℕ = length k.opening in
    let d : Transition = record { takes = []; gives = [] } in
    let s = next_item (λ w. eqb (length w) (2 * n)) (λ _. true) (λ w. record { takes = take n w; gives = drop n w }) transition_bytes k.rules d i b few e (transition_read n (get_or k.rules i d) (h.0.3 i few)) in
    (s.0, (s.1.0, refl, (λ j. counted (record { opening = k.opening; rules = s.1.2 j; rows = [] }))))
rule_next (atomic k) h i b few e =
    let s = next_item atoms.rule_fits atoms.rule_in atoms.rule_of rule_bytes k.rules (record { variables = 0; condition = []; effect = [] }) i b few e (rule_read _ (All-get_or RuleIn k.rules i (record { variables = 0; condition = []; effect = [] }) few h.each_rule_in)) in
    (s.0, (s.1.0, s.1.1, (λ j. atomic (record { opening = k.opening; rules = s.1.2 j; rows = [] }))))

pub row_next : (k : Book) → BookIn k → (i : ℕ) (b : List ℕ) → i < row_count k → get_or (row_bodies k) i [] ≡ b → (row_count (first_rows k i) ≡ i) × Says (row_fits (place_count k) (first_rows k i)) (row_in (first_rows k i)) (with_row (first_rows k i)) b (first_rows k (i + 1))
row_next (counted k) h i b few e =
    let n : ℕ = length k.opening in
    let s = next_item (λ w. eqb (length w) (2 * n)) (λ _. true) words (flat_map word_bytes) k.rows [] i b few e (words_read n (get_or k.rows i []) (h.0.4 i few)) in
    (s.0, (s.1.0, refl, (λ j. counted (record { opening = k.opening; rules = k.rules; rows = s.1.2 j }))))
row_next (atomic k) h i b few e =
    let s = next_item atoms.row_fits atoms.row_in atoms.row_of row_bytes k.rows (record { variables = 0; literals = [] }) i b few e (row_read _ (All-get_or RowIn k.rows i (record { variables = 0; literals = [] }) few h.each_row_in)) in
    (s.0, (s.1.0, s.1.1, (λ j. atomic (record { opening = k.opening; rules = k.rules; rows = s.1.2 j }))))

-- How many rules and rows there may be.
pub rules_allowed : (k : Book) → BookIn k → RulesAllowed (rule_count k)
rules_allowed (counted k) h = h.0.1
rules_allowed (atomic k) h = h.rules_in

pub rows_allowed : (k : Book) → BookIn k → RowsAllowed (row_count k)
rows_allowed (counted k) h = h.0.2
rows_allowed (atomic k) h = h.rows_in
