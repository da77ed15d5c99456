-- The encoding of a dossier in range is in form, and holds that dossier.
use Rattle.std.proofs.Common.{◌≡◌, ℕ, ◌+◌, ◌≤◌, true, eqb, leb, List, [], ◌∷◌, ◌++◌, length, sym, refl, ap, ◌∙◌, subst, arith}
use Rattle.std.specs.List.{flat_map}
use Rattle.std.proofs.lemmas.List.{append-nil, length_push}
use Rattle.std.proofs.lemmas.Bool.{and_from, le-leb, eq-eqb}
use Rattle.judge.specs.Acceptance.{Claim}
use Rattle.records.specs.declared.Books.{Books}
use Rattle.records.specs.declared.RecordKind.{RecordKind}
use Rattle.records.specs.declared.RecordKind.TheVariants as kind
use Rattle.records.specs.declared.Section.{Section}
use Rattle.records.specs.declared.Section.TheVariants as section
use Rattle.records.specs.Order.{comes_after, among}
use Rattle.drafting.specs.Book.{places_in}
use Rattle.drafting.specs.Progress.{Progress, start, most_matching}
use Rattle.reader.specs.Dossier.{Dossier, dossier_of, Holds, ClaimFits, InRange}
use Rattle.reader.specs.Form.{most_bytes, begins, InForm}
use Rattle.reader.specs.Encode.{kind_number, place_count, head_record, opening_record, rule_records, row_records, layer_records, entry_record, end_record, encode}
use Rattle.reader.proofs.ReadingOn.{Takes, Begins, begins_less, Held, one_record, all_items, by_some, either_section, some_came, all_this}
use Rattle.reader.proofs.BookBodies.{places_read}
use Rattle.reader.proofs.BookRead.{headed, whole_book}
use Rattle.reader.proofs.LayersRead.{layered, all_layers}

module _ (books : Books) (bytes : List ℕ) (d : Dossier) (holds : Holds books d.book) (in' : InRange d) where
  abbrev places : ℕ
  places = place_count d.book

  abbrev observers : ℕ
  observers = length d.layers

  abbrev over_layers : Section → List Claim → Progress
  over_layers s es = record { books = books; section = s; observers = observers; places = places; book = d.book; layers = d.layers; entries = es }

  -- After the observers, of which there may be none, and after some entries.
  abbrev last_rows : Section
  last_rows = by_some section.Rows section.ObserverRows d.layers

  abbrev entered : List Claim → Progress
  entered done = over_layers (by_some last_rows section.Entries done) done

  abbrev number : ℕ
  number = kind_number d.book

  head_next : Takes (start books) kind.Head (number ∷ observers ∷ places ∷ []) (headed books bytes observers d.book in'.book_in)
  head_next = (
    refl,
    refl,
    and_from (leb observers 2) (places_in books number places) (le-leb observers 2 in'.few_layers) (places_read books d.book holds in'.book_in),
    refl,
  )

  -- Entries and the end may come after any of these.
  after_layers : (k : RecordKind) (done : List Claim) → among section.Rows (comes_after k) ≡ true → among section.ObserverRows (comes_after k) ≡ true → among section.Entries (comes_after k) ≡ true → among (by_some last_rows section.Entries done) (comes_after k) ≡ true
  after_layers k done p q r = either_section (λ s. among s (comes_after k) ≡ true) last_rows section.Entries done (either_section (λ s. among s (comes_after k) ≡ true) section.Rows section.ObserverRows d.layers p q) r

  entry_next : (done : List Claim) (e : Claim) (todo : List Claim) → d.entries ≡ done ++ e ∷ todo → Takes (entered done) kind.Entry (e.row ∷ e.matching) (entered (done ++ e ∷ []))
  entry_next done e todo f =
      let fits : ClaimFits e = all_this d.entries done e todo f ClaimFits in'.entries_fit in
      let at : section.Entries ≡ by_some last_rows section.Entries (done ++ e ∷ []) = sym (some_came last_rows section.Entries (done ++ e ∷ []) (omega (arith, length_push done e))) in
      let size : ℕ = length (e.row ∷ e.matching) in (
        and_from (among (by_some last_rows section.Entries done) (comes_after kind.Entry)) (eqb observers observers) (after_layers kind.Entry done refl refl refl) (eq-eqb observers observers refl),
        and_from (leb 1 size) (leb size (1 + most_matching)) (le-leb 1 size (omega arith)) (le-leb size (1 + most_matching) (omega (arith, fits.1))),
        refl,
        ap (λ (s : Section). over_layers s (done ++ e ∷ [])) at,
      )

  end_next : Takes (entered d.entries) kind.End [] (over_layers section.End d.entries)
  end_next = (
    and_from (among (by_some last_rows section.Entries d.entries) (comes_after kind.End)) (eqb observers observers) (after_layers kind.End d.entries refl refl refl) (eq-eqb observers observers refl),
    refl,
    refl,
    refl,
  )

  whole_file : Begins books bytes (encode d) → Held books bytes (encode d) (over_layers section.End d.entries)
  whole_file b =
      let to_head : List ℕ = head_record number observers places in
      let to_rows : List ℕ = ((to_head ++ opening_record d.book) ++ rule_records d.book) ++ row_records d.book in
      let to_layers : List ℕ = to_rows ++ flat_map layer_records d.layers in
      let to_entries : List ℕ = to_layers ++ flat_map entry_record d.entries in
      let b-entries : Begins books bytes to_entries = begins_less books bytes to_entries end_record b in
      let b-layers : Begins books bytes to_layers = begins_less books bytes to_layers (flat_map entry_record d.entries) b-entries in
      let b-rows : Begins books bytes to_rows = begins_less books bytes to_rows (flat_map layer_records d.layers) b-layers in
      let b-rules = begins_less books bytes ((to_head ++ opening_record d.book) ++ rule_records d.book) (row_records d.book) b-rows in
      let b-opening = begins_less books bytes (to_head ++ opening_record d.book) (rule_records d.book) b-rules in
      let b-head : Begins books bytes to_head = begins_less books bytes to_head (opening_record d.book) b-opening in
      let head : Held books bytes to_head (headed books bytes observers d.book in'.book_in) = one_record books bytes [] (start books) (headed books bytes observers d.book in'.book_in) kind.Head (number ∷ observers ∷ places ∷ []) head_next b-head begins in
      let book : Held books bytes to_rows (layered books bytes places d.book d.layers in'.layers_in []) = whole_book books bytes observers d.book in'.book_in to_head b-rows head in
      let layers : Held books bytes to_layers (entered []) = all_layers books bytes places d.book d.layers in'.layers_in to_rows b-layers book in
      let entries : Held books bytes to_entries (entered d.entries) = all_items books bytes entry_record entered d.entries (λ before done e todo f b h. one_record books bytes before (entered done) (entered (done ++ e ∷ [])) kind.Entry (e.row ∷ e.matching) (entry_next done e todo f) b h) to_layers b-entries layers in
      one_record books bytes to_entries (entered d.entries) (over_layers section.End d.entries) kind.End [] end_next b entries

  pub decoded : encode d ≡ bytes → length bytes ≤ most_bytes → (g : Progress) × InForm books bytes g × (dossier_of g ≡ d)
  decoded e short =
      let read : Held books bytes (encode d) (over_layers section.End d.entries) = whole_file ([], append-nil (encode d) ∙ e) in
      (over_layers section.End d.entries, record { short = short; read = subst (λ (w : List ℕ). Held books bytes w (over_layers section.End d.entries)) e read; ended = refl }, refl)
