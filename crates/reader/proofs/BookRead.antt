-- A file is read over the records of a book, of either kind.
use Rattle.std.proofs.Common.{◌≡◌, ℕ, ◌+◌, ◌<◌, ◌≤◌, true, List, [], ◌∷◌, ◌++◌, length, get_or, sym, refl, ap, ◌∙◌, subst, arith}
use Rattle.std.specs.List.{flat_map}
use Rattle.std.proofs.lemmas.List.{length_push}
use Rattle.std.proofs.lemmas.Bool.{and_from, lt-ltb}
use Rattle.pattern.specs.Duty.{most_rules, most_rows}
use Rattle.records.specs.declared.Books.{Books}
use Rattle.records.specs.declared.RecordKind.{RecordKind}
use Rattle.records.specs.declared.RecordKind.TheVariants as kind
use Rattle.records.specs.declared.Section.{Section}
use Rattle.records.specs.declared.Section.TheVariants as section
use Rattle.records.specs.Order.{comes_after, among}
use Rattle.drafting.specs.Book.{Book, begun, rule_count, row_count}
use Rattle.drafting.specs.Progress.{Progress, room, long, ranged, advance}
use Rattle.reader.specs.Dossier.{BookIn}
use Rattle.reader.specs.Encode.{kind_number, place_count, opening_body, rule_bodies, row_bodies, framed, opening_record, rule_records, row_records}
use Rattle.reader.proofs.ReadingOn.{Takes, Begins, begins_less, Held, one_record, all_items, by_some, either_section, some_came, fewer, this_item}
use Rattle.reader.proofs.BookBodies.{as_many_rules, as_many_rows, first_rules, first_rows, all_rules, all_rows, opening_next, rule_next, row_next, rules_allowed, rows_allowed}

module _ (books : Books) (bytes : List ℕ) (observers : ℕ) (book : Book) (in' : BookIn book) where
  abbrev bare : Section → Book → Progress
  bare s b = record { books = books; section = s; observers = observers; places = place_count book; book = b; layers = []; entries = [] }

  -- After the head.
  abbrev pub headed : Progress
  headed = bare section.Head (begun (kind_number book))

  -- Over records of one kind, at least one, each of which adds to the book.
  module _ (k : RecordKind) (s t : Section) (part : ℕ → Book) (bodies : List (List ℕ)) (next : (u : Section) (i : ℕ) (b : List ℕ) → i < length bodies → get_or bodies i [] ≡ b → (room (bare u (part i)) k ≡ true) × (long (bare u (part i)) k b ≡ true) × (ranged (bare u (part i)) k b ≡ true) × (advance (bare u (part i)) k b ≡ bare t (part (i + 1)))) (after-s : among s (comes_after k) ≡ true) (after-t : among t (comes_after k) ≡ true) where
    abbrev so_far : List (List ℕ) → Progress
    so_far done = bare (by_some s t done) (part (length done))

    body_next : (done : List (List ℕ)) (b : List ℕ) (todo : List (List ℕ)) → bodies ≡ done ++ b ∷ todo → Takes (so_far done) k b (so_far (done ++ b ∷ []))
    body_next done b todo e =
        let u : Section = by_some s t done in
        let more = length_push done b in
        let n = next u (length done) b (fewer bodies done b todo e) (this_item bodies done b todo e []) in
        let at : t ≡ by_some s t (done ++ b ∷ []) = sym (some_came s t (done ++ b ∷ []) (omega arith)) in
        (and_from (among u (comes_after k)) (room (so_far done) k) (either_section (λ v. among v (comes_after k) ≡ true) s t done after-s after-t) n.0, n.1, n.2, n.3 ∙ (λ i. bare (at i) (part (sym more i))))

    all_bodies : 1 ≤ length bodies → (front : List ℕ) → Begins books bytes (front ++ flat_map (framed k) bodies) → Held books bytes front (bare s (part 0)) → Held books bytes (front ++ flat_map (framed k) bodies) (bare t (part (length bodies)))
    all_bodies some front b held =
        subst (λ (u : Section). Held books bytes (front ++ flat_map (framed k) bodies) (bare u (part (length bodies)))) (some_came s t bodies some)
        (all_items books bytes (framed k) so_far bodies (λ before done x todo e b h. one_record books bytes before (so_far done) (so_far (done ++ x ∷ [])) k x (body_next done x todo e) b h) front b held)

  -- Over the rules, and over the rows.
  rules_read : (front : List ℕ) → Begins books bytes (front ++ rule_records book) → Held books bytes front (bare section.Opening (first_rules book 0)) → Held books bytes (front ++ rule_records book) (bare section.Rules (first_rows book 0))
  rules_read front b held =
      let many = as_many_rules book in
      let allowed = rules_allowed book in' in
      subst (λ (w : Book). Held books bytes (front ++ rule_records book) (bare section.Rules w)) (ap (first_rules book) many ∙ all_rules book)
      (all_bodies kind.Rule section.Opening section.Rules (first_rules book) (rule_bodies book)
      (λ u i b few e. let n = rule_next book in' i b (omega arith) e in (lt-ltb (rule_count (first_rules book i)) most_rules (omega (arith, n.0, allowed.1)), n.1.0, n.1.1, ap (bare section.Rules) n.1.2))
      refl refl (omega (arith, allowed.0)) front b held)

  rows_read : (front : List ℕ) → Begins books bytes (front ++ row_records book) → Held books bytes front (bare section.Rules (first_rows book 0)) → Held books bytes (front ++ row_records book) (bare section.Rows book)
  rows_read front b held =
      let many = as_many_rows book in
      let allowed = rows_allowed book in' in
      subst (λ (w : Book). Held books bytes (front ++ row_records book) (bare section.Rows w)) (ap (first_rows book) many ∙ all_rows book)
      (all_bodies kind.Row section.Rules section.Rows (first_rows book) (row_bodies book)
      (λ u i b few e. let n = row_next book in' i b (omega arith) e in (lt-ltb (row_count (first_rows book i)) most_rows (omega (arith, n.0, allowed.1)), n.1.0, n.1.1, ap (bare section.Rows) n.1.2))
      refl refl (omega (arith, allowed.0)) front b held)

  -- Over the whole book.
  pub whole_book : (front : List ℕ) → Begins books bytes (((front ++ opening_record book) ++ rule_records book) ++ row_records book) → Held books bytes front headed → Held books bytes (((front ++ opening_record book) ++ rule_records book) ++ row_records book) (bare section.Rows book)
  whole_book front b held =
      let to_opening : List ℕ = front ++ opening_record book in
      let to_rules : List ℕ = to_opening ++ rule_records book in
      let b-rules : Begins books bytes to_rules = begins_less books bytes to_rules (row_records book) b in
      let o = opening_next book in' in
      rows_read to_rules b
      (rules_read to_opening b-rules
      (one_record books bytes front headed (bare section.Opening (first_rules book 0)) kind.Opening (opening_body book) (refl, o.0, o.1, ap (bare section.Opening) o.2) (begins_less books bytes to_opening (rule_records book) b-rules) held))
