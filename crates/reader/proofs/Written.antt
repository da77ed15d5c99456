-- The records of a file so far, written again from what they hold.
use Rattle.std.proofs.Common.{◌≡◌, ℕ, ◌+◌, ◌<◌, ◌≤◌, true, ltb, leb, List, [], ◌∷◌, ◌++◌, map, length, get_or, take, drop, sym, refl, ap, ◌∙◌, subst, arith, take-add}
use Rattle.std.specs.List.{flat_map}
use Rattle.std.proofs.ByRecursion.{All-drop}
use Rattle.std.proofs.lemmas.List.{append-nil, append_assoc, flat_map_more, length-drop, nil_from_length, take_all}
use Rattle.std.proofs.lemmas.Bool.{and_parts, eqb-true, leb-true, ltb-true}
use Rattle.bodies.proofs.Encoding.{first_one, first_two, first_three}
use Rattle.observer.specs.declared.ObserverRow.{ObserverRow}
use Rattle.observer.specs.Mode.{mode_number}
use Rattle.records.specs.declared.Books.{Books}
use Rattle.records.specs.declared.RecordKind.{RecordKind}
use Rattle.records.specs.declared.RecordKind.TheVariants as kind
use Rattle.records.specs.declared.Section.{Section}
use Rattle.records.specs.declared.Section.TheVariants as section
use Rattle.records.specs.Bytes.{length_at, body_at}
use Rattle.records.specs.Field.{mode_of}
use Rattle.records.specs.Order.{comes_after, leads_to, among}
use Rattle.drafting.specs.Book.{begun, places_in, row_count}
use Rattle.drafting.specs.Progress.{Layer, Progress, room, allowed, long, ranged, advance, rows_below, with_observer_row, most_matching}
use Rattle.reader.specs.Dossier.{dossier_of, Bytes, Holds, InRange}
use Rattle.reader.specs.Form.{At, begins, more, InForm}
use Rattle.reader.specs.Encode.{kind_number, place_count, rule_bodies, row_bodies, framed, head_record, opening_record, rule_records, row_records, pair_record, layer_records, entry_record, end_record, encode}
use Rattle.reader.proofs.Sections.{among_one, among_two, among_three}
use Rattle.reader.proofs.Well.{WellAt, begins_well, well, in_range, body_octets, leads}
use Rattle.reader.proofs.Holding.{holds}
use Rattle.reader.proofs.Framing.{whole_framed}
use Rattle.reader.proofs.Bodies.{number_of_mode, numbers_of_modes}
use Rattle.reader.proofs.BookBodies.{as_many_rules, as_many_rows, places_again, opening_again, rule_again, row_again}

-- The records up to the head, the opening, the rules and so on.
module _ (g : Progress) where
  abbrev to_head : List ℕ
  to_head = head_record (kind_number g.book) g.observers g.places

  abbrev to_opening : List ℕ
  to_opening = to_head ++ opening_record g.book

  abbrev to_rules : List ℕ
  to_rules = to_opening ++ rule_records g.book

  abbrev to_rows : List ℕ
  to_rows = to_rules ++ row_records g.book

  abbrev to_layers : List ℕ
  to_layers = to_rows ++ flat_map layer_records g.layers

  abbrev to_entries : List ℕ
  to_entries = to_layers ++ flat_map entry_record g.entries

  -- Those that have come when a section is reached.
  abbrev written : Section → List ℕ
  written section.Start = []
  written section.Head = to_head
  written section.Opening = to_opening
  written section.Rules = to_rules
  written section.Rows = to_rows
  written section.Moves = to_layers
  written section.ObserverRows = to_layers
  written section.Entries = to_entries
  written section.End = to_entries ++ end_record

both : {a b c d : List ℕ} → a ≡ b → c ≡ d → a ++ c ≡ b ++ d
both p q = λ i. p i ++ q i

module _ {X : Type 0} (f : X → List ℕ) (before : List ℕ) (xs : List X) where
  -- Nothing was added yet.
  none_yet : xs ≡ [] → before ++ flat_map f xs ≡ before
  none_yet e = ap (λ (ys : List X). before ++ flat_map f ys) e ∙ append-nil before

  -- One more is added at the end.
  one_more : (x : X) (all new : List ℕ) → before ++ flat_map f xs ≡ all → f x ≡ new → before ++ flat_map f (xs ++ x ∷ []) ≡ all ++ new
  one_more x all new p q = sym (flat_map_more f before xs x) ∙ both p q

-- One more row of the topmost observer is at the end of the observers.
row_added : (n below : ℕ) (ls : List Layer) (r : ObserverRow) → below < rows_below n ls → flat_map layer_records (with_observer_row ls r) ≡ flat_map layer_records ls ++ pair_record r
row_added n below [] r h = absurd (omega (arith, h))
row_added n below (l ∷ []) r h =
    let moves : List ℕ = framed kind.Moves (map mode_number l.moves) in
    append-nil (moves ++ flat_map pair_record (l.rows ++ r ∷ [])) ∙ sym (flat_map_more pair_record moves l.rows r) ∙ both (sym (append-nil (layer_records l))) refl
row_added n below (l ∷ m ∷ ls) r h = both refl (row_added (length l.rows) below (m ∷ ls) r h) ∙ sym (append_assoc (layer_records l) (flat_map layer_records (m ∷ ls)) (pair_record r))

module _ (g : Progress) (b : List ℕ) (octets : Bytes b) where
  abbrev Known : Section → Type 0
  Known s = WellAt g s × (written g s ≡ written g g.section)

  -- Before an entry or the end, all but the end was written.
  but_the_end : among g.section (comes_after kind.Entry) ≡ true → WellAt g g.section → to_entries g ≡ written g g.section
  but_the_end h w =
      let no_entry = none_yet entry_record (to_layers g) g.entries in
      among_three Known g.section section.Rows section.ObserverRows section.Entries h (w, refl)
      (λ v. no_entry v.0.1.1 ∙ none_yet layer_records (to_rows g) g.layers v.0.1.0 ∙ v.1)
      (λ v. no_entry v.0.3 ∙ v.1)
      (λ v. v.1)

  -- The bodies of a head and of an observer's row.
  head_body : long g kind.Head b ≡ true → ranged g kind.Head b ≡ true → kind_number (begun (get_or b 0 0)) ∷ get_or b 1 0 ∷ get_or b 2 0 ∷ [] ≡ b
  head_body l r =
      let parts = and_parts (leb (get_or b 1 0) 2) (places_in g.books (get_or b 0 0) (get_or b 2 0)) r in
      let three = eqb-true (length b) 3 l in
      let over = nil_from_length (drop 3 b) (omega (arith, three, length-drop 3 b)) in
      (λ i. (begins_well g.books (get_or b 0 0) (get_or b 2 0) parts.1).number i ∷ get_or b 1 0 ∷ get_or b 2 0 ∷ sym over i) ∙ first_three b (omega arith)

  pair_body : long g kind.ObserverRow b ≡ true → leb (get_or b 1 0) 3 ≡ true → get_or b 0 0 ∷ mode_number (mode_of (get_or b 1 0)) ∷ [] ≡ b
  pair_body l r =
      let two = eqb-true (length b) 2 l in
      let over = nil_from_length (drop 2 b) (omega (arith, two, length-drop 2 b)) in
      (λ i. get_or b 0 0 ∷ number_of_mode (get_or b 1 0) (leb-true (get_or b 1 0) 3 r) i ∷ sym over i) ∙ first_two b (omega arith)

  -- A record that is taken is what is written next.
  written_next : (k : RecordKind) → WellAt g g.section → allowed g k ≡ true → long g k b ≡ true → ranged g k b ≡ true → written (advance g k b) (leads_to k) ≡ written g g.section ++ framed k b
  written_next kind.Head w a l r =
      let parts = and_parts (among g.section (comes_after kind.Head)) true a in
      let v = among_one Known g.section section.Start parts.0 (w, refl) in
      both v.1 (ap (framed kind.Head) (head_body l r))
  written_next kind.Opening w a l r =
      let parts = and_parts (among g.section (comes_after kind.Opening)) true a in
      let v = among_one Known g.section section.Head parts.0 (w, refl) in
      let s = opening_again g.places b octets g.book l r in
      (λ i. head_record (s.0 i) g.observers g.places ++ framed kind.Opening (s.1 i)) ∙ both v.1 refl
  written_next kind.Rule w a l r =
      let parts = and_parts (among g.section (comes_after kind.Rule)) (room g kind.Rule) a in
      let s = rule_again g.places b octets g.book l r in
      let next = one_more (framed kind.Rule) (to_opening g) (rule_bodies g.book) b (written g g.section) (framed kind.Rule b) in
      (λ i. (head_record (s.0 i) g.observers g.places ++ framed kind.Opening (s.1 i)) ++ flat_map (framed kind.Rule) (s.2 i))
      ∙ among_two Known g.section section.Opening section.Rules parts.0 (w, refl)
      (λ v. next (none_yet (framed kind.Rule) (to_opening g) (rule_bodies g.book) (nil_from_length (rule_bodies g.book) (as_many_rules g.book ∙ v.0.1.0)) ∙ v.1) refl)
      (λ v. next v.1 refl)
  written_next kind.Row w a l r =
      let parts = and_parts (among g.section (comes_after kind.Row)) (room g kind.Row) a in
      let s = row_again g.places b octets g.book l r in
      let next = one_more (framed kind.Row) (to_rules g) (row_bodies g.book) b (written g g.section) (framed kind.Row b) in
      (λ i. ((head_record (s.0 i) g.observers g.places ++ framed kind.Opening (s.1 i)) ++ flat_map (framed kind.Rule) (s.2 i)) ++ flat_map (framed kind.Row) (s.3 i))
      ∙ among_two Known g.section section.Rules section.Rows parts.0 (w, refl)
      (λ v. next (none_yet (framed kind.Row) (to_rules g) (row_bodies g.book) (nil_from_length (row_bodies g.book) (as_many_rows g.book ∙ v.0.1.0)) ∙ v.1) refl)
      (λ v. next v.1 refl)
  written_next kind.Moves w a l r =
      let parts = and_parts (among g.section (comes_after kind.Moves)) (room g kind.Moves) a in
      let next = one_more layer_records (to_rows g) g.layers (record { moves = map mode_of b; rows = [] }) (written g g.section) (framed kind.Moves b) in
      let body = append-nil (framed kind.Moves (map mode_number (map mode_of b))) ∙ ap (framed kind.Moves) (numbers_of_modes b r) in
      among_two Known g.section section.Rows section.ObserverRows parts.0 (w, refl)
      (λ v. next (none_yet layer_records (to_rows g) g.layers v.0.1.0 ∙ v.1) body)
      (λ v. next v.1 body)
  written_next kind.ObserverRow w a l r =
      let parts = and_parts (among g.section (comes_after kind.ObserverRow)) (room g kind.ObserverRow) a in
      let in' = and_parts (ltb (get_or b 0 0) (rows_below (row_count g.book) g.layers)) (leb (get_or b 1 0) 3) r in
      let added : ObserverRow = record { below = get_or b 0 0; mode = mode_of (get_or b 1 0) } in
      let same = among_two Known g.section section.Moves section.ObserverRows parts.0 (w, refl) (λ v. v.1) (λ v. v.1) in
      both refl (row_added (row_count g.book) (get_or b 0 0) g.layers added (ltb-true _ _ in'.0))
      ∙ sym (append_assoc (to_rows g) (flat_map layer_records g.layers) (pair_record added))
      ∙ both same (ap (framed kind.ObserverRow) (pair_body l in'.1))
  written_next kind.Entry w a l r =
      let parts = and_parts (among g.section (comes_after kind.Entry)) (room g kind.Entry) a in
      let some = and_parts (leb 1 (length b)) (leb (length b) (1 + most_matching)) l in
      one_more entry_record (to_layers g) g.entries (record { row = get_or b 0 0; matching = drop 1 b }) (written g g.section) (framed kind.Entry b) (but_the_end parts.0 w) (ap (framed kind.Entry) (first_one b (leb-true 1 (length b) some.0)))
  written_next kind.End w a l r =
      let parts = and_parts (among g.section (comes_after kind.End)) (room g kind.End) a in
      both (but_the_end parts.0 w) (ap (framed kind.End) (sym (nil_from_length b (eqb-true (length b) 0 l))))

module _ (bytes : List ℕ) (octets : Bytes bytes) where
  -- The bytes before a place are the records that stand there, written again.
  written_so_far : {books : Books} {p : ℕ} {g : Progress} → At books bytes p g → take p bytes ≡ written g g.section
  written_so_far begins = refl
  written_so_far (more {p} {g} {k} before here a l r) =
      let b : List ℕ = body_at (drop p bytes) in
      let whole : 4 + length_at (drop p bytes) ≤ length (drop p bytes) = omega (arith, here.whole, length-drop p bytes) in
      take-add p (4 + length_at (drop p bytes)) bytes
      ∙ both (written_so_far before) (whole_framed (drop p bytes) k (All-drop (λ n. n ≤ 255) p bytes octets) whole here.kind_is)
      ∙ sym (written_next g b (body_octets bytes octets p) k (well bytes octets before) a l r)
      ∙ ap (written (advance g k b)) (leads g k b)

  -- A file in form is the encoding of what it holds.
  pub encoded : {books : Books} (g : Progress) → InForm books bytes g → Holds books g.book × InRange (dossier_of g) × (encode (dossier_of g) ≡ bytes)
  encoded g f =
      let w : WellAt g section.End = subst (WellAt g) f.ended (well bytes octets f.read) in
      let same : written g section.End ≡ bytes = ap (written g) (sym f.ended) ∙ sym (written_so_far f.read) ∙ take_all (length bytes) bytes (omega arith) in
      let head : head_record (kind_number g.book) (length g.layers) (place_count g.book) ≡ to_head g = (λ i. head_record (kind_number g.book) (w.2 i) (places_again g.places g.book w.0.0.0.0.0 w.0.0.0.1 i)) in
      (holds f.read, in_range g w, both (both (both (both (both (both head refl) refl) refl) refl) refl) refl ∙ same)
