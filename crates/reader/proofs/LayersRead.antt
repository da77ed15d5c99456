-- A file is read over the records of observers, whatever the book below them is.
use Rattle.std.proofs.Common.{◌≡◌, ℕ, ◌*◌, ◌<◌, true, ltb, leb, List, [], ◌∷◌, ◌++◌, map, length, sym, refl, ap, ◌∙◌, subst, mul_comm, arith}
use Rattle.std.specs.List.{flat_map}
use Rattle.std.proofs.lemmas.List.{append_assoc, length-map, length_push}
use Rattle.std.proofs.lemmas.Bool.{and_from, lt-ltb, le-leb, eq-eqb}
use Rattle.pattern.specs.Duty.{most_rows}
use Rattle.drafting.specs.Book.{Book, rule_count, row_count}
use Rattle.observer.specs.declared.Mode.{Mode}
use Rattle.observer.specs.declared.ObserverRow.{ObserverRow}
use Rattle.observer.specs.Mode.{mode_number, mode_count}
use Rattle.records.specs.declared.Books.{Books}
use Rattle.records.specs.declared.RecordKind.TheVariants as kind
use Rattle.records.specs.declared.Section.{Section}
use Rattle.records.specs.declared.Section.TheVariants as section
use Rattle.records.specs.Field.{mode_of}
use Rattle.records.specs.Order.{comes_after, among}
use Rattle.drafting.specs.Progress.{Layer, Progress, top_rows, rows_below, with_observer_row}
use Rattle.reader.specs.Dossier.{LayerIn, LayersIn}
use Rattle.reader.specs.Encode.{framed, pair_record, layer_records}
use Rattle.reader.proofs.Bodies.{mode_of_number, mode_small, modes_of_numbers, modes_small}
use Rattle.reader.proofs.ReadingOn.{Takes, Begins, begins_less, Held, one_record, all_items, by_some, either_section, some_came, fewer, all_this}

-- The topmost observer over others.
abbrev of_parts : List Mode → List ObserverRow → Layer
of_parts moves rows = record { moves = moves; rows = rows }

top_of : (lower : List Layer) (l : Layer) → top_rows (lower ++ l ∷ []) ≡ length l.rows
top_of [] l = refl
top_of (k ∷ []) l = refl
top_of (k ∷ j ∷ lower) l = top_of (j ∷ lower) l

top_with_row : (lower : List Layer) (l : Layer) (r : ObserverRow) → with_observer_row (lower ++ l ∷ []) r ≡ lower ++ of_parts l.moves (l.rows ++ r ∷ []) ∷ []
top_with_row [] l r = refl
top_with_row (k ∷ []) l r = refl
top_with_row (k ∷ j ∷ lower) l r = ap (λ (ls : List Layer). k ∷ ls) (top_with_row (j ∷ lower) l r)

-- An observer is in range over those below it; so far it may have fewer rows.
layer_over : (rules rows : ℕ) (lower : List Layer) (l m : Layer) (upper : List Layer) → LayersIn rules rows (lower ++ l ∷ upper) → LayerIn rules (rows_below rows (lower ++ m ∷ [])) l
layer_over rules rows [] l m upper h = h.0
layer_over rules rows (k ∷ []) l m upper h = h.1.0
layer_over rules rows (k ∷ j ∷ lower) l m upper h = layer_over rules (length k.rows) (j ∷ lower) l m upper h.1

module _ (books : Books) (bytes : List ℕ) (places : ℕ) (book : Book) (layers : List Layer) (in' : LayersIn (rule_count book) (row_count book) layers) where
  abbrev over_book : Section → List Layer → Progress
  over_book s ls = record { books = books; section = s; observers = length layers; places = places; book = book; layers = ls; entries = [] }

  -- After some observers.
  abbrev pub layered : List Layer → Progress
  layered done = over_book (by_some section.Rows section.ObserverRows done) done

  module _ (lower : List Layer) (l : Layer) (upper : List Layer) (e : layers ≡ lower ++ l ∷ upper) where
    -- After the moves and some rows of an observer.
    abbrev paired : List ObserverRow → Progress
    paired done = over_book (by_some section.Moves section.ObserverRows done) (lower ++ of_parts l.moves done ∷ [])

    over : (rows : List ObserverRow) → LayerIn (rule_count book) (rows_below (row_count book) (lower ++ of_parts l.moves rows ∷ [])) l
    over rows = layer_over (rule_count book) (row_count book) lower l (of_parts l.moves rows) upper (subst (LayersIn (rule_count book) (row_count book)) e in')

    moves_next : Takes (layered lower) kind.Moves (map mode_number l.moves) (paired [])
    moves_next = (
      and_from (among (by_some section.Rows section.ObserverRows lower) (comes_after kind.Moves)) (ltb (length lower) (length layers)) (either_section (λ s. among s (comes_after kind.Moves) ≡ true) section.Rows section.ObserverRows lower refl refl) (lt-ltb (length lower) (length layers) (fewer layers lower l upper e)),
      eq-eqb (length (map mode_number l.moves)) (mode_count * rule_count book) (length-map l.moves mode_number ∙ (over []).0 ∙ mul_comm (rule_count book) mode_count),
      modes_small l.moves,
      ap (λ (ms : List Mode). over_book section.Moves (lower ++ of_parts ms [] ∷ [])) (modes_of_numbers l.moves),
    )

    pair_next : (done : List ObserverRow) (r : ObserverRow) (todo : List ObserverRow) → l.rows ≡ done ++ r ∷ todo → Takes (paired done) kind.ObserverRow (r.below ∷ mode_number r.mode ∷ []) (paired (done ++ r ∷ []))
    pair_next done r todo f =
        let ls : List Layer = lower ++ of_parts l.moves done ∷ [] in
        let room : top_rows ls < most_rows = omega (arith, top_of lower (of_parts l.moves done), fewer l.rows done r todo f, (over done).1.1) in
        let below : r.below < rows_below (row_count book) ls = all_this l.rows done r todo f (λ x. x.below < rows_below (row_count book) ls) (over done).2 in
        let read : ◌≡◌ {A = ObserverRow} (record { below = r.below; mode = mode_of (mode_number r.mode) }) r = (λ i. record { below = r.below; mode = mode_of_number r.mode i }) in
        let at : section.ObserverRows ≡ by_some section.Moves section.ObserverRows (done ++ r ∷ []) = sym (some_came section.Moves section.ObserverRows (done ++ r ∷ []) (omega (arith, length_push done r))) in
        let added : with_observer_row ls (record { below = r.below; mode = mode_of (mode_number r.mode) }) ≡ lower ++ of_parts l.moves (done ++ r ∷ []) ∷ [] = ap (with_observer_row ls) read ∙ top_with_row lower (of_parts l.moves done) r in (
          and_from (among (by_some section.Moves section.ObserverRows done) (comes_after kind.ObserverRow)) (ltb (top_rows ls) most_rows) (either_section (λ s. among s (comes_after kind.ObserverRow) ≡ true) section.Moves section.ObserverRows done refl refl) (lt-ltb (top_rows ls) most_rows room),
          refl,
          and_from (ltb r.below (rows_below (row_count book) ls)) (leb (mode_number r.mode) 3) (lt-ltb _ _ below) (le-leb _ _ (mode_small r.mode)),
          (λ i. over_book (at i) (added i)),
        )

    -- With all its rows the observer is one of those that have come.
    whole_layer : paired l.rows ≡ layered (lower ++ l ∷ [])
    whole_layer =
        let at : by_some section.Moves section.ObserverRows l.rows ≡ section.ObserverRows = some_came section.Moves section.ObserverRows l.rows (over []).1.0 in
        let at' : by_some section.Rows section.ObserverRows (lower ++ l ∷ []) ≡ section.ObserverRows = some_came section.Rows section.ObserverRows (lower ++ l ∷ []) (omega (arith, length_push lower l)) in
        ap (λ (s : Section). over_book s (lower ++ l ∷ [])) (at ∙ sym at')

    one_layer : (front : List ℕ) → Begins books bytes (front ++ layer_records l) → Held books bytes front (layered lower) → Held books bytes (front ++ layer_records l) (layered (lower ++ l ∷ []))
    one_layer front b held =
        let moves : List ℕ = framed kind.Moves (map mode_number l.moves) in
        let parts : (front ++ moves) ++ flat_map pair_record l.rows ≡ front ++ layer_records l = append_assoc front moves (flat_map pair_record l.rows) in
        let begins : Begins books bytes ((front ++ moves) ++ flat_map pair_record l.rows) = subst (Begins books bytes) (sym parts) b in
        let moved : Held books bytes (front ++ moves) (paired []) = one_record books bytes front (layered lower) (paired []) kind.Moves (map mode_number l.moves) moves_next (begins_less books bytes (front ++ moves) (flat_map pair_record l.rows) begins) held in
        subst (λ (w : List ℕ). Held books bytes w (layered (lower ++ l ∷ []))) parts
        (subst (Held books bytes ((front ++ moves) ++ flat_map pair_record l.rows)) whole_layer
        (all_items books bytes pair_record paired l.rows (λ before done r todo f b h. one_record books bytes before (paired done) (paired (done ++ r ∷ [])) kind.ObserverRow (r.below ∷ mode_number r.mode ∷ []) (pair_next done r todo f) b h) (front ++ moves) begins moved))

  -- Over all observers.
  pub all_layers : (front : List ℕ) → Begins books bytes (front ++ flat_map layer_records layers) → Held books bytes front (layered []) → Held books bytes (front ++ flat_map layer_records layers) (layered layers)
  all_layers front b held = all_items books bytes layer_records layered layers (λ before done l todo e b h. one_layer done l todo e before b h) front b held
