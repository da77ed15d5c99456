-- What a file holds so far is in range, section by section.
use Rattle.std.proofs.Common.{◌≡◌, ℕ, suc, ◌+◌, ◌-◌, ◌*◌, ◌≤◌, true, ◌&&◌, eqb, leb, List, [], ◌∷◌, map, length, get_or, take, drop, sym, refl, ap, ◌∙◌, subst, inl, inr, mul_comm, arith}
use Rattle.std.specs.List.{AllByRecursion}
use Rattle.std.proofs.ByRecursion.{All-get_or, All-push, All-take, All-drop}
use Rattle.std.proofs.lemmas.List.{length_push, length-take-le, length-drop, length-map, nil_from_length}
use Rattle.std.proofs.lemmas.Bool.{and_parts, or_cases, eqb-true, leb-true, ltb-true, ne_eqb, cond-true, cond-false}
use Rattle.pattern.specs.Duty.{most_rules, most_rows, RulesAllowed, RowsAllowed}
use Rattle.counts.specs.Net.{most_places}
use Rattle.counts.specs.Counted.{Transition}
use Rattle.counts.specs.Range.{RuleFits, RowFits}
use Rattle.atoms.specs.Range.{most_atoms, AtomIn, RuleIn, RowIn}
use Rattle.bodies.specs.Rule as atoms
use Rattle.bodies.proofs.Ranging.{opening_well, rule_well, row_well}
use Rattle.observer.specs.declared.ObserverRow.{ObserverRow}
use Rattle.observer.specs.Mode.{mode_count}
use Rattle.records.specs.declared.BookKind.TheVariants.{Atoms, Counts}
use Rattle.records.specs.declared.Books.{Books}
use Rattle.records.specs.declared.RecordKind.{RecordKind}
use Rattle.records.specs.declared.RecordKind.TheVariants as kind
use Rattle.records.specs.declared.Section.{Section}
use Rattle.records.specs.declared.Section.TheVariants as section
use Rattle.records.specs.Number.{hold}
use Rattle.records.specs.Bytes.{length_at, body_at}
use Rattle.records.specs.Field.{words, mode_of}
use Rattle.records.specs.Order.{comes_after, leads_to, among}
use Rattle.drafting.specs.Book.{Book, counted, atomic, book_kind, none, begun, places_in, rule_count, row_count, opening_fits, rule_fits, row_fits, opening_in, rule_in, row_in, with_opening, with_rule, with_row}
use Rattle.drafting.specs.Progress.{Progress, room, allowed, long, ranged, advance, most_matching}
use Rattle.reader.specs.Dossier.{dossier_of, Holds, Bytes, Words, TransitionFits, ClaimFits, LayersIn, BookIn, InRange}
use Rattle.reader.specs.Form.{At, begins, more}
use Rattle.reader.specs.Encode.{kind_number}
use Rattle.reader.proofs.Sections.{among_one, among_two, among_three}
use Rattle.reader.proofs.Layering.{Begun, one_more_layer, begun_from_done, one_more_row, as_many_layers}

-- What the book holds so far is in range: its places, its opening, its rules and its rows.
abbrev pub PlacesWell : ℕ → Book → Type 0
PlacesWell n (counted _) = (1 ≤ n) × (n ≤ most_places)
PlacesWell n (atomic _) = n ≡ 0

abbrev pub OpeningWell : ℕ → Book → Type 0
OpeningWell n (counted b) = (length b.opening ≡ n) × Words b.opening
OpeningWell n (atomic b) = (length b.opening ≤ most_atoms) × AllByRecursion AtomIn b.opening

abbrev pub RulesWell : ℕ → Book → Type 0
RulesWell n (counted b) = AllByRecursion (RuleFits n) b.rules × AllByRecursion TransitionFits b.rules
RulesWell n (atomic b) = AllByRecursion RuleIn b.rules

abbrev pub RowsWell : ℕ → Book → Type 0
RowsWell n (counted b) = AllByRecursion (RowFits n) b.rows × AllByRecursion Words b.rows
RowsWell n (atomic b) = AllByRecursion RowIn b.rows

module _ (g : Progress) where
  abbrev pub NoLayers : Type 0
  NoLayers = (g.layers ≡ []) × (g.entries ≡ [])

  abbrev pub NoRows : Type 0
  NoRows = (row_count g.book ≡ 0) × NoLayers

  abbrev pub NoRules : Type 0
  NoRules = (rule_count g.book ≡ 0) × NoRows

  abbrev pub Headed : Type 0
  Headed = PlacesWell g.places g.book × (g.observers ≤ 2)

  abbrev pub Opened : Type 0
  Opened = Headed × OpeningWell g.places g.book

  abbrev pub Ruled : Type 0
  Ruled = Opened × RulesWell g.places g.book × (1 ≤ rule_count g.book) × (rule_count g.book ≤ most_rules)

  abbrev pub Rowed : Type 0
  Rowed = Ruled × RowsWell g.places g.book × (1 ≤ row_count g.book) × (row_count g.book ≤ most_rows)

  abbrev pub Layered : Type 0
  Layered = LayersIn (rule_count g.book) (row_count g.book) g.layers

  -- What is known of what is held, by the section that was reached.
  abbrev pub WellAt : Section → Type 0
  WellAt section.Start = NoRules
  WellAt section.Head = Headed × NoRules
  WellAt section.Opening = Opened × NoRules
  WellAt section.Rules = Ruled × NoRows
  WellAt section.Rows = Rowed × NoLayers
  WellAt section.Moves = Rowed × Begun (rule_count g.book) (row_count g.book) g.layers × (length g.layers ≤ g.observers) × (g.entries ≡ [])
  WellAt section.ObserverRows = Rowed × Layered × (length g.layers ≤ g.observers) × (g.entries ≡ [])
  WellAt section.Entries = Rowed × Layered × (length g.layers ≡ g.observers) × AllByRecursion ClaimFits g.entries
  WellAt section.End = Rowed × Layered × (length g.layers ≡ g.observers) × AllByRecursion ClaimFits g.entries

-- Words of bytes are half as many, and each fits.
pub length_words : (n : ℕ) (b : List ℕ) → length b ≡ 2 * n → length (words b) ≡ n
length_words n [] h = omega arith
length_words n (low ∷ []) h = absurd (let odd : suc 0 ≡ 2 * n = h in omega arith)
length_words n (low ∷ high ∷ b) h = let rest : length b ≡ 2 * (n - 1) = (let long : suc (suc (length b)) ≡ 2 * n = h in omega arith) in omega (arith, length_words (n - 1) b rest)

pub words_fit : (b : List ℕ) → Bytes b → Words (words b)
words_fit [] h = tt
words_fit (low ∷ []) h = tt
words_fit (low ∷ high ∷ b) h = (omega (arith, h.0, h.1.0), words_fit b h.1.1)

all_none : {X : Type 0} (P : X → Type 0) (xs : List X) → xs ≡ [] → AllByRecursion P xs
all_none P xs e = rw e tt

-- A book with no rules, or no rows, has none that is not in range.
no_rules : (n : ℕ) (k : Book) → rule_count k ≡ 0 → RulesWell n k
no_rules n (counted k) e = let none = nil_from_length k.rules e in (all_none (RuleFits n) k.rules none, all_none TransitionFits k.rules none)
no_rules n (atomic k) e = all_none RuleIn k.rules (nil_from_length k.rules e)

no_rows : (n : ℕ) (k : Book) → row_count k ≡ 0 → RowsWell n k
no_rows n (counted k) e = let none = nil_from_length k.rows e in (all_none (RowFits n) k.rows none, all_none Words k.rows none)
no_rows n (atomic k) e = all_none RowIn k.rows (nil_from_length k.rows e)

-- A head in range begins an empty book of its kind.
pub record Begins (books : Books) (kind n : ℕ) : Type 0 where
  pub holds : Holds books (begun kind)
  pub number : kind_number (begun kind) ≡ kind
  places : PlacesWell n (begun kind)
  rules : rule_count (begun kind) ≡ 0
  rows : row_count (begun kind) ≡ 0

pub begins_well : (books : Books) (kind n : ℕ) → places_in books kind n ≡ true → Begins books kind n
begins_well books kind n h = elim (or_cases (hold books Atoms && (eqb kind 1 && eqb n 0)) (hold books Counts && (eqb kind 2 && (leb 1 n && leb n most_places))) h) [
  | inl one ↦
      let may = and_parts (hold books Atoms) (eqb kind 1 && eqb n 0) one in
      let parts = and_parts (eqb kind 1) (eqb n 0) may.1 in
      let is = cond-true {A = Book} (eqb kind 1) (atomic (record { opening = []; rules = []; rows = [] })) none parts.0 in
      record { holds = ap (λ (k : Book). hold books (book_kind k)) is ∙ may.0; number = ap kind_number is ∙ sym (eqb-true kind 1 parts.0); places = subst (PlacesWell n) (sym is) (eqb-true n 0 parts.1); rules = ap rule_count is; rows = ap row_count is }
  | inr two ↦
      let may = and_parts (hold books Counts) (eqb kind 2 && (leb 1 n && leb n most_places)) two in
      let parts = and_parts (eqb kind 2) (leb 1 n && leb n most_places) may.1 in
      let bounds = and_parts (leb 1 n) (leb n most_places) parts.1 in
      let is = cond-false {A = Book} (eqb kind 1) (atomic (record { opening = []; rules = []; rows = [] })) none (ne_eqb kind 1 (λ e. omega (arith, eqb-true kind 2 parts.0, e))) in
      record { holds = ap (λ (k : Book). hold books (book_kind k)) is ∙ may.0; number = ap kind_number is ∙ sym (eqb-true kind 2 parts.0); places = subst (PlacesWell n) (sym is) (leb-true 1 n bounds.0, leb-true n most_places bounds.1); rules = ap rule_count is; rows = ap row_count is }
]

-- What a body adds to a book is in range, and the rest stays.
module _ (n : ℕ) (b : List ℕ) (octets : Bytes b) where
  opening_added : (k : Book) → opening_fits n k b ≡ true → opening_in k b ≡ true → OpeningWell n (with_opening k b)
  opening_added (counted k) l r = (length_words n b (eqb-true (length b) (2 * n) l), words_fit b octets)
  opening_added (atomic k) l r = opening_well b l r

  same_places : (k : Book) → PlacesWell n k → PlacesWell n (with_opening k b)
  same_places (counted k) h = h
  same_places (atomic k) h = h

  same_rules : (k : Book) → rule_count k ≡ 0 → rule_count (with_opening k b) ≡ 0
  same_rules (counted k) h = h
  same_rules (atomic k) h = h

  same_rows : (k : Book) → row_count k ≡ 0 → row_count (with_opening k b) ≡ 0
  same_rows (counted k) h = h
  same_rows (atomic k) h = h

  -- A rule more.
  record RuleAdded (k : Book) : Type 0 where
    places : PlacesWell n k → PlacesWell n (with_rule n k b)
    opening : OpeningWell n k → OpeningWell n (with_rule n k b)
    rules : RulesWell n k → RulesWell n (with_rule n k b)
    more : rule_count (with_rule n k b) ≡ rule_count k + 1
    rows : row_count k ≡ 0 → row_count (with_rule n k b) ≡ 0

  rule_added : (k : Book) → rule_fits n k b ≡ true → rule_in k b ≡ true → RuleAdded k
  rule_added (counted k) l r =
      let long-body : length b ≡ 2 * n = eqb-true (length b) (2 * n) l in
      let added : Transition = record { takes = take n b; gives = drop n b } in
      let taken : length (take n b) ≡ n = length-take-le n b (omega arith) in
      let given : length (drop n b) ≡ n = omega (arith, length-drop n b) in
      record {
        places = λ h. h;
        opening = λ h. h;
        rules = λ w. (All-push (RuleFits n) k.rules added w.0 (taken, given), All-push TransitionFits k.rules added w.1 (All-take (λ m. m ≤ 255) n b octets, All-drop (λ m. m ≤ 255) n b octets));
        more = length_push k.rules added;
        rows = λ h. h;
      }
  rule_added (atomic k) l r = record {
    places = λ h. h;
    opening = λ h. h;
    rules = λ w. All-push RuleIn k.rules (atoms.rule_of b) w (rule_well b l r);
    more = length_push k.rules (atoms.rule_of b);
    rows = λ h. h;
  }

  -- A row more.
  record RowAdded (k : Book) : Type 0 where
    places : PlacesWell n k → PlacesWell n (with_row k b)
    opening : OpeningWell n k → OpeningWell n (with_row k b)
    rules : RulesWell n k → RulesWell n (with_row k b)
    as_many : rule_count (with_row k b) ≡ rule_count k
    rows : RowsWell n k → RowsWell n (with_row k b)
    more : row_count (with_row k b) ≡ row_count k + 1

  row_added : (k : Book) → row_fits n k b ≡ true → row_in k b ≡ true → RowAdded k
  row_added (counted k) l r = record {
    places = λ h. h;
    opening = λ h. h;
    rules = λ h. h;
    as_many = refl;
    rows = λ w. (All-push (RowFits n) k.rows (words b) w.0 (length_words n b (eqb-true (length b) (2 * n) l)), All-push Words k.rows (words b) w.1 (words_fit b octets));
    more = length_push k.rows (words b);
  }
  row_added (atomic k) l r = record {
    places = λ h. h;
    opening = λ h. h;
    rules = λ h. h;
    as_many = refl;
    rows = λ w. All-push RowIn k.rows (atoms.row_of b) w (row_well b l r);
    more = length_push k.rows (atoms.row_of b);
  }

module _ (g : Progress) (b : List ℕ) (octets : Bytes b) where
  layered_none : g.layers ≡ [] → Layered g
  layered_none e = rw e tt

  -- One more record of each kind.
  head_taken : ranged g kind.Head b ≡ true → NoLayers g → WellAt (advance g kind.Head b) section.Head
  head_taken r none =
      let parts = and_parts (leb (get_or b 1 0) 2) (places_in g.books (get_or b 0 0) (get_or b 2 0)) r in
      let new = begins_well g.books (get_or b 0 0) (get_or b 2 0) parts.1 in
      ((new.places, leb-true (get_or b 1 0) 2 parts.0), (new.rules, (new.rows, none)))

  opening_taken : long g kind.Opening b ≡ true → ranged g kind.Opening b ≡ true → Headed g → NoRules g → WellAt (advance g kind.Opening b) section.Opening
  opening_taken l r headed none =
      let n = g.places in
      (((same_places n b octets g.book headed.0, headed.1), opening_added n b octets g.book l r), (same_rules n b octets g.book none.0, (same_rows n b octets g.book none.1.0, none.1.1)))

  rule_taken : long g kind.Rule b ≡ true → ranged g kind.Rule b ≡ true → room g kind.Rule ≡ true → Opened g → RulesWell g.places g.book → NoRows g → WellAt (advance g kind.Rule b) section.Rules
  rule_taken l r room opened rules none =
      let new = rule_added g.places b octets g.book l r in
      let few = ltb-true (rule_count g.book) most_rules room in
      ((((new.places opened.0.0, opened.0.1), new.opening opened.1), new.rules rules, omega (arith, new.more), omega (arith, new.more)), (new.rows none.0, none.1))

  row_taken : long g kind.Row b ≡ true → ranged g kind.Row b ≡ true → room g kind.Row ≡ true → Ruled g → RowsWell g.places g.book → NoLayers g → WellAt (advance g kind.Row b) section.Rows
  row_taken l r room ruled rows none =
      let new = row_added g.places b octets g.book l r in
      let few = ltb-true (row_count g.book) most_rows room in
      let opened = ruled.0 in
      (((((new.places opened.0.0, opened.0.1), new.opening opened.1), new.rules ruled.1, omega (arith, new.as_many, ruled.2), omega (arith, new.as_many, ruled.3)), new.rows rows, omega (arith, new.more), omega (arith, new.more)), none)

  moves_taken : long g kind.Moves b ≡ true → room g kind.Moves ≡ true → Rowed g → Layered g → g.entries ≡ [] → WellAt (advance g kind.Moves b) section.Moves
  moves_taken l r rowed layered none =
      let rules = rule_count g.book in
      let long-body : length b ≡ mode_count * rules = eqb-true (length b) (mode_count * rules) l in
      let few = ltb-true (length g.layers) g.observers r in
      let more = length_push g.layers (record { moves = map mode_of b; rows = [] }) in
      (rowed, one_more_layer rules (row_count g.book) g.layers (map mode_of b) (length-map b mode_of ∙ long-body ∙ mul_comm mode_count rules) layered, omega arith, none)

  pair_taken : room g kind.ObserverRow ≡ true → ranged g kind.ObserverRow b ≡ true → Rowed g → Begun (rule_count g.book) (row_count g.book) g.layers → length g.layers ≤ g.observers → g.entries ≡ [] → WellAt (advance g kind.ObserverRow b) section.ObserverRows
  pair_taken r w rowed begun few none =
      let added : ObserverRow = record { below = get_or b 0 0; mode = mode_of (get_or b 1 0) } in
      let parts = and_parts _ _ w in
      (rowed, one_more_row (rule_count g.book) (row_count g.book) g.layers added begun (ltb-true _ _ r) (ltb-true _ _ parts.0), omega (arith, as_many_layers g.layers added), none)

  entry_taken : long g kind.Entry b ≡ true → Rowed g → Layered g → length g.layers ≡ g.observers → AllByRecursion ClaimFits g.entries → WellAt (advance g kind.Entry b) section.Entries
  entry_taken l rowed layered whole fit =
      let parts = and_parts (leb 1 (length b)) (leb (length b) (1 + most_matching)) l in
      let some = leb-true 1 (length b) parts.0 in
      let most = leb-true (length b) (1 + most_matching) parts.1 in
      (rowed, layered, whole, All-push ClaimFits g.entries (record { row = get_or b 0 0; matching = drop 1 b }) fit (All-get_or (λ n. n ≤ 255) b 0 0 (omega arith) octets, omega (arith, length-drop 1 b), All-drop (λ n. n ≤ 255) 1 b octets))

  -- A record that is allowed, with a body of the right length and numbers in range, leaves what is held well.
  pub well_next : (k : RecordKind) → WellAt g g.section → allowed g k ≡ true → long g k b ≡ true → ranged g k b ≡ true → WellAt (advance g k b) (leads_to k)
  well_next kind.Head w a l r = let parts = and_parts (among g.section (comes_after kind.Head)) true a in head_taken r (among_one (WellAt g) g.section section.Start parts.0 w).1.1
  well_next kind.Opening w a l r =
      let parts = and_parts (among g.section (comes_after kind.Opening)) true a in
      let v = among_one (WellAt g) g.section section.Head parts.0 w in
      opening_taken l r v.0 v.1
  well_next kind.Rule w a l r =
      let parts = and_parts (among g.section (comes_after kind.Rule)) (room g kind.Rule) a in
      among_two (WellAt g) g.section section.Opening section.Rules parts.0 w
      (λ v. rule_taken l r parts.1 v.0 (no_rules g.places g.book v.1.0) v.1.1)
      (λ v. rule_taken l r parts.1 v.0.0 v.0.1 v.1)
  well_next kind.Row w a l r =
      let parts = and_parts (among g.section (comes_after kind.Row)) (room g kind.Row) a in
      among_two (WellAt g) g.section section.Rules section.Rows parts.0 w
      (λ v. row_taken l r parts.1 v.0 (no_rows g.places g.book v.1.0) v.1.1)
      (λ v. row_taken l r parts.1 v.0.0 v.0.1 v.1)
  well_next kind.Moves w a l r =
      let parts = and_parts (among g.section (comes_after kind.Moves)) (room g kind.Moves) a in
      among_two (WellAt g) g.section section.Rows section.ObserverRows parts.0 w
      (λ v. moves_taken l parts.1 v.0 (layered_none v.1.0) v.1.1)
      (λ v. moves_taken l parts.1 v.0 v.1 v.3)
  well_next kind.ObserverRow w a l r =
      let parts = and_parts (among g.section (comes_after kind.ObserverRow)) (room g kind.ObserverRow) a in
      among_two (WellAt g) g.section section.Moves section.ObserverRows parts.0 w
      (λ v. pair_taken parts.1 r v.0 v.1 v.2 v.3)
      (λ v. pair_taken parts.1 r v.0 (begun_from_done (rule_count g.book) (row_count g.book) g.layers v.1) v.2 v.3)
  well_next kind.Entry w a l r =
      let parts = and_parts (among g.section (comes_after kind.Entry)) (room g kind.Entry) a in
      let whole = eqb-true (length g.layers) g.observers parts.1 in
      among_three (WellAt g) g.section section.Rows section.ObserverRows section.Entries parts.0 w
      (λ v. entry_taken l v.0 (layered_none v.1.0) whole (all_none ClaimFits g.entries v.1.1))
      (λ v. entry_taken l v.0 v.1 whole (all_none ClaimFits g.entries v.3))
      (λ v. entry_taken l v.0 v.1 whole v.3)
  well_next kind.End w a l r =
      let parts = and_parts (among g.section (comes_after kind.End)) (room g kind.End) a in
      let whole = eqb-true (length g.layers) g.observers parts.1 in
      among_three (WellAt g) g.section section.Rows section.ObserverRows section.Entries parts.0 w
      (λ v. (v.0, layered_none v.1.0, whole, all_none ClaimFits g.entries v.1.1))
      (λ v. (v.0, v.1, whole, all_none ClaimFits g.entries v.3))
      (λ v. v)

pub leads : (g : Progress) (k : RecordKind) (b : List ℕ) → leads_to k ≡ (advance g k b).section
leads g kind.Head b = refl
leads g kind.Opening b = refl
leads g kind.Rule b = refl
leads g kind.Row b = refl
leads g kind.Moves b = refl
leads g kind.ObserverRow b = refl
leads g kind.Entry b = refl
leads g kind.End b = refl

module _ (bytes : List ℕ) (octets : Bytes bytes) where
  pub body_octets : (p : ℕ) → Bytes (body_at (drop p bytes))
  body_octets p = All-take (λ n. n ≤ 255) (length_at (drop p bytes)) (drop 4 (drop p bytes)) (All-drop (λ n. n ≤ 255) 4 (drop p bytes) (All-drop (λ n. n ≤ 255) p bytes octets))

  -- What the records before a place hold is well.
  pub well : {books : Books} {p : ℕ} {g : Progress} → At books bytes p g → WellAt g g.section
  well begins = (refl, (refl, (refl, refl)))
  well (more {p} {g} {k} before here a l r) =
      let b : List ℕ = body_at (drop p bytes) in
      subst (WellAt (advance g k b)) (leads g k b) (well_next g b (body_octets p) k (well before) a l r)

-- At the end everything is in range.
book_in : (g : Progress) (k : Book) → PlacesWell g.places k → OpeningWell g.places k → RulesWell g.places k → RowsWell g.places k → RulesAllowed (rule_count k) → RowsAllowed (row_count k) → BookIn k
book_in g (counted k) places opening rules rows few-rules few-rows = (
  (
    (omega (arith, opening.0, places.0), omega (arith, opening.0, places.1)),
    few-rules,
    few-rows,
    (λ rule h. rw opening.0 (All-get_or (RuleFits g.places) k.rules rule (record { takes = []; gives = [] }) h rules.0)),
    (λ row h. rw opening.0 (All-get_or (RowFits g.places) k.rows row [] h rows.0)),
  ),
  opening.1,
  rules.1,
  rows.1,
)
book_in g (atomic k) places opening rules rows few-rules few-rows = record { opening_short = opening.0; opening_in = opening.1; rules_in = few-rules; rows_in = few-rows; each_rule_in = rules; each_row_in = rows }

pub in_range : (g : Progress) → WellAt g section.End → InRange (dossier_of g)
in_range g w =
    let rowed = w.0 in
    let ruled = rowed.0 in
    let opened = ruled.0 in
    record {
      book_in = book_in g g.book opened.0.0 opened.1 ruled.1 rowed.1 (ruled.2, ruled.3) (rowed.2, rowed.3);
      few_layers = omega (arith, w.2, opened.0.1);
      layers_in = w.1;
      entries_fit = w.3;
    }

-- Each entry takes a record of its own.
entries_taken : (g : Progress) (k : RecordKind) (b : List ℕ) (p n : ℕ) → 4 * length g.entries ≤ p → 4 * length (advance g k b).entries ≤ p + (4 + n)
entries_taken g kind.Head b p n h = omega arith
entries_taken g kind.Opening b p n h = omega arith
entries_taken g kind.Rule b p n h = omega arith
entries_taken g kind.Row b p n h = omega arith
entries_taken g kind.Moves b p n h = omega arith
entries_taken g kind.ObserverRow b p n h = omega arith
entries_taken g kind.Entry b p n h = omega (arith, length_push g.entries (record { row = get_or b 0 0; matching = drop 1 b }))
entries_taken g kind.End b p n h = omega arith

pub few_entries : {books : Books} (bytes : List ℕ) {p : ℕ} {g : Progress} → At books bytes p g → 4 * length g.entries ≤ p
few_entries bytes begins = omega arith
few_entries bytes (more {p} {g} {k} before _ _ _ _) = entries_taken g k (body_at (drop p bytes)) p (length_at (drop p bytes)) (few_entries bytes before)

-- A place that is reached is in the file.
pub place_within : {books : Books} (bytes : List ℕ) {p : ℕ} {g : Progress} → At books bytes p g → p ≤ length bytes
place_within bytes begins = omega arith
place_within bytes (more _ here _ _ _) = here.whole
