-- Which books a file may hold stays as it was, and the file holds such a book.
use Rattle.std.proofs.Common.{◌≡◌, ℕ, true, List, get_or, drop, leb, refl, subst}
use Rattle.std.proofs.lemmas.Bool.{and_parts}
use Rattle.records.specs.declared.Books.{Books}
use Rattle.records.specs.declared.Books.TheVariants.{Counted, Any}
use Rattle.records.specs.declared.DossierFault.TheVariants.{Record}
use Rattle.records.specs.declared.RecordFault.{RecordFault}
use Rattle.records.specs.declared.RecordFault.TheVariants.{KindNotAllowed, WrongLength, Field, Literal, OutOfMemory}
use Rattle.records.specs.declared.RecordKind.{RecordKind}
use Rattle.records.specs.declared.RecordKind.TheVariants as kind
use Rattle.records.specs.Bytes.{body_at}
use Rattle.records.specs.Number.{hold}
use Rattle.drafting.specs.Book.{Book, counted, atomic, none, places_in, with_opening, with_rule, with_row}
use Rattle.drafting.specs.Drafted.{FaultOf}
use Rattle.drafting.specs.Progress.{Progress, ranged, advance}
use Rattle.reader.specs.Dossier.{Holds}
use Rattle.reader.specs.Form.{At, begins, more}
use Rattle.reader.specs.Read.{FaultIn}
use Rattle.reader.proofs.Well.{begins_well}

none_held : (books : Books) → Holds books none
none_held Counted = refl
none_held Any = refl

-- A body adds to a book, and its kind stays.
module _ (books : Books) (n : ℕ) (b : List ℕ) where
  with_opening_held : (k : Book) → Holds books k → Holds books (with_opening k b)
  with_opening_held (counted k) h = h
  with_opening_held (atomic k) h = h

  with_rule_held : (k : Book) → Holds books k → Holds books (with_rule n k b)
  with_rule_held (counted k) h = h
  with_rule_held (atomic k) h = h

  with_row_held : (k : Book) → Holds books k → Holds books (with_row k b)
  with_row_held (counted k) h = h
  with_row_held (atomic k) h = h

module _ (books : Books) where
  -- The file may hold such books, and holds one.
  abbrev Held : Progress → Type 0
  Held g = (g.books ≡ books) × Holds g.books g.book

  held_next : (g : Progress) (k : RecordKind) (b : List ℕ) → ranged g k b ≡ true → Held g → Held (advance g k b)
  held_next g kind.Head b r h =
      let parts = and_parts (leb (get_or b 1 0) 2) (places_in g.books (get_or b 0 0) (get_or b 2 0)) r in
      (h.0, (begins_well g.books (get_or b 0 0) (get_or b 2 0) parts.1).holds)
  held_next g kind.Opening b r h = (h.0, with_opening_held g.books g.places b g.book h.1)
  held_next g kind.Rule b r h = (h.0, with_rule_held g.books g.places b g.book h.1)
  held_next g kind.Row b r h = (h.0, with_row_held g.books g.places b g.book h.1)
  held_next g kind.Moves b r h = h
  held_next g kind.ObserverRow b r h = h
  held_next g kind.Entry b r h = h
  held_next g kind.End b r h = h

held_at : {books : Books} {bytes : List ℕ} {p : ℕ} {g : Progress} → At books bytes p g → Held books g
held_at {books = books} begins = (refl, none_held books)
held_at {books = books} {bytes = bytes} (more {p} {g} {k} before here a l r) = held_next books g k (body_at (drop p bytes)) r (held_at before)

pub holds : {books : Books} {bytes : List ℕ} {p : ℕ} {g : Progress} → At books bytes p g → Holds books g.book
holds {g = g} at = let h = held_at at in subst (λ (b : Books). Holds b g.book) h.0 h.1

-- A fault that the next record gives is one that such a file can have.
pub fault_in : {books : Books} {bytes : List ℕ} {p : ℕ} {g : Progress} → At books bytes p g → (e : RecordFault) → FaultOf g.book e → FaultIn books (Record e)
fault_in at (KindNotAllowed q) of = tt
fault_in at (WrongLength q) of = tt
fault_in at (Field f) of = tt
fault_in {books = books} at (Literal f) of = subst (λ k. hold books k ≡ true) of (holds at)
fault_in at OutOfMemory of = tt
