-- What a draft holds, and what comes of a record that is handed to it.
use Rattle.std.specs.Prelude.{◌≡◌, ℕ, true, false, List, [], ◌∷◌, Ok, Err, IfErr, vec_items, Result}
use Rattle.counts.specs.Data as counts
use Rattle.atoms.specs.Data as atoms
use Rattle.judge.specs.Acceptance.{claims}
use Rattle.records.specs.declared.RecordFault.{RecordFault}
use Rattle.records.specs.declared.RecordFault.TheVariants.{KindNotAllowed, WrongLength, Field, Literal, OutOfMemory}
use Rattle.records.specs.declared.RecordKind.{RecordKind}
use Rattle.records.specs.declared.BookKind.TheVariants as BookKind
use Rattle.records.specs.Fault.{literal_place}
use Rattle.records.specs.Number.{observers_number}
use Rattle.bodies.specs.Lists.{Taken}
use Rattle.drafting.specs.declared.draft.DraftBook.{DraftBook}
use Rattle.drafting.specs.declared.draft.DraftBook.TheVariants.{Counts, Atoms}
use Rattle.drafting.specs.declared.draft.Layer as declared-layer
use Rattle.drafting.specs.declared.draft.Layers.{Layers}
use Rattle.drafting.specs.declared.draft.Layers.TheVariants.{None, One, Two}
use Rattle.drafting.specs.declared.draft.Draft.{Draft}
use Rattle.drafting.specs.Book.{Book, counted, atomic, book_kind}
use Rattle.drafting.specs.Progress.{Layer, Progress, allowed, long, ranged, advance}

abbrev pub draft_book_of : DraftBook → Book
draft_book_of (Counts n) = counted (counts.book_of n)
draft_book_of (Atoms b) = atomic (atoms.book_of b)

abbrev pub layer_of : declared-layer.Layer → Layer
layer_of l = record { moves = vec_items l.moves; rows = vec_items l.rows }

abbrev pub layers_of : Layers → List Layer
layers_of None = []
layers_of (One l) = layer_of l ∷ []
layers_of (Two l m) = layer_of l ∷ layer_of m ∷ []

abbrev pub progress_of : Draft → Progress
progress_of d = record { books = d.books; section = d.section; observers = observers_number d.observers; places = d.places; book = draft_book_of d.book; layers = layers_of d.layers; entries = claims (vec_items d.entries) }

-- A fault that a record gives over a book: only a book of atoms has literals, so no other gives a fault of one.
abbrev pub FaultOf : Book → RecordFault → Type 0
FaultOf b (KindNotAllowed p) = Unit {0}
FaultOf b (WrongLength p) = Unit {0}
FaultOf b (Field f) = Unit {0}
FaultOf b (Literal f) = book_kind b ≡ BookKind.Atoms
FaultOf b OutOfMemory = Unit {0}

module _ (g : Progress) (k : RecordKind) (body : List ℕ) (place : ℕ) where
  -- A record that is allowed, with a body of the right length: it is taken if its numbers are in range.
  abbrev pub Took : Result Draft RecordFault → Type 0
  Took r = Taken progress_of (ranged g k body) (advance g k body) place r × IfErr r (FaultOf g.book)

  -- Any record: the grounds are tried in this order. Memory runs out only over a record that is allowed and has the right length.
  abbrev pub Answered : Result Draft RecordFault → Type 0
  Answered (Ok d) = (allowed g k ≡ true) × (long g k body ≡ true) × (ranged g k body ≡ true) × (progress_of d ≡ advance g k body)
  Answered (Err (KindNotAllowed p)) = (p ≡ place) × (allowed g k ≡ false)
  Answered (Err (WrongLength p)) = (p ≡ place) × (allowed g k ≡ true) × (long g k body ≡ false)
  Answered (Err (Field f)) = (f.place ≡ place) × (allowed g k ≡ true) × (long g k body ≡ true) × (ranged g k body ≡ false)
  Answered (Err (Literal f)) = (literal_place f ≡ place) × (allowed g k ≡ true) × (long g k body ≡ true) × (ranged g k body ≡ false) × (book_kind g.book ≡ BookKind.Atoms)
  Answered (Err OutOfMemory) = (allowed g k ≡ true) × (long g k body ≡ true)
