-- The members of an observer as a pattern kind, from those of the kind below.
use Rattle.std.specs.Prelude.{◌≡◌, Ok, Err, vec_items, Result, Vec}
use Rattle.std.specs.declared.alloc.Global.{Global}
use Rattle.pattern.specs.declared.PatternKind.{Ghosts}
use Rattle.pattern.specs.Meaning.{Meaning}
use Rattle.observer.specs.declared.mode.Mode.{Mode}
use Rattle.observer.specs.declared.mode.Mode.TheVariants.{Zero}
use Rattle.observer.specs.declared.mode.ObserverRow.{ObserverRow}
use Rattle.observer.specs.declared.observed.NotObserved.{NotObserved}
use Rattle.observer.specs.declared.observed.Observer.{Observer}
use Rattle.observer.specs.Observed.{ObservedBook, observed, InRange, RefusedBy}

abbrev pub book_of : {K : Type 0} {kind : Ghosts K} → Observer K kind → ObservedBook kind.Book
book_of {K} {kind} o = record { below = kind.book o.below; moves = vec_items o.moves; rows = vec_items o.rows }

abbrev pub state_of : {K : Type 0} {kind : Ghosts K} → Observer K kind → kind.State × Mode
state_of {K} {kind} o = (kind.state o.below, o.mode)

abbrev pub meaning_of : {B S : Type 0} → (B → Meaning S) → ObservedBook B → Meaning (S × Mode)
meaning_of meaning b = observed (meaning b.below) b

-- The members of an observer, from those of the kind below.
abbrev pub observed_kind : {K : Type 0} (kind : Ghosts K) → Ghosts (Observer K kind)
observed_kind kind = record {
  State = kind.State × Mode;
  Book = ObservedBook kind.Book;
  meaning = meaning_of kind.meaning;
  book = book_of;
  state = state_of;
}

-- Putting these moves and rows over a kind gives an observer of it in mode 0, or everything back with the first ground against it.
abbrev pub Made : {K : Type 0} {kind : Ghosts K} → K → Vec Mode Global → Vec ObserverRow Global → Result (Observer K kind) (NotObserved K) → Type 0
Made {K} {kind} below moves rows (Ok o) = InRange (kind.meaning (kind.book o.below)) (book_of o) × (o.below ≡ below) × (o.mode ≡ Zero) × (o.moves ≡ moves) × (o.rows ≡ rows)
Made {K} {kind} below moves rows (Err x) = (x.below ≡ below) × (x.moves ≡ moves) × (x.rows ≡ rows) × RefusedBy (kind.meaning (kind.book below)) (record { below = kind.book below; moves = vec_items moves; rows = vec_items rows }) x.refusal
