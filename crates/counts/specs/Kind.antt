-- What a `Counts` holds: its book, its state, and what comes of making one.
use Rattle.std.specs.Prelude.{◌≡◌, Ok, Err, vec_items, Result}
use Rattle.pattern.specs.declared.PatternKind.{Ghosts}
use Rattle.counts.specs.declared.net.NetRefusal.{NetRefusal}
use Rattle.counts.specs.declared.counted.Counts.{Counts}
use Rattle.counts.specs.Net.{Marking, tally}
use Rattle.counts.specs.Counted.{CountedBook, counted_meaning}
use Rattle.counts.specs.Data.{book_of}
use Rattle.counts.specs.Range.{InRange, RefusedBy}

abbrev pub counts_book : Counts → CountedBook
counts_book c = book_of c.net

abbrev pub counts_state : Counts → Marking
counts_state c = tally (vec_items c.marking)

-- Its members as a pattern kind.
abbrev pub counts_kind : Ghosts Counts
counts_kind = record {
  State = Marking;
  Book = CountedBook;
  meaning = counted_meaning;
  book = counts_book;
  state = counts_state;
}

-- Making one of this data gives a kind with this book in its opening state, or the first ground against it.
abbrev pub Made : CountedBook → Result Counts NetRefusal → Type 0
Made b (Ok c) = InRange b × (counts_book c ≡ b) × (counts_state c ≡ tally b.opening)
Made b (Err e) = RefusedBy b e
