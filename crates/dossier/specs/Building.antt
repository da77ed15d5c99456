-- When the observers of a file are observers of its book.
use Rattle.std.specs.Prelude.{List}
use Rattle.counts.specs.Counted.{counted_meaning}
use Rattle.predecessor.specs.Kind.{atoms_meaning}
use Rattle.drafting.specs.Book.{Book, counted, atomic}
use Rattle.drafting.specs.Progress.{Layer}
use Rattle.pile.specs.Pile.{PileIn}

abbrev pub ObserversIn : Book → List Layer → Type 0
ObserversIn (counted b) layers = PileIn (counted_meaning b) b layers
ObserversIn (atomic b) layers = PileIn (atoms_meaning b) b layers
