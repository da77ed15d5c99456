-- What the dossier of a file means, and what a model of it is.
use Rattle.std.specs.Prelude.{◌⊎◌, List}
use Rattle.std.proofs.Common.{inl, inr}
use Rattle.pattern.specs.declared.PatternKind.{Ghosts}
use Rattle.pattern.specs.Meaning.{Meaning}
use Rattle.literals.specs.State.{State}
use Rattle.atoms.specs.Book.{AtomsBook}
use Rattle.predecessor.specs.Kind.{atoms_meaning}
use Rattle.predecessor.specs.System.{system_kind}
use Rattle.counts.specs.Net.{Marking}
use Rattle.counts.specs.Counted.{CountedBook, counted_meaning}
use Rattle.counts.specs.Kind.{counts_kind}
use Rattle.either_kind.specs.declared.Either.{Either}
use Rattle.either_kind.specs.Side.{either_meaning}
use Rattle.either_kind.specs.Kind.{either_of, either_kind}
use Rattle.judge.specs.declared.Model.{Model}
use Rattle.pile.specs.Pile.{Piled, PiledBook, PiledState, pile_book, piled_meaning, piled_kind, piled_book, piled_state}
use Rattle.drafting.specs.Book.{Book, counted, atomic}
use Rattle.drafting.specs.Progress.{Layer}
use Rattle.reader.specs.Dossier.{Dossier}

-- The books, states and kinds of files: of atoms, or counted.
abbrev pub FileBook : Type 0
FileBook = PiledBook AtomsBook ⊎ PiledBook CountedBook

abbrev pub FileState : Type 0
FileState = PiledState State ⊎ PiledState Marking

abbrev pub FileKind : Type 0
FileKind = Either (Piled system_kind) (Piled counts_kind)

-- A book under its observers, and what such a book means.
abbrev pub observed_book : Book → List Layer → FileBook
observed_book (atomic b) layers = inl (pile_book b layers)
observed_book (counted b) layers = inr (pile_book b layers)

abbrev pub file_book : Dossier → FileBook
file_book d = observed_book d.book d.layers

abbrev pub book_meaning : FileBook → Meaning FileState
book_meaning = either_meaning (piled_meaning atoms_meaning) (piled_meaning counted_meaning)

-- What a dossier means.
abbrev pub file_meaning : Dossier → Meaning FileState
file_meaning d = book_meaning (file_book d)

-- The members of the kind that a file holds.
abbrev pub kind_book : FileKind → FileBook
kind_book = either_of piled_book piled_book

abbrev pub kind_state : FileKind → FileState
kind_state = either_of piled_state piled_state

abbrev pub file_kind : Ghosts FileKind
file_kind = either_kind (piled_kind system_kind) (piled_kind counts_kind)

-- A model of the book of an accepted file: its book, its state, and what its book means.
abbrev pub FileModel : Type 0
FileModel = Model FileKind file_kind

abbrev pub model_book : FileModel → FileBook
model_book m = kind_book m.kind

abbrev pub model_state : FileModel → FileState
model_state m = kind_state m.kind

abbrev pub model_meaning : FileModel → Meaning FileState
model_meaning m = book_meaning (model_book m)
