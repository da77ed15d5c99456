-- The data of a book as it is handed in.
use Rattle.std.specs.Prelude.{map, vec_items}
use Rattle.atoms.specs.declared.book.Book.{Book}
use Rattle.atoms.specs.declared.book.Row.{Row}
use Rattle.atoms.specs.declared.book.Rule.{Rule}
use Rattle.atoms.specs.Pattern.{Pattern}
use Rattle.atoms.specs.Fire.{Transition}
use Rattle.atoms.specs.Book.{AtomsBook}

abbrev pub transition_of : Rule → Transition
transition_of r = record { variables = r.variables; condition = vec_items r.condition; effect = vec_items r.effect }

abbrev pub pattern_of : Row → Pattern
pattern_of r = record { variables = r.variables; literals = vec_items r.literals }

abbrev pub book_of : Book → AtomsBook
book_of b = record { opening = vec_items b.opening; rules = map transition_of (vec_items b.rules); rows = map pattern_of (vec_items b.rows) }
