-- The data of a net as it is handed in.
use Rattle.std.specs.Prelude.{ℕ, List, map, vec_items}
use Rattle.counts.specs.declared.net.Rule.{Rule}
use Rattle.counts.specs.declared.net.Row.{Row}
use Rattle.counts.specs.declared.net.Net.{Net}
use Rattle.counts.specs.Counted.{Transition, CountedBook}

abbrev pub transition_of : Rule → Transition
transition_of r = record { takes = vec_items r.takes; gives = vec_items r.gives }

abbrev pub least_of : Row → List ℕ
least_of r = vec_items r.least

abbrev pub book_of : Net → CountedBook
book_of n = record { opening = vec_items n.opening; rules = map transition_of (vec_items n.rules); rows = map least_of (vec_items n.rows) }
