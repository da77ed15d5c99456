-- The literals of an earlier pattern, as they are written down.
use Rattle.std.specs.Prelude.{List, take}
use Rattle.literals.specs.declared.Literal.{Literal}
use Rattle.predecessor.specs.declared.earlier.Earlier.{Earlier}

abbrev pub literals_of : Earlier → List Literal
literals_of e = take e.count e.literals
