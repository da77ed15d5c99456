-- Literals that are renamed by a list.
use Rattle.std.specs.Prelude.{List}
use Rattle.literals.specs.declared.literal.Literal.{Literal}
use Rattle.literals.specs.declared.renamed.Renamed.{Renamed}
use Rattle.literals.specs.State.{chosen}

-- The literals that these are: each variable as its object, or as its variable, in the list of names.
abbrev pub renamed : Renamed → List Literal
renamed r = chosen r.names.now r.literals.now
