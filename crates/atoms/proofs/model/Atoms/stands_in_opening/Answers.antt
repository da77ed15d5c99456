use Rattle.std.proofs.Common.{rules}
use Rattle.atoms.specs.Data.{book_of}
use Rattle.atoms.proofs.Ranged.{opening_ranged, row_ranged}
use Rattle.atoms.proofs.model.Atoms.stands_in_opening.Goals as goal

pub is_some_and-requires : goal.is_some_and-requires
is_some_and-requires c = search (rules, row_ranged (book_of c.args.self.now.book) c.args.self.now.in_range, opening_ranged (book_of c.args.self.now.book) c.args.self.now.in_range)
