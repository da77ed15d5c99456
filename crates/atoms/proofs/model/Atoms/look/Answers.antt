use Rattle.std.proofs.Common.{rules}
use Rattle.atoms.specs.Data.{book_of}
use Rattle.atoms.proofs.Ranged.{row_ranged}
use Rattle.atoms.proofs.model.Atoms.look.Goals as goal

pub stands_in-requires : goal.stands_in-requires
stands_in-requires c = search (rules, row_ranged (book_of c.args.self.now.book) c.args.self.now.in_range)
