use Rattle.std.proofs.Common.{rules}
use Rattle.atoms.specs.Data.{book_of}
use Rattle.atoms.proofs.Ranged.{rule_ranged}
use Rattle.atoms.proofs.model.Atoms.fire.Goals as goal

pub fire-requires : goal.fire-requires
fire-requires c = search (rules, rule_ranged (book_of c.args.self.now.book) c.args.self.now.in_range)
