use Rattle.std.proofs.Common.{sym, subst}
use Rattle.std.specs.List.{AllByRecursion}
use Rattle.atoms.specs.Range.{AtomIn}
use Rattle.atoms.specs.Data.{book_of}
use Rattle.atoms.proofs.Ranged.{opening_ranged}
use Rattle.atoms.proofs.model.Atoms.restart.Goals as goal

pub of-self-requires : goal.of-self-requires
of-self-requires c = subst (AllByRecursion AtomIn) (sym c.deref.ensures.value) (opening_ranged (book_of c.args.self.now.book) c.args.self.now.in_range)
