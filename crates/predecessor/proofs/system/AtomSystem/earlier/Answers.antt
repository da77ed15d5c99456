use Rattle.atoms.proofs.Ranged.{in_range}
use Rattle.predecessor.specs.System.{system_book}
use Rattle.predecessor.proofs.Leading.{exact_of}
use Rattle.predecessor.proofs.system.AtomSystem.earlier.Goals as goal

pub returns-clause-value : goal.returns-clause-value
returns-clause-value c =
    let found = c.in_ok-step_back.ensures in
    (found.there, cc (c.earlier.ensures, found.rule_is, found.row_is, found.names_are))

pub returns-clause-exact : goal.returns-clause-exact
returns-clause-exact c = exact_of (system_book c.args.self.now) (in_range (system_book c.args.self.now) c.args.self.now.atoms.in_range) c.args.case
