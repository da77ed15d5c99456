use Rattle.std.proofs.Common.{map, ap, ◌∙◌}
use Rattle.std.proofs.ByRecursion.{All-get_or}
use Rattle.literals.specs.declared.Fact.{Fact}
use Rattle.atoms.specs.Book.{nothing, affirmed}
use Rattle.atoms.specs.Range.{AtomIn}
use Rattle.atoms.specs.Cells.{state_of, gains, gained}
use Rattle.atoms.proofs.Opening.{no_atom, atom_in, add_more, add_end}
use Rattle.atoms.proofs.cells.Cells.of.Goals as goal

pub loop-atom-init : goal.loop-atom-init
loop-atom-init c = ap (gained (map affirmed c.args.atoms.now)) c.new-cells.ensures

pub gain-requires : goal.gain-requires
gain-requires c = atom_in _ c.from.result c.from.ensures (All-get_or AtomIn c.args.atoms.now c.loop-atom.atom-index no_atom c.loop-atom-test.true c.requires)

pub loop-atom-preserved : goal.loop-atom-preserved
loop-atom-preserved c = add_more c.args.atoms.now c.loop-atom.atom-index no_atom c.loop-atom-test.true (state_of c.loop-atom.cells) (state_of c.gain.new.self) (gained (map affirmed c.args.atoms.now) nothing) (c.gain.ensures ∙ ap (λ (f : Fact). gains f (state_of c.loop-atom.cells)) c.from.ensures) c.loop-atom.invariant

pub returns : goal.returns
returns c = add_end c.args.atoms.now c.loop-atom.atom-index c.loop-atom-test.false (state_of c.loop-atom.cells) c.loop-atom.invariant
