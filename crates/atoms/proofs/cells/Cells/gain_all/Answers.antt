use Rattle.std.proofs.Common.{ap, ◌∙◌}
use Rattle.literals.specs.State.{chosen}
use Rattle.atoms.specs.Cells.{state_of, gained}
use Rattle.atoms.proofs.Changing.{literal_in, gain_more, gain_skip, gain_end}
use Rattle.atoms.proofs.cells.Cells.gain_all.Goals as goal
use Rattle.atoms.proofs.cells.Cells.gain_all.Goals.{then-literal, else-literal}

pub loop-literal-preserved : goal.loop-literal-preserved
loop-literal-preserved c =
    let before = state_of c.loop-literal.self in
    let all = gained (chosen c.args.effect.now.names.now c.args.effect.now.literals.now) (state_of c.args.self.now) in
    elim c.if-literal.branch [
      | then-literal w ↦ gain_more c.args.effect.now.names.now c.args.effect.now.literals.now c.loop-literal.literal-index _ c.loop-literal-test.true w.under.result w.under.ensures before (state_of c.if-literal.self) all w.if-literal.true (ap state_of w.self-is ∙ w.gain.ensures) c.loop-literal.invariant
      | else-literal w ↦ gain_skip c.args.effect.now.names.now c.args.effect.now.literals.now c.loop-literal.literal-index _ c.loop-literal-test.true (state_of c.if-literal.self) all w.if-literal.false (rw w.self-is c.loop-literal.invariant)
    ]

pub returns : goal.returns
returns c = gain_end c.args.effect.now.names.now c.args.effect.now.literals.now c.loop-literal.literal-index c.loop-literal-test.false (state_of c.loop-literal.self) (gained (chosen c.args.effect.now.names.now c.args.effect.now.literals.now) (state_of c.args.self.now)) c.loop-literal.invariant

pub gain-requires : goal.gain-requires
gain-requires c = literal_in c.args.effect.now.names.now c.args.effect.now.literals.now c.loop-literal.literal-index _ c.loop-literal-test.true c.under.result c.under.ensures c.requires
