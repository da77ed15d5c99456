use Rattle.std.proofs.Common.{ap, ◌∙◌}
use Rattle.literals.specs.State.{chosen}
use Rattle.atoms.specs.Cells.{state_of, lost}
use Rattle.atoms.proofs.Changing.{lose_more, lose_skip, lose_end}
use Rattle.atoms.proofs.cells.Cells.lose_all.Goals as goal
use Rattle.atoms.proofs.cells.Cells.lose_all.Goals.{then-not-literal, else-not-literal}

pub loop-literal-preserved : goal.loop-literal-preserved
loop-literal-preserved c =
    let before = state_of c.loop-literal.self in
    let all = lost (chosen c.args.effect.now.names.now c.args.effect.now.literals.now) (state_of c.args.self.now) in
    elim c.if-not-literal.branch [
      | then-not-literal w ↦ lose_more c.args.effect.now.names.now c.args.effect.now.literals.now c.loop-literal.literal-index _ c.loop-literal-test.true w.under.result w.under.ensures before (state_of c.if-not-literal.self) all w.if-not-literal.true (ap state_of w.self-is ∙ w.lose.ensures) c.loop-literal.invariant
      | else-not-literal w ↦ lose_skip c.args.effect.now.names.now c.args.effect.now.literals.now c.loop-literal.literal-index _ c.loop-literal-test.true (state_of c.if-not-literal.self) all w.if-not-literal.false (rw w.self-is c.loop-literal.invariant)
    ]

pub returns : goal.returns
returns c = lose_end c.args.effect.now.names.now c.args.effect.now.literals.now c.loop-literal.literal-index c.loop-literal-test.false (state_of c.loop-literal.self) (lost (chosen c.args.effect.now.names.now c.args.effect.now.literals.now) (state_of c.args.self.now)) c.loop-literal.invariant
