use Rattle.std.proofs.Common.{◌≡◌, true, false, arith}
use Rattle.std.proofs.lemmas.Grind.{common_steps}
use Rattle.std.proofs.lemmas.Bool.Decides.{Decides-at}
use Rattle.predecessor.specs.Proper.{proper}
use Rattle.predecessor.proofs.Ordering.{decides_proper}
use Rattle.predecessor.proofs.Loops.{proper_step}
use Rattle.predecessor.proofs.naming.proper.Goals as goal

pub loop-name-preserved : goal.loop-name-preserved
loop-name-preserved c = let step = proper_step c.loop-name.next c.args.names.now c.loop-name.name-index c.loop-name-test.true in grind (arith, step)

pub returns-then-name-next : goal.returns-then-name-next
returns-then-name-next c =
    let value : false ≡ proper c.args.first c.args.names.now = grind (arith, common_steps, proper_step) in
    record { value = value; order = Decides-at false (proper c.args.first c.args.names.now) value (decides_proper c.args.first c.args.names.now) }

pub returns : goal.returns
returns c =
    let value : true ≡ proper c.args.first c.args.names.now = grind (arith, common_steps) in
    record { value = value; order = Decides-at true (proper c.args.first c.args.names.now) value (decides_proper c.args.first c.args.names.now) }
