use Rattle.std.proofs.Common.{arith, vec_items, ap, length}
use Rattle.atoms.proofs.Steps.{due_few}
use Rattle.atoms.proofs.book.Row.find_due.Goals as goal

pub push-requires : goal.push-requires
push-requires c =
    let few = due_few c.args.variable c.loop-literal.literal-index (vec_items c.args.self.now.literals) (omega (arith, ap length c.deref-literal-items.ensures.value)) in
    (omega arith, rw c.loop-literal.invariant (omega (arith, few, c.requires.few)))
