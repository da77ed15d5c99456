use Rattle.bodies.specs.Literal.{literal_in, literal_of}
use Rattle.bodies.proofs.Fours.{all_taken}
use Rattle.bodies.proofs.list.read_literals.Goals as goal

pub returns : goal.returns
returns c = all_taken _ (literal_in c.args.role c.args.variables) literal_of c.args.body.place c.args.body.bytes.now c.as_chunks.result.0.now c.read_each.result c.as_chunks.ensures.front c.read_each.ensures (λ n r h. h)
