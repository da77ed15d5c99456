use Rattle.std.proofs.Common.{rules}
use Rattle.records.proofs.Items.{moded}
use Rattle.records.proofs.field.read_modes.Goals as goal

pub returns : goal.returns
returns c = moded _ c.args.body.place c.args.body.bytes.now c.read_each.result c.read_each.ensures (λ n r h. search rules)
