use Rattle.std.proofs.Common.{vec_items, inr}
use Rattle.std.proofs.lemmas.Result.{err_from_is_err_and}
use Rattle.records.proofs.Items.{one_more, one_fails}
use Rattle.records.proofs.each.read_each.Goals as goal

pub returns-in_err-read : goal.returns-in_err-read
returns-in_err-read g c =
    let p = err_from_is_err_and c.from_residual.result c.from_residual.ensures.1 in
    rw (p.1, p.2) (record { values = tt; fault = inr (one_fails (goal.F-post g c.args.read) c.args.items.now c.loop-item.item-index c.item-item.result c.in_err-read.field-0.0 (vec_items c.loop-item.values) c.loop-item-test.true c.item-item.is c.loop-item.invariant c.in_err-read.ensures) })

pub loop-item-preserved : goal.loop-item-preserved
loop-item-preserved g c = one_more (goal.F-post g c.args.read) c.args.items.now c.loop-item.item-index c.item-item.result c.loop-item-test.true c.item-item.is (vec_items c.loop-item.values) (vec_items c.push.new.self) c.in_ok-read.field-0 c.in_ok-push.ensures.items c.in_ok-read.ensures c.loop-item.invariant
