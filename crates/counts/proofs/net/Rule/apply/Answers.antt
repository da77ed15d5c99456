use Rattle.std.proofs.Common.{◌≡◌, ◌^◌, ◌<◌, ◌≢◌, length, arith, get_or-set_other, get_or-set_same, below_more}
use Rattle.counts.specs.Net.{tally}
use Rattle.counts.proofs.net.Rule.apply.Goals as goal

pub overflow_cast-count : goal.overflow_cast-count
overflow_cast-count c =
    let place = c.loop-place.place in
    let same : tally c.loop-place.marking place ≡ tally c.args.marking.now place = c.loop-place.invariant.1 place (omega arith) in
    let h : c.leaves.result < 2 ^ 16 = omega (arith, c.requires place) in
    omega arith

pub loop-place-preserved : goal.loop-place-preserved
loop-place-preserved c =
    let place = c.loop-place.place in
    let same : tally c.loop-place.marking place ≡ tally c.args.marking.now place = c.loop-place.invariant.1 place (omega arith) in
    let lt : place < length c.loop-place.marking = omega arith in (
      below_more _ _
          (λ k h. let ne : k ≢ place = omega arith in rw get_or-set_other (c.loop-place.invariant.0 k h))
          (rw get_or-set_same (omega (arith, c.leaves.ensures))),
      λ k h. let ne : k ≢ place = omega arith in rw get_or-set_other (c.loop-place.invariant.1 k (omega arith)),
    )

pub returns : goal.returns
returns c = λ place h. c.loop-place.invariant.0 place (omega arith)
