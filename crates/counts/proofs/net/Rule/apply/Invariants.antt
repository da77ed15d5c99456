use Rattle.std.proofs.Common.{◌≡◌, ℕ, ◌<◌, ◌≤◌, vec_items}
use Rattle.counts.specs.Net.{tally, after}
use Rattle.counts.proofs.net.Rule.apply.Given as goal

abbrev pub invariant-loop-place : goal.invariant-loop-place
invariant-loop-place l =
    ((k : ℕ) → k < l.place → tally l.marking k ≡ after (tally (vec_items l.self.takes)) (tally (vec_items l.self.gives)) (tally l.initial.marking) k)
    × ((k : ℕ) → l.place ≤ k → tally l.marking k ≡ tally l.initial.marking k)
