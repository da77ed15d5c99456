use Rattle.std.proofs.Common.{◌≡◌, ℕ, not, ◌&&◌, ◌==◌, nat_lt}
use Rattle.atoms.specs.Objects.{has_pair}
use Rattle.atoms.proofs.objects.Pairs.remove_into.Given as goal

abbrev pub invariant-loop-objects : goal.invariant-loop-objects
invariant-loop-objects l = (d e : ℕ) → has_pair (record { from = l.objects-items }) d e ≡ (has_pair (record { from = l.initial.objects-items }) d e && not (nat_lt d l.objects-index && e == l.second))
