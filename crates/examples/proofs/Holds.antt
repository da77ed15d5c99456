-- Each worked example, computed.
use Rattle.std.proofs.Common.{◌≡◌, ℕ, zero, suc, refl, arith}
use Rattle.judge.specs.Acceptance.{Clear, none, next}
use Rattle.counts.specs.Net.{◌⊑◌, after, Held}
use Rattle.counts.specs.Counted.{takes_of, gives_of, fires, counted_meaning}
use Rattle.examples.specs.Worked.{one_place, full, pump, Worked}

full_held : Held full
full_held zero = omega arith
full_held (suc place) = omega arith

-- A full place has what rules 0 and 2 take.
full_gives : takes_of one_place 0 ⊑ full
full_gives zero = omega arith
full_gives (suc place) = omega arith

full_takes : takes_of one_place 2 ⊑ full
full_takes zero = omega arith
full_takes (suc place) = omega arith

-- A firing that gives what it takes leaves the place as it was.
full_again : (place : ℕ) → full place ≡ after (takes_of one_place 2) (gives_of one_place 2) full place
full_again zero = refl
full_again (suc place) = refl

pump_clear : Clear (counted_meaning pump) (counted_meaning pump).opening
pump_clear zero h stands = omega (arith, stands.1 1)
pump_clear (suc zero) h stands = omega (arith, stands.1 1)
pump_clear (suc (suc zero)) h stands = omega (arith, stands.1 0)
pump_clear (suc (suc (suc row))) h stands = omega arith

pub worked : Worked
worked = record {
  gives_one = refl;
  gives_one_open = refl;
  takes_two = refl;
  takes_two_own = refl;
  full_refuses = (omega arith, refl, (after (takes_of one_place 0) (gives_of one_place 0) full, fires (omega arith) refl full_gives refl, λ held. omega (arith, held 0)), refl);
  full_fires = (omega arith, refl, fires (omega arith) refl full_takes (λ i place. full_again place i), full_held);
  pump_open = refl;
  pump_accepted = record { clear = pump_clear; covered = next (omega arith, refl) (next (omega arith, refl) (next (omega arith, refl) (next (omega arith, refl) none))) };
  observed_idle = refl;
  observed_open = refl;
  observed_own = refl;
  observed_walk = refl;
  twice_cases = refl;
  twice_walk = refl;
}
