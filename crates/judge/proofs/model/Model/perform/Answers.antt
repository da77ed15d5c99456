use Rattle.std.proofs.Common.{refl}
use Rattle.pattern.specs.Call.{fires, looks, restarts}
use Rattle.judge.proofs.model.Model.perform.Goals as goal

pub returns-in-Fire : goal.returns-in-Fire
returns-in-Fire g c = record {
  same = c.fire.ensures.same;
  called = rw c.in-Fire.is (fires (rw c.deref.ensures.value at c.fire.ensures.fired));
}

pub returns-in-Look : goal.returns-in-Look
returns-in-Look g c = record {
  same = refl;
  called = rw c.in-Look.is (looks c.look.ensures.looked);
}

pub returns-in-Restart : goal.returns-in-Restart
returns-in-Restart g c = record {
  same = c.restart.ensures.same;
  called = rw (c.in-Restart.is, c.restart.ensures.back) restarts;
}
