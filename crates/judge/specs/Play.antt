-- A model's answer to being made, its calls as plain data, and the log of a list of them.
use Rattle.std.specs.Prelude.{List, [], ◌∷◌, Ok, Err, vec_items, Result}
use Rattle.pattern.specs.declared.Answer.{Answer}
use Rattle.pattern.specs.declared.PatternKind.{Ghosts}
use Rattle.pattern.specs.Call as plain
use Rattle.pattern.specs.Call.{Exchange}
use Rattle.judge.specs.declared.table.TableRefusal.{TableRefusal}
use Rattle.judge.specs.declared.calls.Call.{Call}
use Rattle.judge.specs.declared.calls.Call.TheVariants.{Fire, Look, Restart}
use Rattle.judge.specs.declared.model.Model.{Model}
use Rattle.judge.specs.declared.calls.Rejected.{Rejected}

-- The judge's answer where a model was made, or was not.
abbrev pub answer_of : {K : Type 0} {kind : Ghosts K} → Result (Model K kind) (Rejected K) → Result (Unit {0}) TableRefusal
answer_of (Ok _) = Ok tt
answer_of (Err r) = Err r.refusal

-- A call as plain data.
abbrev pub call_of : Call → plain.Call
call_of (Fire rule choice) = plain.fire (record { rule = rule; choice = vec_items choice })
call_of (Look row) = plain.look row
call_of Restart = plain.restart

-- Each call with its answer, in order.
abbrev pub log_of : List Call → List Answer → List Exchange
log_of [] _ = []
log_of (c ∷ cs) [] = []
log_of (c ∷ cs) (a ∷ more) = record { call = call_of c; answer = a } ∷ log_of cs more
