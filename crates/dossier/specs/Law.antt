-- The law of files, in one piece: what a verdict on bytes promises.
use Rattle.std.specs.Prelude.{◌≡◌, ℕ, List}
use Rattle.pattern.specs.Run.{Firing, Leads}
use Rattle.pattern.specs.Call.{Exchange, Calls}
use Rattle.judge.specs.declared.TableRefusal.{TableRefusal}
use Rattle.judge.specs.Acceptance.{Accepted, FirstFailure, Within}
use Rattle.judge.specs.Safety.{SafeAfter}
use Rattle.records.specs.declared.Books.TheVariants.{Any}
use Rattle.records.specs.declared.FormFault.{FormFault}
use Rattle.drafting.specs.Progress.{Progress}
use Rattle.reader.specs.Dossier.{Dossier, dossier_of}
use Rattle.reader.specs.Form.{InForm, Faulty}
use Rattle.line.specs.declared.Verdict.{Verdict}
use Rattle.line.specs.declared.Verdict.TheVariants.{Accept, Form, Refuse}
use Rattle.dossier.specs.Meaning.{FileState, file_meaning}

-- The bytes are a file in form that holds this dossier.
abbrev pub HoldsDossier : List ℕ → Dossier → Type 0
HoldsDossier bytes d = (g : Progress) × InForm Any bytes g × (dossier_of g ≡ d)

pub record FileLaw (bytes : List ℕ) (v : Verdict) : Type 0 where
  -- Accepted exactly where the file is in form and its table is accepted.
  pub accepts : v ≡ Accept → (d : Dossier) × HoldsDossier bytes d × Accepted (file_meaning d) d.entries
  pub accepted : (d : Dossier) → HoldsDossier bytes d → Accepted (file_meaning d) d.entries → v ≡ Accept
  -- Not in form exactly where a record is the first at fault, with that ground and place.
  pub not_in_form : (f : FormFault) → v ≡ Form f → Faulty Any bytes f
  pub faulty : (f : FormFault) → Faulty Any bytes f → v ≡ Form f
  -- Refused exactly where the file is in form and this is the first failure of its table.
  pub refuses : (f : TableRefusal) → v ≡ Refuse f → (d : Dossier) × HoldsDossier bytes d × FirstFailure (file_meaning d) d.entries f
  pub refused : (d : Dossier) (f : TableRefusal) → HoldsDossier bytes d → FirstFailure (file_meaning d) d.entries f → v ≡ Refuse f
  -- The numbers of a refusal are within the limits.
  pub numbered : (f : TableRefusal) → v ≡ Refuse f → (d : Dossier) → HoldsDossier bytes d → Within d.entries f
  -- Accepted: no run of rules and choices, held by a model or not, leads from the opening state to one where row 0 stands.
  pub safe_runs : v ≡ Accept → (d : Dossier) → HoldsDossier bytes d → (fs : List Firing) (s : FileState) → Leads (file_meaning d) (file_meaning d).opening fs s → (file_meaning d).Stands 0 s → ⊥
  -- Accepted: every list of calls on a model that begins in the opening state is safe, refusals included.
  pub safe_calls : v ≡ Accept → (d : Dossier) → HoldsDossier bytes d → (log : List Exchange) (s : FileState) → Calls (file_meaning d) (file_meaning d).opening log s → SafeAfter (file_meaning d) log s
