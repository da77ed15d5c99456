-- What opening a file gives.
use Rattle.std.specs.Prelude.{◌≡◌, ℕ, true, List, is_err, Some, None, Ok, Err, Option, Result}
use Rattle.std.specs.declared.alloc.AllocError.{AllocError}
use Rattle.line.specs.declared.Verdict.{Verdict}
use Rattle.line.specs.declared.Verdict.TheVariants.{Accept, Form, Refuse}
use Rattle.records.specs.declared.FormFault.{FormFault}
use Rattle.reader.specs.Dossier.{Dossier}
use Rattle.dossier.specs.declared.opening.NoModel.{NoModel}
use Rattle.dossier.specs.declared.opening.NoModel.TheVariants.{NotInForm, TableRefused, OutOfMemory}
use Rattle.dossier.specs.Meaning.{file_book, file_meaning, FileModel, model_book, model_state}
use Rattle.dossier.specs.Law.{HoldsDossier}

-- The verdict that the answer stands for; want of memory says nothing of the file.
abbrev pub verdict_without : NoModel → Option Verdict
verdict_without (NotInForm f) = Some (Form f)
verdict_without (TableRefused f) = Some (Refuse f)
verdict_without OutOfMemory = None

abbrev pub verdict_of : Result FileModel NoModel → Option Verdict
verdict_of (Ok m) = Some Accept
verdict_of (Err n) = verdict_without n

-- A verdict is given exactly where there is one.
abbrev pub Given : Option Verdict → Result Verdict AllocError → Type 0
Given None r = is_err r ≡ true
Given (Some v) r = r ≡ Ok v

-- What stands for the fault of a file.
abbrev pub of_form : Option FormFault → NoModel
of_form None = OutOfMemory
of_form (Some f) = NotInForm f

-- The model is one of the file's book, in its opening state.
abbrev pub Opens : List ℕ → FileModel → Type 0
Opens bytes m = (d : Dossier) × HoldsDossier bytes d × (model_book m ≡ file_book d) × (model_state m ≡ (file_meaning d).opening)
