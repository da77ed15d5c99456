-- What reporting a file gives, and what it leaves in the buffer.
use Rattle.std.specs.Prelude.{◌≡◌, ℕ, ◌<◌, ◌≤◌, List, ◌++◌, length, drop, Ok, Err, Result}
use Rattle.line.specs.declared.NoLine.{NoLine}
use Rattle.line.specs.declared.NoLine.TheVariants.{Refused, OutOfMemory}
use Rattle.line.specs.declared.LineRefusal.TheVariants.{BufferTooShort}
use Rattle.line.specs.declared.Verdict.{Verdict}
use Rattle.line.specs.Text.{line_of, least_buffer}
use Rattle.dossier.specs.Law.{FileLaw}

-- A buffer under 64 bytes is refused before all else. Otherwise the line of the file's verdict comes first in the buffer, and what follows stays.
abbrev pub Reported : List ℕ → List ℕ → List ℕ → Result ℕ NoLine → Type 0
Reported bytes before after (Ok n) = (least_buffer ≤ length before) × ((v : Verdict) × FileLaw bytes v × (n ≡ length (line_of v)) × (after ≡ line_of v ++ drop n before))
Reported bytes before after (Err (Refused BufferTooShort)) = (length before < least_buffer) × (after ≡ before)
Reported bytes before after (Err OutOfMemory) = (least_buffer ≤ length before) × (after ≡ before)
