-- The line that reports a verdict, byte by byte, and what writing it leaves.
use Rattle.std.specs.Prelude.{◌≡◌, ℕ, ◌^◌, ◌<◌, List, [], ◌∷◌, ◌++◌, length, drop, Ok, Err, codes, Result}
use Rattle.judge.specs.Text.{refusal_text}
use Rattle.records.specs.Fault.{fault_text}
use Rattle.line.specs.declared.verdict.LineRefusal.{LineRefusal}
use Rattle.line.specs.declared.verdict.LineRefusal.TheVariants.{BufferTooShort}
use Rattle.line.specs.declared.verdict.NoLine.{NoLine}
use Rattle.line.specs.declared.verdict.NoLine.TheVariants.{Refused, OutOfMemory}
use Rattle.line.specs.declared.verdict.Verdict.{Verdict}
use Rattle.line.specs.declared.verdict.Verdict.TheVariants.{Accept, Form, Refuse}

-- The number of the refusal of a buffer, as its enum defines it.
abbrev pub line_refusal_number : LineRefusal → ℕ
line_refusal_number BufferTooShort = 27

-- Why there is no line, in words.
abbrev pub without_line : NoLine → List ℕ
without_line (Refused BufferTooShort) = codes "the buffer is too short"
without_line OutOfMemory = codes "out of memory"

-- The verdict in words; numbers are decimal.
abbrev pub text_of : Verdict → List ℕ
text_of Accept = codes "ACCEPT"
text_of (Form f) = codes "FORM " ++ fault_text f
text_of (Refuse f) = codes "REFUSE " ++ refusal_text f

-- The line: the verdict and a line feed.
abbrev pub line_of : Verdict → List ℕ
line_of v = text_of v ++ 10 ∷ []

-- A buffer of so many bytes has room for the line of every file.
abbrev pub least_buffer : ℕ
least_buffer = 64

-- The numbers of a verdict are such as those of a file are: of at most two digits for a row or a rule, eight for a case, five for an entry or a place.
abbrev pub Bounded : Verdict → Type 0
Bounded Accept = Unit {0}
Bounded (Form f) = f.place < 10 ^ 5
Bounded (Refuse f) = (f.case.row < 10 ^ 2) × (f.case.rule < 10 ^ 2) × (f.case.number < 10 ^ 8) × (f.entry < 10 ^ 5)

-- Writing a line into a buffer: its bytes come first, and what follows stays. Otherwise all stays.
abbrev pub Written : Verdict → List ℕ → List ℕ → Result ℕ NoLine → Type 0
Written v before after (Ok n) = (n ≡ length (line_of v)) × (after ≡ line_of v ++ drop n before)
Written v before after (Err (Refused BufferTooShort)) = (length before < length (line_of v)) × (after ≡ before)
Written v before after (Err OutOfMemory) = after ≡ before
