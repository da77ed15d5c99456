-- When a file is in form, and which record is at fault where it is not.
use Rattle.std.specs.Prelude.{◌≡◌, ℕ, ◌+◌, ◌<◌, ◌≤◌, true, false, List, length, drop, Ok, Err, Result, ◌≢◌}
use Rattle.records.specs.declared.Books.{Books}
use Rattle.records.specs.declared.FormGround.TheVariants as ground
use Rattle.records.specs.declared.FormFault.{FormFault}
use Rattle.records.specs.declared.RecordKind.{RecordKind}
use Rattle.records.specs.declared.Section.TheVariants as section
use Rattle.records.specs.Number.{record_number, NoRecord}
use Rattle.records.specs.Bytes.{length_at, kind_at, body_at}
use Rattle.drafting.specs.Progress.{Progress, start, allowed, long, ranged, advance}

abbrev pub most_bytes : ℕ
most_bytes = 65535

-- At this place the end has not come, and a whole record of this kind stands there.
pub record StandsAt (bytes : List ℕ) (p : ℕ) (g : Progress) (k : RecordKind) : Type 0 where
  pub unended : g.section ≡ section.End → ⊥
  pub whole : p + (4 + length_at (drop p bytes)) ≤ length bytes
  pub kind_is : kind_at (drop p bytes) ≡ record_number k

-- A file that may hold such books.
module _ (books : Books) (bytes : List ℕ) where
  -- The records before this place are in form, and hold this.
  pub data At : ℕ → Progress → Type 0 where
    begins : At 0 (start books)
    more : {p : ℕ} {g : Progress} {k : RecordKind} → At p g → StandsAt bytes p g k → allowed g k ≡ true → long g k (body_at (drop p bytes)) ≡ true → ranged g k (body_at (drop p bytes)) ≡ true → At (p + (4 + length_at (drop p bytes))) (advance g k (body_at (drop p bytes)))

  -- The file is in form and holds this.
  pub record InForm (g : Progress) : Type 0 where
    pub short : length bytes ≤ most_bytes
    pub read : At (length bytes) g
    pub ended : g.section ≡ section.End

  -- The first record at fault, and why.
  pub data Faulty : FormFault → Type 0 where
    too_long : most_bytes < length bytes → Faulty (record { reason = ground.TooLong; place = 0 })
    cut_short : {p : ℕ} {g : Progress} → length bytes ≤ most_bytes → At p g → (g.section ≢ section.End) → length bytes < p + (4 + length_at (drop p bytes)) → Faulty (record { reason = ground.CutShort; place = p })
    unknown_kind : {p : ℕ} {g : Progress} → length bytes ≤ most_bytes → At p g → (g.section ≢ section.End) → p + (4 + length_at (drop p bytes)) ≤ length bytes → NoRecord (kind_at (drop p bytes)) → Faulty (record { reason = ground.KindNotAllowed; place = p })
    misplaced : {p : ℕ} {g : Progress} {k : RecordKind} → length bytes ≤ most_bytes → At p g → StandsAt bytes p g k → allowed g k ≡ false → Faulty (record { reason = ground.KindNotAllowed; place = p })
    after_end : {p : ℕ} {g : Progress} → length bytes ≤ most_bytes → At p g → g.section ≡ section.End → p < length bytes → Faulty (record { reason = ground.KindNotAllowed; place = p })
    wrong_length : {p : ℕ} {g : Progress} {k : RecordKind} → length bytes ≤ most_bytes → At p g → StandsAt bytes p g k → allowed g k ≡ true → long g k (body_at (drop p bytes)) ≡ false → Faulty (record { reason = ground.WrongLength; place = p })
    out_of_range : {p : ℕ} {g : Progress} {k : RecordKind} → length bytes ≤ most_bytes → At p g → StandsAt bytes p g k → allowed g k ≡ true → long g k (body_at (drop p bytes)) ≡ true → ranged g k (body_at (drop p bytes)) ≡ false → Faulty (record { reason = ground.OutOfRange; place = p })

  -- Some record is reached, allowed where it stands and as long as it should be; those before it are in form.
  pub record Reached : Type 0 where
    pub place : ℕ
    pub held : Progress
    pub kind : RecordKind
    pub short : length bytes ≤ most_bytes
    pub before : At place held
    pub here : StandsAt bytes place held kind
    pub is_allowed : allowed held kind ≡ true
    pub is_long : long held kind (body_at (drop place bytes)) ≡ true

  -- What reading the file comes to: it is in form and holds this, or it has this fault.
  abbrev pub Verdict : Result Progress FormFault → Type 0
  Verdict (Ok g) = InForm g
  Verdict (Err f) = Faulty f

  -- It comes to something, and to nothing else.
  pub record OneVerdict : Type 0 where
    pub verdict : Result Progress FormFault
    pub comes : Verdict verdict
    pub alone : (other : Result Progress FormFault) → Verdict other → other ≡ verdict
