-- The numbers of a file's verdict are such that its line is short.
use Rattle.std.proofs.Common.{ℕ, ◌^◌, ◌<◌, ◌≤◌, List, length, IfSome, IfOk, Some, None, Ok, Err, Option, Result, refl, ap, arith}
use Rattle.std.proofs.lemmas.Bool.{false≢true}
use Rattle.std.specs.declared.alloc.AllocError.{AllocError}
use Rattle.records.specs.declared.Books.TheVariants.{Any}
use Rattle.records.specs.declared.FormFault.{FormFault}
use Rattle.reader.specs.Dossier.{Dossier}
use Rattle.reader.specs.Form.{most_bytes, Faulty, too_long, cut_short, unknown_kind, misplaced, after_end, wrong_length, out_of_range}
use Rattle.reader.proofs.Well.{few_entries, place_within}
use Rattle.line.specs.declared.Verdict.{Verdict}
use Rattle.line.specs.declared.Verdict.TheVariants.{Accept, Form, Refuse}
use Rattle.line.specs.declared.NoLine.{NoLine}
use Rattle.line.specs.declared.NoLine.TheVariants.{Refused, OutOfMemory}
use Rattle.line.specs.declared.LineRefusal.TheVariants.{BufferTooShort}
use Rattle.line.specs.Text.{Bounded, least_buffer, Written}
use Rattle.line.proofs.Short.{short}
use Rattle.dossier.specs.Opened.{Given}
use Rattle.dossier.specs.Law.{HoldsDossier, FileLaw}
use Rattle.dossier.specs.Reported.{Reported}

module _ (bytes : List ℕ) where
  -- The place of a fault is in the file, or at its end.
  place_in : {f : FormFault} → Faulty Any bytes f → f.place ≤ most_bytes
  place_in (too_long _) = omega arith
  place_in (cut_short s at _ _) = omega (arith, s, place_within bytes at)
  place_in (unknown_kind s at _ _ _) = omega (arith, s, place_within bytes at)
  place_in (misplaced s at _ _) = omega (arith, s, place_within bytes at)
  place_in (after_end s at _ _) = omega (arith, s, place_within bytes at)
  place_in (wrong_length s at _ _ _) = omega (arith, s, place_within bytes at)
  place_in (out_of_range s at _ _ _ _) = omega (arith, s, place_within bytes at)

  entries_in : (d : Dossier) → HoldsDossier bytes d → length d.entries < 10 ^ 5
  entries_in d h = omega (arith, h.1.short, few_entries bytes h.1.read, ap (λ (x : Dossier). length x.entries) h.2)

  pub bounded : (v : Verdict) → FileLaw bytes v → Bounded v
  bounded Accept law = tt
  bounded (Form f) law = omega (arith, place_in (law.not_in_form f refl))
  bounded (Refuse f) law =
      let r = law.refuses f refl in
      let w = law.numbered f refl r.0 r.1 in
      (omega (arith, w.row_in), omega (arith, w.rule_in), omega (arith, w.number_in), omega (arith, w.entry_in, entries_in r.0 r.1))

  -- The verdict that is given is the file's.
  pub given_law : (o : Option Verdict) (r : Result Verdict AllocError) → Given o r → IfSome o (FileLaw bytes) → IfOk r (FileLaw bytes)
  given_law None (Ok v) g w = absurd (false≢true g)
  given_law None (Err e) g w = tt
  given_law (Some v) r g w = rw g w

  pub made_bounded : (r : Result Verdict AllocError) → IfOk r (FileLaw bytes) → IfOk r Bounded
  made_bounded (Ok v) law = bounded v law
  made_bounded (Err e) law = tt

  -- The line of the file's verdict has room in a buffer that is not too short.
  pub reported : (v : Verdict) (before after : List ℕ) (r : Result ℕ NoLine) → least_buffer ≤ length before → FileLaw bytes v → Bounded v → Written v before after r → Reported bytes before after r
  reported v before after (Ok n) room law few w = (room, (v, law, w.0, w.1))
  reported v before after (Err (Refused BufferTooShort)) room law few w = absurd (omega (arith, w.0, short v few))
  reported v before after (Err OutOfMemory) room law few w = (room, w)

  pub fitting : (v : Verdict) (before after : List ℕ) (r : Result ℕ NoLine) → least_buffer ≤ length before → Bounded v → Written v before after r → IfOk r (λ n. n ≤ length before)
  fitting v before after (Ok n) room few w = omega (arith, w.0, short v few)
  fitting v before after (Err e) room few w = tt
