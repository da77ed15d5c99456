-- How far a file is in form, record by record.
use Rattle.std.proofs.Common.{◌≡◌, ℕ, ◌+◌, ◌<◌, ◌≤◌, List, length, drop, Ok, Err, sym, ap, ◌∙◌, arith, MatchOption}
use Rattle.std.proofs.lemmas.List.{length-drop, drop-drop}
use Rattle.drafting.specs.declared.Draft.{Draft}
use Rattle.records.specs.declared.Books.{Books}
use Rattle.records.specs.declared.DossierFault.TheVariants.{Record}
use Rattle.records.specs.declared.FormGround.TheVariants as ground
use Rattle.records.specs.declared.RecordFault.{RecordFault}
use Rattle.records.specs.declared.RecordFault.TheVariants.{KindNotAllowed, WrongLength, Field, Literal, OutOfMemory}
use Rattle.records.specs.declared.RecordKind.{RecordKind}
use Rattle.records.specs.declared.Section.TheVariants as section
use Rattle.records.specs.Number.{record_number, NoRecord}
use Rattle.records.specs.Bytes.{length_at, kind_at, body_at}
use Rattle.records.specs.Fault.{form_of}
use Rattle.drafting.specs.Progress.{Progress}
use Rattle.reader.specs.Form.{most_bytes, StandsAt, At, more, Faulty, cut_short, unknown_kind, misplaced, after_end, wrong_length, out_of_range, Reached}
use Rattle.drafting.specs.Drafted.{progress_of, Answered}

-- The records before a place are in form and hold this, and these bytes are left.
pub record Reading (books : Books) (bytes rest : List ℕ) (p : ℕ) (g : Progress) : Type 0 where
  pub before : At books bytes p g
  pub within : p ≤ length bytes
  pub rest_is : rest ≡ drop p bytes

module _ {books : Books} {bytes rest : List ℕ} {p : ℕ} {g : Progress} (so_far : Reading books bytes rest p g) (short : length bytes ≤ most_bytes) where
  rest_long : p + length rest ≡ length bytes
  rest_long = omega (arith, ap length so_far.rest_is, length-drop p bytes)

  length_here : length_at rest ≡ length_at (drop p bytes)
  length_here = ap length_at so_far.rest_is

  -- Bytes are left after the end.
  pub left_after_end : g.section ≡ section.End → 0 < length rest → Faulty books bytes (record { reason = ground.KindNotAllowed; place = p })
  left_after_end e h = after_end short so_far.before e (omega (arith, rest_long))

  module _ (unended : g.section ≡ section.End → ⊥) where
    -- No whole record is left.
    pub cut : length rest < 4 + length_at rest → Faulty books bytes (record { reason = ground.CutShort; place = p })
    cut h = cut_short short so_far.before unended (omega (arith, rest_long, length_here))

    module _ (whole : 4 + length_at rest ≤ length rest) where
      next_within : p + (4 + length_at rest) ≤ length bytes
      next_within = omega (arith, rest_long)

      next_rest : (after : List ℕ) → after ≡ drop (4 + length_at rest) rest → after ≡ drop (p + (4 + length_at rest)) bytes
      next_rest after e = e ∙ ap (λ (xs : List ℕ). drop (4 + length_at rest) xs) so_far.rest_is ∙ drop-drop (4 + length_at rest) p bytes

      -- The record is of no kind.
      pub unknown : NoRecord (kind_at rest) → Faulty books bytes (record { reason = ground.KindNotAllowed; place = p })
      unknown none = unknown_kind short so_far.before unended (omega (arith, next_within, length_here)) (λ k e. none k (e ∙ sym (ap kind_at so_far.rest_is)))

      module _ (k : RecordKind) (kind_is : kind_at rest ≡ record_number k) where
        stands : StandsAt bytes p g k
        stands = record { unended = unended; whole = omega (arith, next_within, length_here); kind_is = sym (ap kind_at so_far.rest_is) ∙ kind_is }

        module _ (body : List ℕ) (body_is : body ≡ body_at rest) (body-long : length body ≡ length_at rest) where
          same_body : body ≡ body_at (drop p bytes)
          same_body = body_is ∙ ap body_at so_far.rest_is

          same_long : length body ≡ length_at (drop p bytes)
          same_long = body-long ∙ length_here

          -- The record is refused.
          pub refused : (e : RecordFault) → Answered g k body p (Err e) → MatchOption (form_of (Record e)) (Reached books bytes) (Faulty books bytes)
          refused (KindNotAllowed q) w = rw w.0 (misplaced short so_far.before stands w.1)
          refused (WrongLength q) w = rw w.0 (wrong_length short so_far.before stands w.1 (rw same_body at w.2))
          refused (Field f) w = rw w.0 (out_of_range short so_far.before stands w.1 (rw same_body at w.2) (rw same_body at w.3))
          refused (Literal f) w = rw w.0 (out_of_range short so_far.before stands w.1 (rw same_body at w.2) (rw same_body at w.3))
          refused OutOfMemory w = record { place = p; held = g; kind = k; short = short; before = so_far.before; here = stands; is_allowed = w.0; is_long = rw same_body at w.1 }

          -- The record is taken, and these bytes are left after it.
          pub read_on : (d : Draft) (after : List ℕ) → after ≡ drop (4 + length_at rest) rest → Answered g k body p (Ok d) → Reading books bytes after (p + (4 + length body)) (progress_of d)
          read_on d after e w = record {
            before = rw (w.3, same_long, same_body) (more so_far.before stands w.0 (rw same_body at w.1) (rw same_body at w.2));
            within = omega (arith, next_within);
            rest_is = rw body-long (next_rest after e);
          }
