-- A file that is not too long comes to some verdict: record by record, until one is at fault or the end has come.
use Rattle.std.proofs.Common.{◌≡◌, ℕ, zero, suc, ◌+◌, ◌≤◌, Bool, true, false, ◌⊎◌, List, length, drop, Ok, Err, Result, refl, ap, inl, inr, arith}
use Rattle.std.proofs.lemmas.Bool.{cases_lt, cases_eq}
use Rattle.records.specs.declared.Books.{Books}
use Rattle.records.specs.declared.FormFault.{FormFault}
use Rattle.records.specs.declared.RecordKind.{RecordKind}
use Rattle.records.specs.declared.RecordKind.TheVariants as kind
use Rattle.records.specs.declared.Section.{Section}
use Rattle.records.specs.declared.Section.TheVariants as section
use Rattle.records.specs.Number.{record_number, NoRecord}
use Rattle.records.specs.Bytes.{length_at, kind_at, body_at}
use Rattle.records.specs.Order.{section_number}
use Rattle.drafting.specs.Progress.{Progress, start, allowed, long, ranged, advance}
use Rattle.reader.proofs.Sections.{same_section}
use Rattle.reader.proofs.Well.{place_within}
use Rattle.reader.specs.Form.{most_bytes, StandsAt, At, begins, more, cut_short, unknown_kind, misplaced, after_end, wrong_length, out_of_range, Verdict}

pub numbered : (k : RecordKind) → (1 ≤ record_number k) × (record_number k ≤ 8)
numbered kind.Head = (omega arith, omega arith)
numbered kind.Opening = (omega arith, omega arith)
numbered kind.Rule = (omega arith, omega arith)
numbered kind.Row = (omega arith, omega arith)
numbered kind.Moves = (omega arith, omega arith)
numbered kind.ObserverRow = (omega arith, omega arith)
numbered kind.Entry = (omega arith, omega arith)
numbered kind.End = (omega arith, omega arith)

-- A number is that of a kind, or of none.
unfoldable pub known : (n : ℕ) → ((k : RecordKind) × (n ≡ record_number k)) ⊎ NoRecord n
known zero = inr (λ k e. omega (arith, (numbered k).0))
known (suc zero) = inl (kind.Head, refl)
known (suc (suc zero)) = inl (kind.Opening, refl)
known (suc (suc (suc zero))) = inl (kind.Rule, refl)
known (suc (suc (suc (suc zero)))) = inl (kind.Row, refl)
known (suc (suc (suc (suc (suc zero))))) = inl (kind.Moves, refl)
known (suc (suc (suc (suc (suc (suc zero)))))) = inl (kind.ObserverRow, refl)
known (suc (suc (suc (suc (suc (suc (suc zero))))))) = inl (kind.Entry, refl)
known (suc (suc (suc (suc (suc (suc (suc (suc zero)))))))) = inl (kind.End, refl)
known (suc (suc (suc (suc (suc (suc (suc (suc (suc n))))))))) = inr (λ k e. omega (arith, (numbered k).1))

-- The end has come, or it has not.
end_or_not : (s : Section) → (s ≡ section.End) ⊎ (s ≡ section.End → ⊥)
end_or_not s = elim (cases_eq (section_number s) (section_number section.End)) [ inl e ↦ inl (same_section s section.End e) | inr n ↦ inr (λ e. n (ap section_number e)) ]

module _ (books : Books) (bytes : List ℕ) (short : length bytes ≤ most_bytes) where
  abbrev SomeVerdict : Type 0
  SomeVerdict = (v : Result Progress FormFault) × Verdict books bytes v

  module _ (p : ℕ) (g : Progress) (at : At books bytes p g) where
    -- After the record at this place.
    abbrev Later : RecordKind → Type 0
    Later k = At books bytes (p + (4 + length_at (drop p bytes))) (advance g k (body_at (drop p bytes)))

    module _ (k : RecordKind) (s : StandsAt bytes p g k) (later : Later k → SomeVerdict) where
      by_range : allowed g k ≡ true → long g k (body_at (drop p bytes)) ≡ true → (b : Bool) → ranged g k (body_at (drop p bytes)) ≡ b → SomeVerdict
      by_range a l true r = later (more at s a l r)
      by_range a l false r = (Err _, out_of_range short at s a l r)

      by_length : allowed g k ≡ true → (b : Bool) → long g k (body_at (drop p bytes)) ≡ b → SomeVerdict
      by_length a true l = by_range a l (ranged g k (body_at (drop p bytes))) refl
      by_length a false l = (Err _, wrong_length short at s a l)

      by_kind : (b : Bool) → allowed g k ≡ b → SomeVerdict
      by_kind true a = by_length a (long g k (body_at (drop p bytes))) refl
      by_kind false a = (Err _, misplaced short at s a)

    module _ (later : (k : RecordKind) → Later k → SomeVerdict) where
      whole_record : (g.section ≡ section.End → ⊥) → p + (4 + length_at (drop p bytes)) ≤ length bytes → SomeVerdict
      whole_record u h = elim (known (kind_at (drop p bytes))) [
        | inl x ↦ by_kind x.0 (record { unended = u; whole = h; kind_is = x.1 }) (later x.0) (allowed g x.0) refl
        | inr none ↦ (Err _, unknown_kind short at u h none)
      ]

      unended_here : (g.section ≡ section.End → ⊥) → SomeVerdict
      unended_here u = elim (cases_lt (length bytes) (p + (4 + length_at (drop p bytes)))) [
        | inl h ↦ (Err _, cut_short short at u h)
        | inr h ↦ whole_record u h
      ]

      ended_here : g.section ≡ section.End → SomeVerdict
      ended_here e = elim (cases_lt p (length bytes)) [
        | inl h ↦ (Err _, after_end short at e h)
        | inr h ↦ let all : p ≡ length bytes = omega (arith, place_within bytes at) in (Ok g, record { short = short; read = rw all at at; ended = e })
      ]

      here : SomeVerdict
      here = elim (end_or_not g.section) [
        | inl e ↦ ended_here e
        | inr u ↦ unended_here u
      ]

  -- At most so many bytes are left.
  within : (n p : ℕ) (g : Progress) → At books bytes p g → length bytes ≤ p + n → SomeVerdict
  within zero p g at h = here p g at (λ k next. absurd (omega (arith, place_within bytes next)))
  within (suc n) p g at h = here p g at (λ k next. within n (p + (4 + length_at (drop p bytes))) (advance g k (body_at (drop p bytes))) next (omega arith))

  pub comes_to : SomeVerdict
  comes_to = within (length bytes) 0 (start books) begins (omega arith)
