-- A file comes to one verdict: where its records stop being in form is computed by a function.
use Rattle.std.proofs.Common.{◌≡◌, ℕ, ◌+◌, ◌<◌, ◌≤◌, Bool, true, false, cond, eqb, ltb, ◌⊎◌, List, length, drop, Some, None, Ok, Err, Option, Result, sym, refl, ap, ◌∙◌, subst, inl, inr, arith}
use Rattle.std.proofs.lemmas.Bool.{cond-true, cond-false, cases_lt, ne_eqb, lt-ltb, le-ltb}
use Rattle.records.specs.declared.Books.{Books}
use Rattle.records.specs.declared.FormGround.{FormGround}
use Rattle.records.specs.declared.FormGround.TheVariants as ground
use Rattle.records.specs.declared.FormFault.{FormFault}
use Rattle.records.specs.declared.RecordKind.{RecordKind}
use Rattle.records.specs.declared.RecordKind.TheVariants as kind
use Rattle.records.specs.declared.Section.{Section}
use Rattle.records.specs.declared.Section.TheVariants as section
use Rattle.records.specs.Number.{record_number, NoRecord}
use Rattle.records.specs.Bytes.{length_at, kind_at, body_at}
use Rattle.records.specs.Order.{section_number}
use Rattle.drafting.specs.Progress.{Progress, start, allowed, long, ranged, advance}
use Rattle.reader.proofs.Sections.{same_section}
use Rattle.reader.proofs.SomeVerdict.{known, comes_to}
use Rattle.reader.specs.Form.{most_bytes, StandsAt, At, begins, more, Faulty, too_long, cut_short, unknown_kind, misplaced, after_end, wrong_length, out_of_range, Verdict, OneVerdict}

-- The kind with a number.
chosen : {n : ℕ} → ((k : RecordKind) × (n ≡ record_number k)) ⊎ NoRecord n → Option RecordKind
chosen (inl x) = Some x.0
chosen (inr _) = None

kind_of : ℕ → Option RecordKind
kind_of n = chosen (known n)

of_kind : (k : RecordKind) → kind_of (record_number k) ≡ Some k
unfolding kind_of chosen known
of_kind kind.Head = refl
of_kind kind.Opening = refl
of_kind kind.Rule = refl
of_kind kind.Row = refl
of_kind kind.Moves = refl
of_kind kind.ObserverRow = refl
of_kind kind.Entry = refl
of_kind kind.End = refl

chosen_none : {n : ℕ} (s : ((k : RecordKind) × (n ≡ record_number k)) ⊎ NoRecord n) → NoRecord n → chosen s ≡ None
unfolding chosen
chosen_none (inl x) none = absurd (none x.0 (sym x.1))
chosen_none (inr _) none = refl

of_none : (n : ℕ) → NoRecord n → kind_of n ≡ None
unfolding kind_of
of_none n none = chosen_none (known n) none

ended : Section → Bool
ended s = eqb (section_number s) (section_number section.End)

of_end : ended section.End ≡ true
unfolding ended
of_end = refl

of_unended : (s : Section) → (s ≡ section.End → ⊥) → ended s ≡ false
unfolding ended
of_unended s n = ne_eqb (section_number s) (section_number section.End) (λ e. n (same_section s section.End e))

fault : FormGround → ℕ → Option (Result Progress FormFault)
fault g p = Some (Err (record { reason = g; place = p }))

module _ (books : Books) (bytes : List ℕ) where
  -- What a record of a kind comes to: a fault, or nothing yet.
  by_kind : ℕ → Progress → Option RecordKind → Option (Result Progress FormFault)
  by_kind p g None = fault ground.KindNotAllowed p
  by_kind p g (Some k) = cond (allowed g k) (cond (long g k (body_at (drop p bytes))) (cond (ranged g k (body_at (drop p bytes))) None (fault ground.OutOfRange p)) (fault ground.WrongLength p)) (fault ground.KindNotAllowed p)

  -- What the file comes to at a place, if it stops there.
  stop : ℕ → Progress → Option (Result Progress FormFault)
  stop p g = cond (ended g.section) (cond (ltb p (length bytes)) (fault ground.KindNotAllowed p) (Some (Ok g))) (cond (ltb (length bytes) (p + (4 + length_at (drop p bytes)))) (fault ground.CutShort p) (by_kind p g (kind_of (kind_at (drop p bytes)))))

  -- The tests of a stop, one after the other.
  unended_stop : (p : ℕ) (g : Progress) → (g.section ≡ section.End → ⊥) → p + (4 + length_at (drop p bytes)) ≤ length bytes → (o : Option RecordKind) → kind_of (kind_at (drop p bytes)) ≡ o → stop p g ≡ by_kind p g o
  unfolding stop
  unended_stop p g n h o e =
      cond-false {A = Option (Result Progress FormFault)} (ended g.section) _ _ (of_unended g.section n)
      ∙ cond-false {A = Option (Result Progress FormFault)} (ltb (length bytes) (p + (4 + length_at (drop p bytes)))) _ _ (le-ltb (length bytes) (p + (4 + length_at (drop p bytes))) h)
      ∙ ap (by_kind p g) e

  kind_here : (p : ℕ) (g : Progress) (k : RecordKind) → StandsAt bytes p g k → kind_of (kind_at (drop p bytes)) ≡ Some k
  kind_here p g k s = ap kind_of s.kind_is ∙ of_kind k

  stands_stop : (p : ℕ) (g : Progress) (k : RecordKind) → StandsAt bytes p g k → stop p g ≡ by_kind p g (Some k)
  stands_stop p g k s = unended_stop p g s.unended s.whole (Some k) (kind_here p g k s)

  misplaced_stop : (p : ℕ) (g : Progress) (k : RecordKind) → allowed g k ≡ false → by_kind p g (Some k) ≡ fault ground.KindNotAllowed p
  unfolding by_kind
  misplaced_stop p g k a = cond-false {A = Option (Result Progress FormFault)} (allowed g k) _ _ a

  length_stop : (p : ℕ) (g : Progress) (k : RecordKind) → allowed g k ≡ true → long g k (body_at (drop p bytes)) ≡ false → by_kind p g (Some k) ≡ fault ground.WrongLength p
  unfolding by_kind
  length_stop p g k a l = cond-true {A = Option (Result Progress FormFault)} (allowed g k) _ _ a ∙ cond-false {A = Option (Result Progress FormFault)} (long g k (body_at (drop p bytes))) _ _ l

  range_stop : (p : ℕ) (g : Progress) (k : RecordKind) (b : Bool) (o : Option (Result Progress FormFault)) → allowed g k ≡ true → long g k (body_at (drop p bytes)) ≡ true → ranged g k (body_at (drop p bytes)) ≡ b → cond b None (fault ground.OutOfRange p) ≡ o → by_kind p g (Some k) ≡ o
  unfolding by_kind
  range_stop p g k b o a l r e =
      cond-true {A = Option (Result Progress FormFault)} (allowed g k) _ _ a
      ∙ cond-true {A = Option (Result Progress FormFault)} (long g k (body_at (drop p bytes))) _ _ l
      ∙ ap (λ (x : Bool). cond {A = Option (Result Progress FormFault)} x None (fault ground.OutOfRange p)) r ∙ e

  -- From a place on the file comes to a verdict.
  data From : ℕ → Progress → Result Progress FormFault → Type 0 where
    stops : {p : ℕ} {g : Progress} {v : Result Progress FormFault} → stop p g ≡ Some v → From p g v
    goes : {p : ℕ} {g : Progress} {v : Result Progress FormFault} (k : RecordKind) → stop p g ≡ None → kind_of (kind_at (drop p bytes)) ≡ Some k → From (p + (4 + length_at (drop p bytes))) (advance g k (body_at (drop p bytes))) v → From p g v

  from_one : {p : ℕ} {g : Progress} {v w : Result Progress FormFault} → From p g v → From p g w → v ≡ w
  from_one (stops e) (stops f) = cc
  from_one (stops e) (goes k f h y) = absurd (let z : ◌≡◌ {A = ℕ} 0 1 = cc in omega arith)
  from_one (goes k e h x) (stops f) = absurd (let z : ◌≡◌ {A = ℕ} 0 1 = cc in omega arith)
  from_one (goes {p} {g} {v} k e h x) (goes {v = w} k' f h' y) =
      let same : k' ≡ k = cc in
      from_one x (subst (λ (n : RecordKind). From (p + (4 + length_at (drop p bytes))) (advance g n (body_at (drop p bytes))) w) same y)

  from_start : {p : ℕ} {g : Progress} {v : Result Progress FormFault} → At books bytes p g → From p g v → From 0 (start books) v
  from_start begins w = w
  from_start (more {p} {g} {k} at s a l r) w = from_start at (goes k (stands_stop p g k s ∙ range_stop p g k true None a l r refl) (kind_here p g k s) w)

  ended_stop : (p : ℕ) (g : Progress) (b : Bool) (o : Option (Result Progress FormFault)) → g.section ≡ section.End → ltb p (length bytes) ≡ b → cond b (fault ground.KindNotAllowed p) (Some (Ok g)) ≡ o → stop p g ≡ o
  unfolding stop
  ended_stop p g b o e l f =
      cond-true {A = Option (Result Progress FormFault)} (ended g.section) _ _ (ap ended e ∙ of_end)
      ∙ ap (λ (x : Bool). cond {A = Option (Result Progress FormFault)} x (fault ground.KindNotAllowed p) (Some (Ok g))) l ∙ f

  cut_stop : (p : ℕ) (g : Progress) → (g.section ≡ section.End → ⊥) → length bytes < p + (4 + length_at (drop p bytes)) → stop p g ≡ fault ground.CutShort p
  unfolding stop
  cut_stop p g n h =
      cond-false {A = Option (Result Progress FormFault)} (ended g.section) _ _ (of_unended g.section n)
      ∙ cond-true {A = Option (Result Progress FormFault)} (ltb (length bytes) (p + (4 + length_at (drop p bytes)))) _ _ (lt-ltb (length bytes) (p + (4 + length_at (drop p bytes))) h)

  module _ (short : length bytes ≤ most_bytes) where
    faulty_from : {f : FormFault} → Faulty books bytes f → From 0 (start books) (Err f)
    unfolding fault by_kind
    faulty_from (too_long h) = absurd (omega arith)
    faulty_from (cut_short {p} {g} _ at n h) = from_start at (stops (cut_stop p g n h))
    faulty_from (unknown_kind {p} {g} _ at n h none) = from_start at (stops (unended_stop p g n h None (of_none (kind_at (drop p bytes)) none)))
    faulty_from (misplaced {p} {g} {k} _ at s a) = from_start at (stops (stands_stop p g k s ∙ misplaced_stop p g k a))
    faulty_from (after_end {p} {g} _ at e h) = from_start at (stops (ended_stop p g true _ e (lt-ltb p (length bytes) h) refl))
    faulty_from (wrong_length {p} {g} {k} _ at s a l) = from_start at (stops (stands_stop p g k s ∙ length_stop p g k a l))
    faulty_from (out_of_range {p} {g} {k} _ at s a l r) = from_start at (stops (stands_stop p g k s ∙ range_stop p g k false _ a l r refl))

    verdict_from : (v : Result Progress FormFault) → Verdict books bytes v → From 0 (start books) v
    verdict_from (Ok g) w = from_start w.read (stops (ended_stop (length bytes) g false (Some (Ok g)) w.ended (le-ltb (length bytes) (length bytes) (omega arith)) refl))
    verdict_from (Err f) w = faulty_from w

  -- A file that is too long has that fault alone.
  long_only : most_bytes < length bytes → (v : Result Progress FormFault) → Verdict books bytes v → v ≡ Err (record { reason = ground.TooLong; place = 0 })
  long_only h (Ok g) w = absurd (omega (arith, w.short))
  long_only h (Err f) (too_long _) = refl
  long_only h (Err f) (cut_short s _ _ _) = absurd (omega arith)
  long_only h (Err f) (unknown_kind s _ _ _ _) = absurd (omega arith)
  long_only h (Err f) (misplaced s _ _ _) = absurd (omega arith)
  long_only h (Err f) (after_end s _ _ _) = absurd (omega arith)
  long_only h (Err f) (wrong_length s _ _ _ _) = absurd (omega arith)
  long_only h (Err f) (out_of_range s _ _ _ _ _) = absurd (omega arith)

  pub one_verdict : OneVerdict books bytes
  one_verdict = elim (cases_lt most_bytes (length bytes)) [
    | inl h ↦ record { verdict = Err (record { reason = ground.TooLong; place = 0 }); comes = too_long h; alone = long_only h }
    | inr h ↦ let v = comes_to books bytes h in record { verdict = v.0; comes = v.1; alone = λ other w. from_one (verdict_from h other w) (verdict_from h v.0 v.1) }
  ]
