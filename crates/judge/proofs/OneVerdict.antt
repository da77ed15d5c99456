-- A table has one verdict: it is accepted, or it has one first failure.
use Rattle.std.proofs.Common.{◌≡◌, ℕ, suc, ◌+◌, ◌<◌, ◌≤◌, List, [], ◌∷◌, ◌++◌, length, get_or, take, drop, Some, Ok, Err, Result, sym, refl, ap, ◌∙◌, inl, inr, add-zero, arith}
use Rattle.std.proofs.lemmas.List.{take_all, drop_more, take-append-drop, length-take-le}
use Rattle.std.proofs.lemmas.Bool.{cases_order}
use Rattle.pattern.specs.declared.Case.{Case}
use Rattle.pattern.specs.declared.Covering.{Covering}
use Rattle.pattern.specs.declared.Covering.TheVariants.{Malformed, Covers, DoesNotCover}
use Rattle.pattern.specs.Meaning.{Meaning}
use Rattle.judge.specs.declared.table.TableGround.TheVariants.{RowStands, LeftOver}
use Rattle.judge.specs.declared.table.TableRefusal.{TableRefusal}
use Rattle.judge.specs.Acceptance.{Claim, Cover, none, next, Clear, Accepted, LowestStanding, Walked, Fails, no_entry, no_such_row, bad_matching, not_covered, left_over, later, FirstFailure, row_stands, in_walk, Judged, Verdict}

module _ {S : Type 0} (m : Meaning S) where
  -- a covering is one thing
  apart : (x : Covering) → x ≡ Covers → x ≡ Malformed → ⊥
  apart x p q = let z : ◌≡◌ {A = ℕ} 0 1 = cc in omega arith

  apart' : (x : Covering) → x ≡ Covers → x ≡ DoesNotCover → ⊥
  apart' x p q = let z : ◌≡◌ {A = ℕ} 0 1 = cc in omega arith

  apart'' : (x : Covering) → x ≡ Malformed → x ≡ DoesNotCover → ⊥
  apart'' x p q = let z : ◌≡◌ {A = ℕ} 0 1 = cc in omega arith

  -- What covers does not fail.
  cover_fails : {cs : List Case} {es : List Claim} {n : ℕ} {f : TableRefusal} → Cover m cs es → Fails m n cs es f → ⊥
  cover_fails none x = elim x [ ]
  cover_fails (next r w) (no_such_row h) = omega (arith, r.0)
  cover_fails (next r w) (bad_matching h x) = apart _ r.1 x
  cover_fails (next r w) (not_covered h x) = apart' _ r.1 x
  cover_fails (next r w) (later r' x) = cover_fails w x

  fails_one : {cs : List Case} {es : List Claim} {n : ℕ} {f g : TableRefusal} → Fails m n cs es f → Fails m n cs es g → f ≡ g
  fails_one no_entry no_entry = refl
  fails_one left_over left_over = refl
  fails_one (no_such_row h) (no_such_row h') = refl
  fails_one (no_such_row h) (bad_matching h' x) = absurd (omega arith)
  fails_one (no_such_row h) (not_covered h' x) = absurd (omega arith)
  fails_one (no_such_row h) (later r y) = absurd (omega (arith, r.0))
  fails_one (bad_matching h x) (no_such_row h') = absurd (omega arith)
  fails_one (bad_matching h x) (bad_matching h' y) = refl
  fails_one (bad_matching h x) (not_covered h' y) = absurd (apart'' _ x y)
  fails_one (bad_matching h x) (later r y) = absurd (apart _ r.1 x)
  fails_one (not_covered h x) (no_such_row h') = absurd (omega arith)
  fails_one (not_covered h x) (bad_matching h' y) = absurd (apart'' _ y x)
  fails_one (not_covered h x) (not_covered h' y) = refl
  fails_one (not_covered h x) (later r y) = absurd (apart' _ r.1 x)
  fails_one (later r y) (no_such_row h') = absurd (omega (arith, r.0))
  fails_one (later r y) (bad_matching h' x) = absurd (apart _ r.1 x)
  fails_one (later r y) (not_covered h' x) = absurd (apart' _ r.1 x)
  fails_one (later r y) (later r' z) = fails_one y z

  -- the lowest row that stands is one
  lowest : (P : ℕ → Type 0) (a b : ℕ) → ((r : ℕ) → r < a → P r → ⊥) → P a → ((r : ℕ) → r < b → P r → ⊥) → P b → a ≡ b
  lowest P a b before at before' at' = elim (cases_order a b) [
    | inl e ↦ e
    | inr o ↦ elim o [ inl l ↦ absurd (before' a l at) | inr l ↦ absurd (before b l at') ]
  ]

  first_one : (table : List Claim) {f g : TableRefusal} → FirstFailure m table f → FirstFailure m table g → f ≡ g
  first_one table (row_stands {row = a} h before at) (row_stands {row = b} h' before' at') =
      ap (λ (n : ℕ). record { reason = RowStands; case = record { row = n; rule = 0; number = 0 }; entry = 0 }) (lowest (λ r. m.Stands r m.opening) a b before at before' at')
  first_one table (row_stands {row = a} h before at) (in_walk clear w) = absurd (clear a h at)
  first_one table (in_walk clear w) (row_stands {row = a} h before at) = absurd (clear a h at)
  first_one table (in_walk clear w) (in_walk clear' w') = fails_one w w'

  accepted_fails : (table : List Claim) {f : TableRefusal} → Accepted m table → FirstFailure m table f → ⊥
  accepted_fails table a (row_stands {row = row} h before at) = a.clear row h at
  accepted_fails table a (in_walk clear w) = cover_fails a.covered w

  -- Two answers of which each is that of a table are the same.
  one_answer : (table : List Claim) (r q : Result (Unit {0}) TableRefusal) → Judged m table r → Judged m table q → q ≡ r
  one_answer table (Ok _) (Ok _) a b = refl
  one_answer table (Ok _) (Err f) a b = absurd (accepted_fails table a b)
  one_answer table (Err f) (Ok _) a b = absurd (accepted_fails table b a)
  one_answer table (Err f) (Err g) a b = ap Err (first_one table b a)

  verdict : (table : List Claim) (r : Result (Unit {0}) TableRefusal) → Judged m table r → Verdict m table r
  verdict table r a = record { judged = a; alone = λ q. one_answer table r q a }

  -- The verdict where a row stands in the opening state,
  pub stands_verdict : (table : List Claim) (row : ℕ) → LowestStanding m (Some row) → Verdict m table (Err (record { reason = RowStands; case = record { row = row; rule = 0; number = 0 }; entry = 0 }))
  stands_verdict table row w = verdict table (Err (record { reason = RowStands; case = record { row = row; rule = 0; number = 0 }; entry = 0 })) (row_stands w.0 w.1 w.2)

  -- where the walk fails,
  pub walk_verdict : (table : List Claim) (f : TableRefusal) → Clear m m.opening → Walked m table (Err f) → Verdict m table (Err f)
  walk_verdict table f clear w = verdict table (Err f) (in_walk clear w)

  fails_left_over : {cs : List Case} {es : List Claim} (n : ℕ) (e : Claim) (fs : List Claim) → Cover m cs es → Fails m n cs (es ++ e ∷ fs) (record { reason = LeftOver; case = record { row = 0; rule = 0; number = 0 }; entry = n + length es })
  fails_left_over n e fs none = rw add-zero left_over
  fails_left_over n e fs (next {es = es} r w) =
      let more : n + suc (length es) ≡ n + 1 + length es = omega arith in
      later r (rw more (fails_left_over (n + 1) e fs w))

  -- where claims are left over,
  pub left_over_verdict : (table : List Claim) (used : ℕ) → Clear m m.opening → Walked m table (Ok used) → used < length table → Verdict m table (Err (record { reason = LeftOver; case = record { row = 0; rule = 0; number = 0 }; entry = used }))
  left_over_verdict table used clear w h =
      let d : Claim = record { row = 0; matching = [] } in
      let whole : take used table ++ get_or table used d ∷ drop (used + 1) table ≡ table = ap (λ (es : List Claim). take used table ++ es) (sym (drop_more table used d h)) ∙ take-append-drop used table in
      let long : 0 + length (take used table) ≡ used = omega (arith, length-take-le used table w.0) in
      verdict table (Err (record { reason = LeftOver; case = record { row = 0; rule = 0; number = 0 }; entry = used }))
      (in_walk clear (rw (long, whole) at (fails_left_over 0 (get_or table used d) (drop (used + 1) table) w.1)))

  -- and where all is covered.
  pub covered_verdict : (table : List Claim) (used : ℕ) → Clear m m.opening → Walked m table (Ok used) → length table ≤ used → Verdict m table (Ok tt)
  covered_verdict table used clear w h = verdict table (Ok tt) (record { clear = clear; covered = rw take_all at w.1 })
