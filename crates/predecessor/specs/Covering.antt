-- Where literals cover a row, the row stands where they hold.
use Rattle.std.specs.Prelude.{◌≡◌, ℕ, zero, suc, ◌<◌, ◌≤◌, true, false, not, ◌&&◌, ltb, List, [], ◌∷◌, map, length, ◌==◌, nat_eq, nat_lt, slice_index, ◌≢◌, refl}
use Rattle.std.proofs.Common.{sym, ap, subst, arith}
use Rattle.std.specs.List.{AllByRecursion, list_any, list_all}
use Rattle.std.proofs.lemmas.Bool.{and_parts, or_parts, not-true, eqb-true, eqb-false, ltb-true}
use Rattle.std.proofs.ByRecursion.{All-weaker, All-map, All-get_or}
use Rattle.literals.specs.declared.Literal.{Literal}
use Rattle.literals.specs.State.{State, Holds, AllHold, under}
use Rattle.literals.specs.Follow.{follows}
use Rattle.literals.proofs.Listing.{each_passes, each_fails}
use Rattle.literals.proofs.Following.{sound}
use Rattle.literals.proofs.Renaming.{map_under_again, follows_kept}
use Rattle.atoms.specs.Pattern.{Pattern, Different, StandsIn}
use Rattle.predecessor.specs.Earlier.{covers, covers_itself, repeats, well_formed}

module _ (ls : List Literal) (place : ℕ → ℕ) (s : State) (held : AllHold s (map (under place) ls)) where
  -- What follows from literals holds wherever they do.
  following : (ks : List Literal) → list_all (follows ls) ks ≡ true → AllHold s (map (under place) ks)
  following ks e =
      All-map (Holds s) (under place) ks
      (All-weaker (λ k. follows ls k ≡ true) (λ k. Holds s (under place k)) (λ k h. (sound (map (under place) ls)).follows_holds s (under place k) (follows_kept place ls k h) held) ks (each_passes (follows ls) ks e))

  module _ (n : ℕ) (different : Different n place) (row : Pattern) where
    -- Every variable kept: the same placement, of fewer variables.
    pub itself_stands : row.variables ≤ n → covers_itself ls row ≡ true → StandsIn row s
    itself_stands fewer e = record { place = place; different = λ i j h k. different i j (omega arith) (omega arith); all_hold = following row.literals e }

    -- A matching: each variable is placed as the one that it is matched with.
    pub matched_stands : (matching : List ℕ) → well_formed row n matching ≡ true → covers ls matching row ≡ true → StandsIn row s
    matched_stands matching w e =
        let p = and_parts (length matching == row.variables) (list_all (λ x. ltb x n) matching && not (repeats matching)) w in
        let q = and_parts (list_all (λ x. ltb x n) matching) (not (repeats matching)) p.1 in
        let long : length matching ≡ row.variables = eqb-true (length matching) row.variables p.0 in
        let within : AllByRecursion (λ x. x < n) matching = All-weaker (λ x. nat_lt x n ≡ true) (λ x. x < n) (λ x h. ltb-true x n h) matching (each_passes (λ x. ltb x n) matching q.0) in
        record {
          place = λ x. place (slice_index matching x);
          different = λ i j h k same. apart matching (not-true (repeats matching) q.1) i j (omega arith) (omega arith) (different (slice_index matching i) (slice_index matching j) (All-get_or (λ x. x < n) matching i 0 (omega arith) within) (All-get_or (λ x. x < n) matching j 0 (omega arith) within) same);
          all_hold = subst (AllHold s) (map_under_again place (λ x. slice_index matching x) row.literals) (following (map (under (λ x. slice_index matching x)) row.literals) e);
        }
      where
        -- the first element of a list that does not repeat is in no other place, so that each is in one place
        elsewhere : (x : ℕ) (xs : List ℕ) → repeats (x ∷ xs) ≡ false → (j : ℕ) → j < length xs → x ≢ slice_index xs j
        elsewhere x xs f j h = eqb-false x (slice_index xs j) (All-get_or (λ y. (x == y) ≡ false) xs j 0 h (each_fails (nat_eq x) xs (or_parts (list_any (nat_eq x) xs) (repeats xs) f).0))

        apart : (xs : List ℕ) → repeats xs ≡ false → (i j : ℕ) → i < length xs → j < length xs → slice_index xs i ≡ slice_index xs j → i ≡ j
        apart [] f i j h k same = absurd (omega arith)
        apart (x ∷ xs) f zero zero h k same = refl
        apart (x ∷ xs) f zero (suc j) h k same = absurd (elsewhere x xs f j (omega arith) same)
        apart (x ∷ xs) f (suc i) zero h k same = absurd (elsewhere x xs f i (omega arith) (sym same))
        apart (x ∷ xs) f (suc i) (suc j) h k same = ap suc (apart xs (or_parts (list_any (nat_eq x) xs) (repeats xs) f).1 i j (omega arith) (omega arith) same)
