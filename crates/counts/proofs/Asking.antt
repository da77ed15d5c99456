-- The answers on a case that there is, by the row and the rule that are read for it.
use Rattle.std.proofs.Common.{◌≡◌, ℕ, ◌<◌, Bool, cond, ◌&&◌, eqb, ltb, List, length, Some, None, Decides, Option, ap, ◌∙◌}
use Rattle.std.proofs.lemmas.Bool.{and_from, lt-ltb, eq-eqb, cond-true}
use Rattle.std.proofs.lemmas.Bool.Decides.{same_from_decides}
use Rattle.pattern.specs.declared.Case.{Case}
use Rattle.pattern.specs.declared.Sort.{Sort}
use Rattle.pattern.specs.declared.Sort.TheVariants.{Idle, Own, Open}
use Rattle.pattern.specs.declared.Covering.{Covering}
use Rattle.pattern.specs.declared.Covering.TheVariants.{Malformed, Covers, DoesNotCover}
use Rattle.counts.specs.Net.{tally, ◌⊑◌, earlier}
use Rattle.counts.specs.Counted.{Transition, CountedBook, rule_at, row_at, earlier_of, Exists, exists, covers, sort_of, covering_of}
use Rattle.counts.specs.Patterns.{decides_at_most}
use Rattle.counts.specs.Duty.{decides_exists}

module _ (b : CountedBook) (c : Case) (there : Exists b c) (row : List ℕ) (rule : Transition) (row_is : row ≡ row_at b c.row) (rule_is : rule ≡ rule_at b c.rule) where
  pattern_is : earlier (tally rule.takes) (tally rule.gives) (tally row) ≡ earlier_of b c
  pattern_is = rw (row_is, rule_is)

  pub earlier_there : (place : ℕ) → cond (exists b c) (Some (earlier_of b c place)) None ≡ Some (earlier (tally rule.takes) (tally rule.gives) (tally row) place)
  earlier_there place = cond-true {A = Option ℕ} (exists b c) (Some (earlier_of b c place)) None ((decides_exists b c).1 there) ∙ rw (row_is, rule_is)

  module _ (named : ℕ) (least : List ℕ) (least-is : least ≡ row_at b named) (r : Bool) (says : Decides r (tally least ⊑ earlier (tally rule.takes) (tally rule.gives) (tally row))) where
    covers_is : covers b c named ≡ r
    covers_is = same_from_decides (covers b c named) r (decides_at_most (row_at b named) (earlier_of b c)) (rw (least-is, row_is, rule_is) at says)

    pub covering_there : (matching : List ℕ) → named < length b.rows → length matching ≡ 0 → covering_of b c named matching ≡ cond r Covers DoesNotCover
    covering_there matching h e =
        cond-true {A = Covering} (exists b c && ltb named (length b.rows) && eqb (length matching) 0) (cond (covers b c named) Covers DoesNotCover) Malformed
        (and_from _ _ (and_from _ _ ((decides_exists b c).1 there) (lt-ltb named (length b.rows) h)) (eq-eqb (length matching) 0 e))
        ∙ ap (λ (x : Bool). cond x Covers DoesNotCover) covers_is

  pub sort_there : (r : Bool) → Decides r (tally row ⊑ earlier (tally rule.takes) (tally rule.gives) (tally row)) → sort_of b c ≡ cond r Own Open
  sort_there r says =
      cond-true {A = Sort} (exists b c) (cond (covers b c c.row) Own Open) Idle ((decides_exists b c).1 there)
      ∙ ap (λ (x : Bool). cond x Own Open) (covers_is c.row row row_is r says)
