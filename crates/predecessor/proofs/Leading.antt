-- Going on from an earlier state: where the effect settles every literal of the row, the rule leads into it.
use Rattle.std.proofs.Common.{◌≡◌, ℕ, true, false, not, ◌||◌, List, map, sym, refl, ap, ◌∙◌, subst, inl, inr, arith}
use Rattle.std.specs.List.{AllByRecursion, list_any}
use Rattle.std.proofs.lemmas.Bool.{not-true, not_from_false, or_cases, or_parts, or_from, and_right, both_ways, cases_Bool}
use Rattle.std.proofs.lemmas.List.{map-append, length-map}
use Rattle.std.proofs.ByRecursion.{All-map}
use Rattle.literals.specs.declared.Literal.{Literal}
use Rattle.literals.specs.State.{State, Holds, AllHold, under, chosen}
use Rattle.literals.specs.Follow.{denial, contradictory}
use Rattle.literals.proofs.Listing.{each_passes, each_fails, all_from_both, all_unmapped, all_parts, all_unfiltered}
use Rattle.literals.proofs.Renaming.{follows_kept}
use Rattle.pattern.specs.declared.Case.{Case}
use Rattle.atoms.specs.Pattern.{Pattern, StandsIn}
use Rattle.atoms.specs.Fire.{Transition, after, fires}
use Rattle.atoms.specs.Book.{AtomsBook, rule_at, row_at}
use Rattle.atoms.specs.Range.{LiteralIn, RuleIn, RowIn, InRange}
use Rattle.predecessor.specs.Proper.{proper}
use Rattle.predecessor.specs.Earlier.{made_true, made_false, loosened, thins, kept, case_variables, renaming, ruled_out, effect_in_case, earlier, idle}
use Rattle.predecessor.specs.Exact.{settles, settled, Exact, ExactOf}
use Rattle.predecessor.specs.Injective.{follows_under, contradictory_under, thins_under}
use Rattle.predecessor.specs.Firing.{holds_after, made_true_holds}
use Rattle.predecessor.specs.Numbering.{length_digits}
use Rattle.predecessor.specs.Ranges.{rule_in_range, row_in_range}
use Rattle.predecessor.specs.Stepping.{by_way, effect_within, row_within, affirms_atoms}

module _ (rule : Transition) (row : Pattern) (n : ℕ) (rule_in : RuleIn rule) (row_in : RowIn row) (busy : idle rule row n ≡ false) where
  abbrev effect : List Literal
  effect = effect_in_case rule row n

  -- what a case that is not idle is not
  named : (contradictory effect || list_any (made_false effect) row.literals) ≡ false
  named = (or_parts (not (proper row.variables (renaming rule row n))) _ (or_parts (ruled_out rule row (renaming rule row n)) (contradictory (earlier rule row n).literals) busy).0).1

  fair : contradictory effect ≡ false
  fair = (or_parts (contradictory effect) _ named).0

  none_false : AllByRecursion (λ l. made_false effect l ≡ false) row.literals
  none_false = each_fails (made_false effect) row.literals (or_parts (contradictory effect) _ named).1

  module _ (s : State) (stands : StandsIn (earlier rule row n) s) where
    abbrev ground : List Literal
    ground = map (under stands.place) effect

    ground_fair : contradictory ground ≡ false
    ground_fair = contradictory_under (case_variables rule row) stands.place stands.different effect (effect_within rule row rule_in row_in n) ∙ fair

    held : AllHold s (map (under stands.place) (chosen (renaming rule row n) rule.condition)) × AllHold s (map (under stands.place) (kept effect row.literals))
    held = all_parts (Holds s) _ _ (rw (map-append (under stands.place) (chosen (renaming rule row n) rule.condition) (kept effect row.literals)) at stands.all_hold)

    -- a literal of the row: made true, or held before and left alone
    one_holds : (l : Literal) → (not (made_true effect l || loosened effect l) ≡ true → Holds s (under stands.place l)) → LiteralIn (case_variables rule row) l × (made_false effect l ≡ false) × (settles effect l ≡ true) → Holds (after ground s) (under stands.place l)
    one_holds l before w = elim (cases_Bool (made_true effect l)) [
      | inl t ↦ made_true_holds ground s (affirms_atoms rule row rule_in row_in n stands.place) ground_fair (under stands.place l) (follows_kept stands.place effect l t)
      | inr f ↦ elim (or_cases (made_true effect l) (not (thins effect l.fact)) w.2) [
        | inl t ↦ absurd (both_ways (made_true effect l) f t)
        | inr k ↦
            let full : thins effect l.fact ≡ false = not-true (thins effect l.fact) k in
            holds_after ground s (under stands.place l)
            (before (not_from_false _ (or_from (made_true effect l) (loosened effect l) f (and_right (not l.affirmed) (thins effect l.fact) full))))
            (follows_under (case_variables rule row) stands.place stands.different effect (denial l) (effect_within rule row rule_in row_in n) w.0 ∙ w.1)
            (thins_under (case_variables rule row) stands.place stands.different effect l.fact (effect_within rule row rule_in row_in n) w.0 ∙ full)
      ]
    ]

    row_stands : settled rule row n ≡ true → AllHold (after ground s) (map (under stands.place) row.literals)
    row_stands e =
        let before = all_unfiltered (λ l. not (made_true effect l || loosened effect l)) (λ l. Holds s (under stands.place l)) row.literals (all_unmapped (Holds s) (under stands.place) (kept effect row.literals) held.1) in
        let sure = all_from_both (λ l. made_false effect l ≡ false) (λ l. settles effect l ≡ true) (λ l. (made_false effect l ≡ false) × (settles effect l ≡ true)) (λ l p q. (p, q)) row.literals none_false (each_passes (settles effect) row.literals e) in
        let all = all_from_both (LiteralIn (case_variables rule row)) (λ l. (made_false effect l ≡ false) × (settles effect l ≡ true)) (λ l. LiteralIn (case_variables rule row) l × (made_false effect l ≡ false) × (settles effect l ≡ true)) (λ l p q. (p, q.0, q.1)) row.literals (row_within rule row rule_in row_in) sure in
        All-map (Holds (after ground s)) (under stands.place) row.literals
        (all_from_both (λ l. not (made_true effect l || loosened effect l) ≡ true → Holds s (under stands.place l)) (λ l. LiteralIn (case_variables rule row) l × (made_false effect l ≡ false) × (settles effect l ≡ true)) (λ l. Holds (after ground s) (under stands.place l)) one_holds row.literals before all)

  pub exact : settled rule row n ≡ true → Exact rule row n
  exact e s stands =
      let choice : List ℕ = map stands.place (renaming rule row n) in
      let digits_long = length_digits (case_variables rule row) rule.variables n in
      let effect_is : map (under stands.place) effect ≡ chosen choice rule.effect = by_way rule.variables (renaming rule row n) choice stands.place digits_long refl rule.effect rule_in.effect_in in
      let condition-is = by_way rule.variables (renaming rule row n) choice stands.place digits_long refl rule.condition rule_in.condition_in in (
        choice,
        after (map (under stands.place) effect) s,
        fires (length-map (renaming rule row n) stands.place ∙ digits_long) (subst (AllHold s) condition-is (held s stands).0) (ap contradictory (sym effect_is) ∙ ground_fair s stands) (ap (λ (ls : List Literal). after ls s) effect_is),
        record { place = stands.place; different = λ i j h k. stands.different i j (omega arith) (omega arith); all_hold = row_stands s stands e },
      )

-- Every case of a book in range is exact where its effect settles its row.
pub exact_of : (b : AtomsBook) → InRange b → (c : Case) → ExactOf b c
exact_of b range c e s w =
    let rule_in = rule_in_range b range c.rule w.there.rule_in in
    let row_in = row_in_range b range c.row w.there.row_in in
    let r = exact (rule_at b c.rule) (row_at b c.row) c.number rule_in row_in w.not_idle e s w.stands in
    (r.0, r.1, (w.there.rule_in, r.2), (w.there.row_in, r.3))
