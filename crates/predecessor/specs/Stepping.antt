-- Steps backwards: where a rule leads into a row, the earlier pattern of a case stands before.
use Rattle.std.specs.Prelude.{◌≡◌, ℕ, ◌^◌, ◌<◌, Bool, true, false, not, ◌||◌, List, map, length, ◌≢◌, slice_index}
use Rattle.std.proofs.Common.{sym, ap, subst, ◌∙◌, arith}
use Rattle.std.specs.List.{AllByRecursion, list_any}
use Rattle.std.proofs.lemmas.Bool.{not-true, not_from_true, or_parts, or_from}
use Rattle.std.proofs.lemmas.List.{map-append, get_or-map}
use Rattle.std.proofs.ByRecursion.{All-weaker, All-append, All-map, all_kept_by, kept_by_passes}
use Rattle.literals.specs.declared.Literal.{Literal}
use Rattle.literals.specs.State.{State, Holds, AllHold, under, chosen}
use Rattle.literals.specs.Follow.{denial, contradictory}
use Rattle.literals.proofs.Failing.{fails, fails_so}
use Rattle.literals.proofs.Listing.{none_passes, all_from_both, all_unmapped}
use Rattle.literals.proofs.Following.{sound}
use Rattle.literals.proofs.Renaming.{map_under_again, follows_kept, contradictory_kept}
use Rattle.atoms.specs.Pattern.{Pattern, Different, StandsIn}
use Rattle.atoms.specs.Fire.{Transition, after}
use Rattle.atoms.specs.Range.{LiteralIn, EffectIn, RuleIn, RowIn}
use Rattle.predecessor.specs.Proper.{digits, proper}
use Rattle.predecessor.specs.Earlier.{made_true, made_false, loosened, kept, case_variables, case_count, renaming, ruled_out, effect_in_case, earlier, idle}
use Rattle.predecessor.specs.Injective.{agreeing, follows_under, loosened_under}
use Rattle.predecessor.specs.Firing.{held_before, made_false_fails}
use Rattle.predecessor.specs.Ranges.{in_more, chosen_in, effect_in_under}
use Rattle.predecessor.specs.Numbering.{number_of, digits_of_number, number_below, length_digits, digits_below}
use Rattle.predecessor.specs.Placing.{take}

-- Literals with a choice for their variables, by way of the variables that the chosen objects are.
pub by_way : (n : ℕ) (xs choice : List ℕ) (place : ℕ → ℕ) → length xs ≡ n → map place xs ≡ choice → (ls : List Literal) → AllByRecursion (LiteralIn n) ls → map (under place) (chosen xs ls) ≡ chosen choice ls
by_way n xs choice place e is ls h =
    map_under_again place (λ x. slice_index xs x) ls
    ∙ agreeing n (λ x. place (slice_index xs x)) (λ x. slice_index choice x) (λ x l. sym (get_or-map place xs x 0 0 (omega arith)) ∙ ap (λ (ys : List ℕ). slice_index ys x) is) ls h

-- Of the literals that hold after an effect, renamed, those that stay held before.
module _ (n : ℕ) (place : ℕ → ℕ) (different : Different n place) (effect : List Literal) (effect_in : AllByRecursion (LiteralIn n) effect) (s : State) where
  abbrev ground : List Literal
  ground = map (under place) effect

  one_held : (l : Literal) → LiteralIn n l × Holds (after ground s) (under place l) → not (made_true effect l || loosened effect l) ≡ true → Holds s (under place l)
  one_held l h e =
      let w = or_parts (made_true effect l) (loosened effect l) (not-true (made_true effect l || loosened effect l) e) in
      held_before ground s (under place l) h.1 (follows_under n place different effect l effect_in h.0 ∙ w.0) (loosened_under n place different effect l effect_in h.0 ∙ w.1)

  pub kept_held : (ls : List Literal) → AllByRecursion (LiteralIn n) ls → AllHold (after ground s) (map (under place) ls) → AllHold s (map (under place) (kept effect ls))
  kept_held ls hs held =
      let stays : Literal → Bool = λ l. not (made_true effect l || loosened effect l) in
      let both = all_from_both (LiteralIn n) (λ l. Holds (after ground s) (under place l)) (λ l. LiteralIn n l × Holds (after ground s) (under place l)) (λ l p q. (p, q)) ls hs (all_unmapped (Holds (after ground s)) (under place) ls held) in
      All-map (Holds s) (under place) (kept effect ls)
      (all_from_both (λ l. LiteralIn n l × Holds (after ground s) (under place l)) (λ l. stays l ≡ true) (λ l. Holds s (under place l)) one_held (kept effect ls)
      (all_kept_by stays (λ l. LiteralIn n l × Holds (after ground s) (under place l)) ls both)
      (kept_by_passes stays ls))

module _ (rule : Transition) (row : Pattern) (rule_in : RuleIn rule) (row_in : RowIn row) where
  -- the effect and the row's literals, over the variables of a case
  pub effect_within : (n : ℕ) → AllByRecursion (LiteralIn (case_variables rule row)) (effect_in_case rule row n)
  effect_within n = chosen_in rule.variables (case_variables rule row) (renaming rule row n) (length_digits (case_variables rule row) rule.variables n) (digits_below (case_variables rule row) rule.variables n (omega arith)) rule.effect rule_in.effect_in

  pub row_within : AllByRecursion (LiteralIn (case_variables rule row)) row.literals
  row_within = in_more row.variables (case_variables rule row) (omega arith) row.literals row_in.literals_in

  pub affirms_atoms : (n : ℕ) (place : ℕ → ℕ) → AllByRecursion EffectIn (map (under place) (effect_in_case rule row n))
  affirms_atoms n place = effect_in_under place (effect_in_case rule row n) (effect_in_under (λ x. slice_index (renaming rule row n) x) rule.effect rule_in.effective)

  module _ (n : ℕ) (place : ℕ → ℕ) (s : State) (different : Different (case_variables rule row) place) where
    abbrev effect : List Literal
    effect = effect_in_case rule row n

    abbrev before : List Literal
    before = (earlier rule row n).literals

    -- A case under a placement: if its effect is fair, its condition held and the row stands after it, then it is not idle, and its earlier pattern stood.
    module _
        (in_order : proper row.variables (renaming rule row n) ≡ true)
        (fair : contradictory (map (under place) effect) ≡ false)
        (met : AllHold s (map (under place) (chosen (renaming rule row n) rule.condition)))
        (stands : AllHold (after (map (under place) effect) s) (map (under place) row.literals))
      where
        stood : AllHold s (map (under place) before)
        stood = rw (map-append (under place) (chosen (renaming rule row n) rule.condition) (kept effect row.literals)) (All-append (Holds s) _ _ met (kept_held (case_variables rule row) place different effect (effect_within n) s row.literals row_within stands))

        none_false : list_any (made_false effect) row.literals ≡ false
        none_false = none_passes (made_false effect) row.literals (All-weaker (λ l. Holds (after (map (under place) effect) s) (under place l)) (λ l. made_false effect l ≢ true) (λ l h e. made_false_fails (map (under place) effect) s (affirms_atoms n place) fair (under place l) (follows_kept place effect (denial l) e) h) row.literals (all_unmapped (Holds (after (map (under place) effect) s)) (under place) row.literals stands))

        pub not_idle : idle rule row n ≡ false
        not_idle =
            or_from (ruled_out rule row (renaming rule row n)) (contradictory before)
            (or_from (not (proper row.variables (renaming rule row n))) _ (not_from_true _ in_order)
            (or_from (contradictory effect) (list_any (made_false effect) row.literals) (fails _ _ (contradictory_kept place effect) fair) none_false))
            (fails_so (contradictory before) (λ e. (sound (map (under place) before)).contradictory_nowhere s (contradictory_kept place before e) stood))

        pub pattern_stood : StandsIn (earlier rule row n) s
        pattern_stood = record { place = place; different = different; all_hold = stood }

  -- Where the rule, under a choice, leads from s into the row, s is an earlier state of the case whose digits are the variables that the chosen objects are.
  pub stepped : (s : State) (choice : List ℕ) → length choice ≡ rule.variables → AllHold s (chosen choice rule.condition) → contradictory (chosen choice rule.effect) ≡ false → StandsIn row (after (chosen choice rule.effect) s)
      → (n : ℕ) × (n < case_count rule row) × (idle rule row n ≡ false) × StandsIn (earlier rule row n) s
  stepped s choice long met fair stands =
      let base : ℕ = case_variables rule row in
      let r = take row.variables base stands.place choice (omega arith) stands.different in
      let n : ℕ = number_of base r.taken in
      let is : renaming rule row n ≡ r.taken = subst (λ (k : ℕ). digits base k n ≡ r.taken) (r.as_many ∙ long) (digits_of_number base r.taken r.each_below) in
      let back : map r.place (renaming rule row n) ≡ choice = ap (map r.place) is ∙ r.given_back in
      let effect_is : map (under r.place) (effect_in_case rule row n) ≡ chosen choice rule.effect = by_way rule.variables (renaming rule row n) choice r.place (length_digits base rule.variables n) back rule.effect rule_in.effect_in in
      let ordered : proper row.variables (renaming rule row n) ≡ true = ap (proper row.variables) is ∙ r.in_order in
      let fair' : contradictory (map (under r.place) (effect_in_case rule row n)) ≡ false = ap contradictory effect_is ∙ fair in
      let met' : AllHold s (map (under r.place) (chosen (renaming rule row n) rule.condition)) = subst (AllHold s) (sym (by_way rule.variables (renaming rule row n) choice r.place (length_digits base rule.variables n) back rule.condition rule_in.condition_in)) met in
      let stands' : AllHold (after (map (under r.place) (effect_in_case rule row n)) s) (map (under r.place) row.literals) =
      subst (λ (e : List Literal). AllHold (after e s) (map (under r.place) row.literals)) (sym effect_is)
      (subst (AllHold (after (chosen choice rule.effect) s)) (sym (agreeing row.variables r.place stands.place r.stays row.literals row_in.literals_in)) stands.all_hold) in (
        n,
        subst (λ (k : ℕ). n < base ^ k) (r.as_many ∙ long) (number_below base r.taken r.each_below),
        not_idle n r.place s r.different ordered fair' met' stands',
        pattern_stood n r.place s r.different ordered fair' met' stands',
      )
