-- The steps of the loops: over the digits of a case number, over names, and over the literals of a row.
use Rattle.std.proofs.Common.{◌≡◌, ℕ, suc, ◌+◌, ◌-◌, ◌/◌, ◌%◌, ◌<◌, ◌≤◌, Bool, cond, ◌&&◌, eqb, leb, List, ◌∷◌, ◌++◌, length, get_or, take, drop, filter, ap, arith}
use Rattle.std.proofs.lemmas.List.{length-append, length-map, length-take, at_drop_more}
use Rattle.literals.specs.declared.Literal.{Literal}
use Rattle.literals.specs.State.{under, chosen}
use Rattle.atoms.specs.Pattern.{Pattern}
use Rattle.atoms.specs.Fire.{Transition}
use Rattle.atoms.specs.Range.{RuleIn, RowIn}
use Rattle.std.proofs.lemmas.List.Sums.{length-filter, count_by-le-length}
use Rattle.predecessor.specs.Proper.{digits, proper}
use Rattle.predecessor.specs.Earlier.{kept}

-- What is left to write, one digit on.
pub next_digit : (base k i rest : ℕ) → i < k → digits base (k - i) rest ≡ rest % base ∷ digits base (k - (i + 1)) (rest / base)
next_digit base k i rest h = let one : k - i ≡ suc (k - (i + 1)) = omega arith in ap (λ (j : ℕ). digits base j rest) one

-- One name more is looked at.
pub proper_step : (next : ℕ) (names : List ℕ) (i : ℕ) → i < length names → proper next (drop i names) ≡ (leb (get_or names i 0) next && proper (cond (eqb (get_or names i 0) next) (suc next) next) (drop (i + 1) names))
proper_step next names i h = at_drop_more (proper next) names i 0 h

length-filter-le : {X : Type 0} (p : X → Bool) (xs : List X) → length (filter p xs) ≤ length xs
length-filter-le p xs = rw (length-filter p xs) (count_by-le-length p xs)

-- While there are literals of the row to look at, the earlier pattern is not full.
pub not_full : (rule : Transition) (row : Pattern) → RuleIn rule → RowIn row → (names : List ℕ) (i : ℕ) → i < length row.literals → length (chosen names rule.condition ++ kept (chosen names rule.effect) (take i row.literals)) < 28
not_full rule row rule_in row_in names i h =
    let stay : List Literal = kept (chosen names rule.effect) (take i row.literals) in
    let some : length stay ≤ length (take i row.literals) = length-filter-le _ (take i row.literals) in
    omega (arith, some, length-map rule.condition (under (λ x. get_or names x 0)), length-append (chosen names rule.condition) stay, length-take i row.literals, rule_in.condition_short, row_in.literals_short)
