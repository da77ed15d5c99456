-- Two cases that are not exact.
use Rattle.std.proofs.Common.{ℕ, suc, true, false, ◌&&◌, eqb, List, get_or, sym, refl, ap, ◌∙◌, arith}
use Rattle.std.proofs.lemmas.Bool.{and_right, or_from, not_from_false, ne_eqb}
use Rattle.std.proofs.lemmas.Grind.{common_steps}
use Rattle.literals.specs.State.{State}
use Rattle.pattern.specs.Meaning.{to}
use Rattle.atoms.specs.Pattern.{StandsIn}
use Rattle.atoms.specs.Fire.{Next, fires}
use Rattle.predecessor.specs.Exact.{Exact, taking, without, having}

-- Every pair is there: one goes, and no object is left without.
abbrev every_pair : State
every_pair = record { unary = λ a d. false; binary = λ b d e. true }

never_without : (choice : List ℕ) (t : State) → Next taking every_pair choice (to t) → StandsIn without t → ⊥
never_without choice t (fires long met fair is) stands =
    let x : ℕ = stands.place 0 in
    let y : ℕ = get_or choice 1 0 in
    stands.all_hold.0 (suc y, ap (λ (u : State). u.binary 0 x (suc y)) is ∙ not_from_false _ (or_from _ false (and_right (eqb x (get_or choice 0 0)) (eqb (suc y) y) (ne_eqb (suc y) y (omega arith))) refl))

pub another_remains : Exact taking without 3 → ⊥
another_remains exact = let w = exact every_pair (record { place = λ x. x; different = λ i j h k e. e; all_hold = (refl, tt) }) in never_without w.0 w.1 w.2 w.3

-- One pair is there, and it goes.
abbrev one_pair : State
one_pair = record { unary = λ a d. false; binary = λ b d e. eqb b 0 && (eqb d 0 && eqb e 1) }

never_having : (choice : List ℕ) (t : State) → Next taking one_pair choice (to t) → StandsIn having t → ⊥
never_having choice t (fires long met fair is) stands =
    let x : ℕ = stands.place 0 in
    let pair = stands.all_hold.0 in
    let there = ap (λ (u : State). u.binary 0 x pair.0) (sym is) ∙ pair.1 in
    grind (arith, common_steps, there, met.0)

pub last_goes : Exact taking having 3 → ⊥
last_goes exact = let w = exact one_pair (record { place = λ x. x; different = λ i j h k e. e; all_hold = (refl, ((1, refl), tt)) }) in never_having w.0 w.1 w.2 w.3
