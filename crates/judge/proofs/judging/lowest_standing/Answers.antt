use Rattle.std.proofs.Common.{◌≡◌, rules, ℕ, ◌<◌, ◌≤◌, Some, None, Option, MatchOption, arith}
use Rattle.std.proofs.lemmas.Iterator.{first_from_Range}
use borrow.Author.Tests.{tests}
use Rattle.pattern.specs.Meaning.{Meaning}
use Rattle.judge.specs.Acceptance.{LowestStanding}
use Rattle.judge.proofs.judging.lowest_standing.Goals as goal

-- The first of these numbers at which the row stands is the lowest.
lowest : {S : Type 0} (m : Meaning S) (n : ℕ) (r : Option ℕ) → n ≡ m.rows → MatchOption r ((k : ℕ) → 0 ≤ k → k < n → m.Stands k m.opening → ⊥) (λ i. (0 ≤ i) × (i < n) × m.Stands i m.opening × ((k : ℕ) → 0 ≤ k → k < i → m.Stands k m.opening → ⊥)) → LowestStanding m r
lowest m n None e w = λ row h. w row (omega arith) (omega arith)
lowest m n (Some i) e w = (omega (arith, w.1), λ k h. w.3 k (omega arith) h, w.2)

pub returns : goal.returns
returns g c =
    let k = g.K.PatternKind in
    let m = k.meaning (k.book c.args.kind.now) in
    let Stands : ℕ → Type 0 = λ row. m.Stands row m.opening in
    lowest m c.rows.result c.find.result c.rows.ensures (first_from_Range _ _ _ _ Stands (λ row. Stands row → ⊥) c.find.ensures.ran (λ x q w. search (rules, tests)) (λ x q w. search (rules, tests)))
