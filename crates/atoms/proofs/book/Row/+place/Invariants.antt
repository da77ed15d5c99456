use Rattle.std.proofs.Common.{◌≡◌, ℕ, ◌-◌, ◌<◌, [], ◌∷◌, ◌++◌, length}
use Rattle.atoms.specs.Data.{pattern_of}
use Rattle.atoms.specs.Cells.{state_of}
use Rattle.atoms.specs.Placing.{FirstFit, Tried, Extends, candidate}
use Rattle.atoms.proofs.book.Row.+place.Given as goal

abbrev pub decreases-place : goal.decreases-place
decreases-place l = l.self.now.variables - length l.placed.now.items

abbrev pub invariant-loop-k : goal.invariant-loop-k
invariant-loop-k l = record {
  same : (x : ℕ) × (l.placed.items ≡ l.fn.placed.items ++ x ∷ []);
  none : (place : ℕ → ℕ) → Extends l.fn.placed.items place → Tried l.self.variables place → FirstFit (pattern_of l.self) (state_of l.cells) l.self.variables place → (k : ℕ) → k < l.k → place l.next ≡ candidate l.next k → ⊥;
}
