use Rattle.std.proofs.Common.{◌≡◌, ℕ, ◌+◌, List, [], ◌∷◌, ◌++◌, ◌-◌, length, sym, ap, ◌∙◌, subst, arith, rules}
use Rattle.std.proofs.lemmas.Bool.Decides.{not_from_Decides}
use Rattle.arrayvec.specs.ArrayVec.{ArrayVec}
use Rattle.atoms.specs.Pattern.{Pattern}
use Rattle.literals.specs.State.{State}
use Rattle.atoms.specs.Data.{pattern_of}
use Rattle.atoms.specs.Cells.{state_of}
use Rattle.atoms.specs.Placing.{at, due, Placed, Extends, candidate}
use Rattle.atoms.proofs.Steps.{fits_of, of_fits, one_more, placed_more, extends_more, fits_here, fits_there, not_here, taken_off, none_more}
use Rattle.atoms.proofs.book.Row.+place.Goals as goal
use Rattle.atoms.proofs.book.Row.+place.Goals.{else-fits-via-then-fits+else-place, else-fits-via-else-fits}

pub place-requires : goal.place-requires
place-requires t c =
    let p = pattern_of c.args.self.now in
    let s = state_of c.args.cells.now in
    let before = c.args.placed.now.items in
    let v = c.candidate.result in
    let put : c.set_last.new.placed.items ≡ before ++ v ∷ [] = c.set_last.ensures before c.loop-k.invariant.same.0 c.loop-k.invariant.same.1 in
    let xs : List ℕ = c.deref.result.now in
    let last : ℕ = length xs - 1 in
    let all_due : c.deref-in-loop-k.result.now ≡ due last p.literals = c.deref-in-loop-k.ensures.0 ∙ c.find_due.ensures ∙ ap (λ (i : ℕ). due i p.literals) (omega (arith, c.len-next.ensures.value, ap length (c.deref.ensures.0 ∙ put), one_more before v)) in
    let longer : length c.set_last.new.placed.items ≡ length before + 1 = ap length put ∙ one_more before v in (
      search (rules, longer),
      (
        omega (arith, longer),
        (
          search rules,
          (
            search rules,
            subst (Placed p s) (sym put) (placed_more before v p s c.requires.so_far (fits_here before v p s xs (c.deref.ensures.0 ∙ put) (fits_of s (at xs) last p c.deref-in-loop-k.result.now all_due (c.fits.ensures.0 c.if-fits.true)))),
          ),
        ),
      ),
    )

pub loop-k-preserved : goal.loop-k-preserved
loop-k-preserved t c =
    let p : Pattern = pattern_of c.args.self.now in
    let s : State = state_of c.args.cells.now in
    let before : List ℕ = c.args.placed.now.items in
    let next : ℕ = c.len-next.result in
    let v : ℕ = c.candidate.result in
    let put : c.set_last.new.placed.items ≡ before ++ v ∷ [] = c.set_last.ensures before c.loop-k.invariant.same.0 c.loop-k.invariant.same.1 in
    let xs : List ℕ = c.deref.result.now in
    let last : ℕ = length xs - 1 in
    let all_due : c.deref-in-loop-k.result.now ≡ due last p.literals = c.deref-in-loop-k.ensures.0 ∙ c.find_due.ensures ∙ ap (λ (i : ℕ). due i p.literals) (omega (arith, c.len-next.ensures.value, ap length (c.deref.ensures.0 ∙ put), one_more before v)) in
    let value : (f : ℕ → ℕ) → f next ≡ candidate next c.loop-k.k → f (length before) ≡ v = λ f here. ap f (sym c.len-next.ensures.value) ∙ here ∙ sym c.candidate.ensures in
    elim c.else-fits.branch [
      | else-fits-via-then-fits+else-place w ↦ record {
        same = (v, ap (λ (x : ArrayVec ℕ). x.items) w.placed-is ∙ w.if-place.ensures.1 ∙ put);
        none = λ f x tried placed. none_more (λ k. f next ≡ candidate next k) c.loop-k.k (c.loop-k.invariant.none f x tried placed)
            (λ here. w.if-place.ensures.0 f (subst (λ (xs : List ℕ). Extends xs f) (sym put) (extends_more before v f x (value f here))) tried placed);
      }
      | else-fits-via-else-fits w ↦ record {
        same = (v, ap (λ (x : ArrayVec ℕ). x.items) w.placed-is ∙ put);
        none = λ f x tried placed. none_more (λ k. f next ≡ candidate next k) c.loop-k.k (c.loop-k.invariant.none f x tried placed)
            (λ here. not_here before v p s c.args.self.now.variables f (omega arith) (λ fits. not_from_Decides c.fits.result c.fits.ensures w.if-fits.false (of_fits s (at xs) last p c.deref-in-loop-k.result.now all_due (fits_there before v p s xs (c.deref.ensures.0 ∙ put) fits))) x placed (value f here));
      }
    ]

pub returns : goal.returns
returns t c = (
  λ f x tried placed. let k = tried c.len-next.result (omega arith) in c.loop-k.invariant.none f x tried placed k.0 (omega (arith, k.1)) k.2,
  taken_off c.args.placed.now.items c.loop-k.placed.items c.pop.new.self.items c.loop-k.invariant.same.0 c.loop-k.invariant.same.1 c.pop.ensures.rest,
)
