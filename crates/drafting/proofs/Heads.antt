-- A head whose kind of book has no such number.
use Rattle.std.proofs.Common.{◌≡◌, ℕ, false, List, get_or, sym}
use Rattle.std.proofs.lemmas.Bool.{ne_eqb, and_left, and_right, or_from}
use Rattle.records.specs.declared.BookKind.TheVariants.{Atoms, Counts}
use Rattle.records.specs.declared.RecordKind.TheVariants.{Head}
use Rattle.records.specs.Number.{NoBook}
use Rattle.drafting.specs.Progress.{Progress, ranged}

pub no_book : (g : Progress) (b : List ℕ) → NoBook (get_or b 0 0) → ranged g Head b ≡ false
no_book g b none = and_right _ _ (or_from _ _ (and_right _ _ (and_left _ _ (ne_eqb _ 1 (λ e. none Atoms (sym e))))) (and_right _ _ (and_left _ _ (ne_eqb _ 2 (λ e. none Counts (sym e))))))
