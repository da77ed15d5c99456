-- Observers that are read one over the other, the topmost row by row.
use Rattle.std.proofs.Common.{◌≡◌, ℕ, ◌*◌, ◌<◌, ◌≤◌, List, [], ◌∷◌, ◌++◌, length, refl, arith}
use Rattle.std.specs.List.{AllByRecursion}
use Rattle.std.proofs.ByRecursion.{All-push}
use Rattle.std.proofs.lemmas.List.{length_push}
use Rattle.pattern.specs.Duty.{most_rows}
use Rattle.observer.specs.declared.Mode.{Mode}
use Rattle.observer.specs.declared.ObserverRow.{ObserverRow}
use Rattle.observer.specs.Mode.{mode_count}
use Rattle.drafting.specs.Progress.{Layer, top_rows, rows_below, with_observer_row}
use Rattle.reader.specs.Dossier.{LayerIn, LayersIn}

-- The topmost observer may have no rows yet.
abbrev pub Begun : ℕ → ℕ → List Layer → Type 0
Begun rules rows [] = Unit {0}
Begun rules rows (l ∷ []) = (length l.moves ≡ rules * mode_count) × (length l.rows ≤ most_rows) × AllByRecursion (λ r. r.below < rows) l.rows
Begun rules rows (l ∷ m ∷ ls) = LayerIn rules rows l × Begun rules (length l.rows) (m ∷ ls)

pub one_more_layer : (rules rows : ℕ) (ls : List Layer) (moves : List Mode) → length moves ≡ rules * mode_count → LayersIn rules rows ls → Begun rules rows (ls ++ record { moves = moves; rows = [] } ∷ [])
one_more_layer rules rows [] moves e h = (e, omega arith, tt)
one_more_layer rules rows (l ∷ []) moves e h = (h.0, (e, omega arith, tt))
one_more_layer rules rows (l ∷ m ∷ ls) moves e h = (h.0, one_more_layer rules (length l.rows) (m ∷ ls) moves e h.1)

pub begun_from_done : (rules rows : ℕ) (ls : List Layer) → LayersIn rules rows ls → Begun rules rows ls
begun_from_done rules rows [] h = tt
begun_from_done rules rows (l ∷ []) h = (h.0.0, h.0.1.1, h.0.2)
begun_from_done rules rows (l ∷ m ∷ ls) h = (h.0, begun_from_done rules (length l.rows) (m ∷ ls) h.1)

-- With one more row the topmost observer is whole.
pub one_more_row : (rules rows : ℕ) (ls : List Layer) (r : ObserverRow) → Begun rules rows ls → top_rows ls < most_rows → r.below < rows_below rows ls → LayersIn rules rows (with_observer_row ls r)
one_more_row rules rows [] r h room below = tt
one_more_row rules rows (l ∷ []) r h room below = ((h.0, (omega (arith, length_push l.rows r), omega (arith, length_push l.rows r)), All-push (λ x. x.below < rows) l.rows r h.2 below), tt)
one_more_row rules rows (l ∷ m ∷ []) r h room below = (h.0, one_more_row rules (length l.rows) (m ∷ []) r h.1 room below)
one_more_row rules rows (l ∷ m ∷ n ∷ ls) r h room below = (h.0, one_more_row rules (length l.rows) (m ∷ n ∷ ls) r h.1 room below)

pub as_many_layers : (ls : List Layer) (r : ObserverRow) → length (with_observer_row ls r) ≡ length ls
as_many_layers [] r = refl
as_many_layers (l ∷ []) r = refl
as_many_layers (l ∷ m ∷ []) r = refl
as_many_layers (l ∷ m ∷ n ∷ ls) r = rw (as_many_layers (m ∷ n ∷ ls) r)
