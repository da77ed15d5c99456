-- The observers of a dossier in range are observers of its book.
use Rattle.std.proofs.Common.{ℕ, suc, ◌*◌, ◌^◌, ◌<◌, ◌≤◌, Bool, true, false, cond, ◌&&◌, ltb, List, [], ◌∷◌, length, arith}
use Rattle.std.proofs.ByRecursion.{All-get_or}
use Rattle.pattern.specs.Meaning.{Meaning}
use Rattle.pattern.specs.Duty.{most_cases}
use Rattle.counts.specs.Counted.{CountedBook, counted_meaning}
use Rattle.observer.specs.declared.Mode.TheVariants.{Zero}
use Rattle.observer.specs.Mode.{mode_count}
use Rattle.observer.specs.Observed.{observed, InRange, row_at, cases_below}
use Rattle.drafting.specs.Progress.{Layer}
use Rattle.reader.specs.Dossier.{LayerIn, LayersIn, BookIn}
use Rattle.atoms.specs.Book.{AtomsBook}
use Rattle.atoms.specs.Range as atoms
use Rattle.predecessor.specs.Kind.{atoms_meaning}
use Rattle.predecessor.specs.Limits.{few_cases}
use Rattle.drafting.specs.Book.{Book, counted, atomic, rule_count, row_count}
use Rattle.pile.specs.Pile.{over, PileIn}
use Rattle.dossier.specs.Building.{ObserversIn}

at_most : (b : Bool) (n c : ℕ) → n ≤ c → cond b n 0 ≤ c
at_most true n c h = h
at_most false n c h = omega arith

module _ {S B : Type 0} (m : Meaning S) (b : B) (l : Layer) (c : ℕ) (few : (row rule : ℕ) → m.cases row rule ≤ c) where
  observer_in : mode_count * c ≤ most_cases → LayerIn m.rules m.rows l → InRange m (over b l)
  observer_in small h = (
    h.0,
    h.1,
    λ row a. All-get_or (λ r. r.below < m.rows) l.rows row (record { below = 0; mode = Zero }) a h.2,
    λ row _ rule _. omega (arith, few (row_at m (over b l) row).below rule),
  )

  grown : (row rule : ℕ) → (observed m (over b l)).cases row rule ≤ mode_count * c
  grown row rule = at_most (ltb row (length l.rows) && ltb rule m.rules) (mode_count * cases_below m (over b l) row rule) (mode_count * c) (omega (arith, few (row_at m (over b l) row).below rule))

-- Up to two observers over a book of few cases.
pile_in : {S B : Type 0} (m : Meaning S) (b : B) (c : ℕ) (ls : List Layer) → ((row rule : ℕ) → m.cases row rule ≤ c) → mode_count * (mode_count * c) ≤ most_cases → length ls ≤ 2 → LayersIn m.rules m.rows ls → PileIn m b ls
pile_in m b c [] few small two h = tt
pile_in m b c (l ∷ []) few small two h = (observer_in m b l c few (omega arith) h.0, tt)
pile_in m b c (l ∷ n ∷ []) few small two h = (observer_in m b l c few (omega arith) h.0, (observer_in (observed m (over b l)) (over b l) n (mode_count * c) (grown m b l c few) small h.1.0, tt))
pile_in m b c (l ∷ n ∷ o ∷ ls) few small two h = absurd (let long : suc (suc (suc (length ls))) ≤ 2 = two in omega arith)

-- Over a counted book, which has one case for each row and rule.
counted_pile_in : (b : CountedBook) (ls : List Layer) → length ls ≤ 2 → LayersIn (length b.rules) (length b.rows) ls → PileIn (counted_meaning b) b ls
counted_pile_in b ls two h = pile_in (counted_meaning b) b 1 ls (λ row rule. at_most (ltb row (length b.rows) && ltb rule (length b.rules)) 1 1 (omega arith)) (omega arith) two h

-- Over a book of atoms, whose rules and rows have at most 9 ^ 4 cases.
atoms_pile_in : (b : AtomsBook) (ls : List Layer) → atoms.InRange b → length ls ≤ 2 → LayersIn (length b.rules) (length b.rows) ls → PileIn (atoms_meaning b) b ls
atoms_pile_in b ls r two h = pile_in (atoms_meaning b) b (9 ^ 4) ls (few_cases b r) (omega arith) two h

pub observers_in : (k : Book) (ls : List Layer) → BookIn k → length ls ≤ 2 → LayersIn (rule_count k) (row_count k) ls → ObserversIn k ls
observers_in (counted b) ls r two h = counted_pile_in b ls two h
observers_in (atomic b) ls r two h = atoms_pile_in b ls r two h
