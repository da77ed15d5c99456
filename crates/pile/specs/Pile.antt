-- A kind under some observers, one over the other: its book, what it means, and when there is one.
use Rattle.std.specs.Prelude.{◌≡◌, ◌⊎◌, List, [], ◌∷◌, Ok, Err, Result}
use Rattle.std.proofs.Common.{inl, inr}
use Rattle.pattern.specs.declared.PatternKind.{Ghosts}
use Rattle.pattern.specs.Meaning.{Meaning}
use Rattle.either_kind.specs.declared.Either.{Either}
use Rattle.either_kind.specs.Side.{either_meaning}
use Rattle.either_kind.specs.Kind.{either_of, either_kind}
use Rattle.observer.specs.declared.Mode.{Mode}
use Rattle.observer.specs.declared.Observer.{Observer}
use Rattle.observer.specs.declared.ObserverRefusal.{ObserverRefusal}
use Rattle.observer.specs.Observed.{ObservedBook, observed, InRange, RefusedBy}
use Rattle.observer.specs.Kind.{book_of, state_of, meaning_of, observed_kind}
use Rattle.drafting.specs.Progress.{Layer}

-- A book with no observer, with one, or with two.
abbrev pub PiledBook : Type 0 → Type 0
PiledBook B = B ⊎ (ObservedBook B ⊎ ObservedBook (ObservedBook B))

-- A state, with the mode of each observer.
abbrev pub PiledState : Type 0 → Type 0
PiledState S = S ⊎ ((S × Mode) ⊎ ((S × Mode) × Mode))

-- A book under one more observer.
abbrev pub over : {B : Type 0} → B → Layer → ObservedBook B
over b l = record { below = b; moves = l.moves; rows = l.rows }

-- A book under the first two of some observers, the lowest first.
abbrev pub pile_book : {B : Type 0} → B → List Layer → PiledBook B
pile_book b [] = inl b
pile_book b (l ∷ []) = inr (inl (over b l))
pile_book b (l ∷ m ∷ ls) = inr (inr (over (over b l) m))

-- What such a book means.
abbrev pub piled_meaning : {B S : Type 0} → (B → Meaning S) → PiledBook B → Meaning (PiledState S)
piled_meaning meaning = either_meaning meaning (either_meaning (meaning_of meaning) (meaning_of (meaning_of meaning)))

-- Each of the observers is one of what is below it.
abbrev pub PileIn : {B S : Type 0} → Meaning S → B → List Layer → Type 0
PileIn m b [] = Unit {0}
PileIn m b (l ∷ ls) = InRange m (over b l) × PileIn (observed m (over b l)) (over b l) ls

-- The first of the observers that is none of what is below it is refused on this ground.
abbrev pub PileRefusedBy : {B S : Type 0} → Meaning S → B → List Layer → ObserverRefusal → Type 0
PileRefusedBy m b [] e = ⊥
PileRefusedBy m b (l ∷ ls) e = RefusedBy m (over b l) e ⊎ (InRange m (over b l) × PileRefusedBy (observed m (over b l)) (over b l) ls e)

-- The members of a kind under observers.
abbrev pub Piled : {K : Type 0} → Ghosts K → Type 0
Piled {K} kind = Either K (Either (Observer K kind) (Observer (Observer K kind) (observed_kind kind)))

abbrev pub piled_kind : {K : Type 0} (kind : Ghosts K) → Ghosts (Piled kind)
piled_kind kind = either_kind kind (either_kind (observed_kind kind) (observed_kind (observed_kind kind)))

abbrev pub piled_book : {K : Type 0} {kind : Ghosts K} → Piled kind → PiledBook kind.Book
piled_book {K} {kind} = either_of kind.book (either_of book_of book_of)

abbrev pub piled_state : {K : Type 0} {kind : Ghosts K} → Piled kind → PiledState kind.State
piled_state {K} {kind} = either_of kind.state (either_of state_of state_of)

-- Putting an observer over a kind gives a kind with that book; it is refused on the first ground on which it is no observer of the kind.
abbrev pub ObservedBy : {K : Type 0} {kind : Ghosts K} → K → Layer → Result (Observer K kind) ObserverRefusal → Type 0
ObservedBy {K} {kind} k l (Ok o) = book_of o ≡ over (kind.book k) l
ObservedBy {K} {kind} k l (Err e) = RefusedBy (kind.meaning (kind.book k)) (over (kind.book k) l) e

-- The same of all observers of a dossier.
abbrev pub PiledBy : {K : Type 0} {kind : Ghosts K} → K → List Layer → Result (Piled kind) ObserverRefusal → Type 0
PiledBy {K} {kind} k ls (Ok p) = piled_book p ≡ pile_book (kind.book k) ls
PiledBy {K} {kind} k ls (Err e) = PileRefusedBy (kind.meaning (kind.book k)) (kind.book k) ls e
