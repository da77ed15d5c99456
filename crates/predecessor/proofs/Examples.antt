-- A small book, computed: clients ask for a lock that is free and unasked for, and then hold it. No lock is held by two.
use Rattle.std.proofs.Common.{◌≡◌, true, false, [], ◌∷◌, refl}
use Rattle.literals.specs.declared.Fact.TheVariants.{Binary, Into}
use Rattle.pattern.specs.declared.Sort.TheVariants.{Idle, Own, Open}
use Rattle.pattern.specs.declared.Covering.TheVariants.{Malformed, Covers, DoesNotCover}
use Rattle.atoms.specs.Book.{AtomsBook}
use Rattle.predecessor.specs.Earlier.{earlier}
use Rattle.predecessor.specs.Kind.{sort_of, covering_of, earlier_of}
use Rattle.predecessor.specs.Exact.{taking, without}

-- Relation 0: a client holds a lock. Relation 1: it has asked for it.
unfoldable locks : AtomsBook
locks = record {
  opening = [];
  rules = record { variables = 2; condition = record { fact = Into 0 1; affirmed = false } ∷ record { fact = Into 1 1; affirmed = false } ∷ []; effect = record { fact = Binary 1 0 1; affirmed = true } ∷ [] }
      ∷ record { variables = 2; condition = record { fact = Binary 1 0 1; affirmed = true } ∷ []; effect = record { fact = Binary 1 0 1; affirmed = false } ∷ record { fact = Binary 0 0 1; affirmed = true } ∷ [] } ∷ [];
  rows = record { variables = 3; literals = record { fact = Binary 0 0 2; affirmed = true } ∷ record { fact = Binary 0 1 2; affirmed = true } ∷ [] }
      ∷ record { variables = 3; literals = record { fact = Binary 1 0 2; affirmed = true } ∷ record { fact = Binary 0 1 2; affirmed = true } ∷ [] }
      ∷ record { variables = 3; literals = record { fact = Binary 1 0 2; affirmed = true } ∷ record { fact = Binary 1 1 2; affirmed = true } ∷ [] } ∷ [];
}

-- Client 0 asks for lock 2, and client 1 has asked for it: the rule would have needed that no one has.
asking_idle : sort_of locks (record { row = 2; rule = 0; number = 10 }) ≡ Idle
unfolding locks
asking_idle = refl

-- Another client asks for another lock: the row stood before.
elsewhere_own : sort_of locks (record { row = 0; rule = 0; number = 23 }) ≡ Own
unfolding locks
elsewhere_own = refl

-- Client 0 takes lock 2, which client 1 holds.
taking_open : sort_of locks (record { row = 0; rule = 1; number = 10 }) ≡ Open
unfolding locks
taking_open = refl

-- Before that, client 0 had asked for it: row 1.
taking_before : (earlier_of locks (record { row = 0; rule = 1; number = 10 })).literals ≡ record { fact = Binary 1 0 2; affirmed = true } ∷ record { fact = Binary 0 1 2; affirmed = true } ∷ []
unfolding locks
taking_before = refl

taking_covered : covering_of locks (record { row = 0; rule = 1; number = 10 }) 1 (0 ∷ 1 ∷ 2 ∷ []) ≡ Covers
unfolding locks
taking_covered = refl

-- The clients the other way round.
other_covered : covering_of locks (record { row = 0; rule = 1; number = 11 }) 1 (1 ∷ 0 ∷ 2 ∷ []) ≡ Covers
unfolding locks
other_covered = refl

other_not_covered : covering_of locks (record { row = 0; rule = 1; number = 11 }) 1 (0 ∷ 1 ∷ 2 ∷ []) ≡ DoesNotCover
unfolding locks
other_not_covered = refl

-- A matching that takes one variable twice.
malformed : covering_of locks (record { row = 0; rule = 1; number = 10 }) 1 (0 ∷ 0 ∷ 2 ∷ []) ≡ Malformed
unfolding locks
malformed = refl

-- Client 1 takes lock 2, for which client 0 has asked: both had asked for it, row 2.
asked_covered : covering_of locks (record { row = 1; rule = 1; number = 11 }) 2 (0 ∷ 1 ∷ 2 ∷ []) ≡ Covers
unfolding locks
asked_covered = refl

-- A pair is taken, and its first object has none then: that it had no other is not in the earlier pattern.
loosened_away : (earlier taking without 3).literals ≡ record { fact = Binary 0 0 1; affirmed = true } ∷ []
loosened_away = refl
