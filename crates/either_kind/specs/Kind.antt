-- The members of a kind that is of either of two kinds, from those of both.
use Rattle.std.specs.Prelude.{◌⊎◌}
use Rattle.std.proofs.Common.{inl, inr}
use Rattle.pattern.specs.declared.PatternKind.{Ghosts}
use Rattle.either_kind.specs.Side.{either_meaning}
use Rattle.either_kind.specs.declared.sum.Either.{Either}
use Rattle.either_kind.specs.declared.sum.Either.TheVariants.{Left, Right}

-- What a value of either type gives, by the type that it is of.
abbrev pub either_of : {X Y A B : Type 0} → (X → A) → (Y → B) → Either X Y → A ⊎ B
either_of f g (Left x) = inl (f x)
either_of f g (Right y) = inr (g y)

-- Its members as a pattern kind.
abbrev pub either_kind : {X Y : Type 0} → Ghosts X → Ghosts Y → Ghosts (Either X Y)
either_kind left right = record {
  State = left.State ⊎ right.State;
  Book = left.Book ⊎ right.Book;
  meaning = either_meaning left.meaning right.meaning;
  book = either_of left.book right.book;
  state = either_of left.state right.state;
}
