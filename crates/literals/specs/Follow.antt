-- What follows from a set of literals, and when the set is contradictory.
use Rattle.std.specs.Prelude.{◌≡◌, Bool, true, false, not, ◌&&◌, List, ◌==◌}
use Rattle.std.specs.List.{list_any}
use Rattle.literals.specs.declared.literal.Fact.{Fact}
use Rattle.literals.specs.declared.literal.Fact.TheVariants.{Unary, Binary, From, Into}
use Rattle.literals.specs.declared.literal.Literal.{Literal}
use Rattle.literals.specs.State.{State, Holds, AllHold}

-- The first fact implies the second: each implies itself, and b(x, y) implies from-b(x) and into-b(y).
abbrev pub implies : Fact → Fact → Bool
implies (Unary a x) (Unary b y) = a == b && x == y
implies (Unary a x) (Binary b y z) = false
implies (Unary a x) (From b y) = false
implies (Unary a x) (Into b y) = false
implies (Binary a x w) (Unary b y) = false
implies (Binary a x w) (Binary b y z) = a == b && (x == y && w == z)
implies (Binary a x w) (From b y) = a == b && x == y
implies (Binary a x w) (Into b y) = a == b && w == y
implies (From a x) (Unary b y) = false
implies (From a x) (Binary b y z) = false
implies (From a x) (From b y) = a == b && x == y
implies (From a x) (Into b y) = false
implies (Into a x) (Unary b y) = false
implies (Into a x) (Binary b y z) = false
implies (Into a x) (From b y) = false
implies (Into a x) (Into b y) = a == b && x == y

-- By two signs: whether the first fact implies the second, or the second the first.
abbrev pub by_signs : Bool → Bool → Bool → Bool → Bool
by_signs true true forth back = forth
by_signs true false forth back = false
by_signs false true forth back = false
by_signs false false forth back = back

-- The second literal follows from the first: an affirmed fact from one that implies it, a denied fact from the denial of one that it implies.
abbrev pub yields : Literal → Literal → Bool
yields k l = by_signs k.affirmed l.affirmed (implies k.fact l.fact) (implies l.fact k.fact)

abbrev pub denial : Literal → Literal
denial l = record { fact = l.fact; affirmed = not l.affirmed }

-- A literal follows from a set: it is in it, or is from-b(x) or into-b(y) beside b(x, y), or denies b(x, y) beside the denial of from-b(x) or of into-b(y).
abbrev pub follows : List Literal → Literal → Bool
follows ls l = list_any (λ k. yields k l) ls

-- A set is contradictory when it holds a literal and its denial, or b(x, y) and the denial of from-b(x) or of into-b(y): the denial of one of it follows from it.
abbrev pub contradictory : List Literal → Bool
contradictory ls = list_any (λ l. follows ls (denial l)) ls

-- What follows from literals that hold in a state holds there, and a contradictory set holds nowhere.
pub record Sound (ls : List Literal) : Type 0 where
  pub follows_holds : (s : State) (l : Literal) → follows ls l ≡ true → AllHold s ls → Holds s l
  pub contradictory_nowhere : (s : State) → contradictory ls ≡ true → AllHold s ls → ⊥
