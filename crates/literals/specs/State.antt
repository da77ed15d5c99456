-- States, what a literal says of one, and renaming.
use Rattle.std.specs.Prelude.{◌≡◌, ℕ, max, Bool, true, false, List, map, slice_index}
use Rattle.std.specs.List.{AllByRecursion}
use Rattle.literals.specs.declared.literal.Fact.{Fact}
use Rattle.literals.specs.declared.literal.Fact.TheVariants.{Unary, Binary, From, Into}
use Rattle.literals.specs.declared.literal.Literal.{Literal}

-- A set of ground atoms: the unary ones by relation and object, the binary ones by relation and both objects. Objects are all whole numbers.
pub record State : Type 0 where
  pub unary : ℕ → ℕ → Bool
  pub binary : ℕ → ℕ → ℕ → Bool

-- A fact of objects is true in a state.
abbrev pub TrueIn : State → Fact → Type 0
TrueIn s (Unary a x) = s.unary a x ≡ true
TrueIn s (Binary b x y) = s.binary b x y ≡ true
TrueIn s (From b x) = (z : ℕ) × (s.binary b x z ≡ true)
TrueIn s (Into b x) = (z : ℕ) × (s.binary b z x ≡ true)

abbrev pub Said : Bool → Type 0 → Type 0
Said true P = P
Said false P = P → ⊥

-- A literal of objects holds in a state: its fact is true there, or is not, as it says.
abbrev pub Holds : State → Literal → Type 0
Holds s l = Said l.affirmed (TrueIn s l.fact)

-- Every literal of a list holds.
abbrev pub AllHold : State → List Literal → Type 0
AllHold s ls = AllByRecursion (Holds s) ls

-- A fact or literal under a renaming of its variables: by others, or by objects.
abbrev pub fact_under : (ℕ → ℕ) → Fact → Fact
fact_under f (Unary a x) = Unary a (f x)
fact_under f (Binary b x y) = Binary b (f x) (f y)
fact_under f (From b x) = From b (f x)
fact_under f (Into b x) = Into b (f x)

abbrev pub under : (ℕ → ℕ) → Literal → Literal
under f l = record { fact = fact_under f l.fact; affirmed = l.affirmed }

-- The relation of a fact.
abbrev pub relation_of : Fact → ℕ
relation_of (Unary a x) = a
relation_of (Binary b x y) = b
relation_of (From b x) = b
relation_of (Into b x) = b

-- The largest variable of a fact.
abbrev pub last_variable : Fact → ℕ
last_variable (Unary a x) = x
last_variable (Binary b x y) = max x y
last_variable (From b x) = x
last_variable (Into b x) = x

-- The literals with each variable as its object in a list, or as its variable in a list.
abbrev pub chosen : List ℕ → List Literal → List Literal
chosen objects ls = map (under (λ x. slice_index objects x)) ls
