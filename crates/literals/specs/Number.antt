-- The kinds of literals: their numbers in a file, and the kind of a literal.
use Rattle.std.specs.Prelude.{◌≡◌, ◌≢◌, ℕ, Bool, true, false, Result, MatchResult}
use Rattle.literals.specs.declared.literal.Fact.{Fact}
use Rattle.literals.specs.declared.literal.Fact.TheVariants as fact
use Rattle.literals.specs.declared.literal.Literal.{Literal}
use Rattle.literals.specs.declared.literal.LiteralKind.{LiteralKind}
use Rattle.literals.specs.declared.literal.NoSuchKind.{NoSuchKind}
use Rattle.literals.specs.declared.literal.LiteralKind.TheVariants.{Unary, NotUnary, Binary, NotBinary, From, NotFrom, Into, NotInto}

abbrev pub literal_kind_number : LiteralKind → ℕ
literal_kind_number Unary = 0
literal_kind_number NotUnary = 1
literal_kind_number Binary = 2
literal_kind_number NotBinary = 3
literal_kind_number From = 4
literal_kind_number NotFrom = 5
literal_kind_number Into = 6
literal_kind_number NotInto = 7

-- The kind with this number, or that there is none.
abbrev pub KindNumbered : ℕ → Result LiteralKind NoSuchKind → Type 0
KindNumbered number result = MatchResult result (λ k. literal_kind_number k ≡ number) (λ e. (e.0 ≡ number) × ((k : LiteralKind) → literal_kind_number k ≢ number))

-- By its fact, and whether that is affirmed.
abbrev pub kind_by : Fact → Bool → LiteralKind
kind_by (fact.Unary a x) true = Unary
kind_by (fact.Unary a x) false = NotUnary
kind_by (fact.Binary b x y) true = Binary
kind_by (fact.Binary b x y) false = NotBinary
kind_by (fact.From b x) true = From
kind_by (fact.From b x) false = NotFrom
kind_by (fact.Into b x) true = Into
kind_by (fact.Into b x) false = NotInto

abbrev pub kind_of : Literal → LiteralKind
kind_of l = kind_by l.fact l.affirmed
