-- Literals and atoms as four bytes of a body: kind, relation, first, second.
use Rattle.std.specs.Prelude.{◌≡◌, ℕ, zero, suc, Bool, true, false, cond, ◌&&◌, ◌||◌, List, Ok, Err, Result, ◌==◌, nat_le, nat_lt, slice_index}
use Rattle.literals.specs.declared.Fact.TheVariants as fact
use Rattle.literals.specs.declared.Literal.{Literal}
use Rattle.literals.specs.declared.LiteralKind.{LiteralKind}
use Rattle.literals.specs.declared.LiteralKind.TheVariants.{Unary, NotUnary, Binary, NotBinary, From, NotFrom, Into, NotInto}
use Rattle.literals.specs.Number.{literal_kind_number}
use Rattle.atoms.specs.declared.Atom.{Atom}
use Rattle.atoms.specs.declared.Atom.TheVariants as atom
use Rattle.atoms.specs.Book.{relation_count, object_count}
use Rattle.records.specs.declared.FieldFault.{FieldFault}
use Rattle.records.specs.declared.LiteralFault.{LiteralFault}
use Rattle.records.specs.declared.LiteralFault.TheVariants.{Kind, Relation, First, Second}
use Rattle.records.specs.Fault.{literal_place}
use Rattle.bodies.specs.declared.literal.Role.{Role}
use Rattle.bodies.specs.declared.literal.Role.TheVariants.{Condition, Effect}

-- The kind with a number; past the last it is the last.
abbrev pub kind_numbered : ℕ → LiteralKind
kind_numbered zero = Unary
kind_numbered (suc zero) = NotUnary
kind_numbered (suc (suc zero)) = Binary
kind_numbered (suc (suc (suc zero))) = NotBinary
kind_numbered (suc (suc (suc (suc zero)))) = From
kind_numbered (suc (suc (suc (suc (suc zero))))) = NotFrom
kind_numbered (suc (suc (suc (suc (suc (suc zero)))))) = Into
kind_numbered (suc (suc (suc (suc (suc (suc (suc n))))))) = NotInto

-- The literal of a kind; the second variable counts only where the kind has two.
abbrev pub shaped : LiteralKind → ℕ → ℕ → ℕ → Literal
shaped Unary r x y = record { fact = fact.Unary r x; affirmed = true }
shaped NotUnary r x y = record { fact = fact.Unary r x; affirmed = false }
shaped Binary r x y = record { fact = fact.Binary r x y; affirmed = true }
shaped NotBinary r x y = record { fact = fact.Binary r x y; affirmed = false }
shaped From r x y = record { fact = fact.From r x; affirmed = true }
shaped NotFrom r x y = record { fact = fact.From r x; affirmed = false }
shaped Into r x y = record { fact = fact.Into r x; affirmed = true }
shaped NotInto r x y = record { fact = fact.Into r x; affirmed = false }

-- The kinds that a condition, a row or an effect may have: an effect does not affirm that there is some pair.
abbrev pub allows : Role → LiteralKind → Bool
allows Condition k = true
allows Effect Unary = true
allows Effect NotUnary = true
allows Effect Binary = true
allows Effect NotBinary = true
allows Effect From = false
allows Effect NotFrom = true
allows Effect Into = false
allows Effect NotInto = true

-- The second variable is below their number where the kind has two, and 0 where it has one.
abbrev pub second_in : LiteralKind → ℕ → ℕ → Bool
second_in Unary n y = y == 0
second_in NotUnary n y = y == 0
second_in Binary n y = nat_lt y n
second_in NotBinary n y = nat_lt y n
second_in From n y = y == 0
second_in NotFrom n y = y == 0
second_in Into n y = y == 0
second_in NotInto n y = y == 0

abbrev pub kind_in : Role → ℕ → Bool
kind_in role k = nat_le k (literal_kind_number NotInto) && allows role (kind_numbered k)

-- Four bytes are a literal over so many variables.
abbrev pub literal_in : Role → ℕ → ℕ → ℕ → ℕ → ℕ → Bool
literal_in role n k r x y = kind_in role k && (nat_lt r relation_count && (nat_lt x n && second_in (kind_numbered k) n y))

abbrev pub literal_of : ℕ → ℕ → ℕ → ℕ → Literal
literal_of k r x y = shaped (kind_numbered k) r x y

-- What four bytes give.
abbrev pub of_four : {X : Type 0} → (ℕ → ℕ → ℕ → ℕ → X) → List ℕ → X
of_four f four = f (slice_index four 0) (slice_index four 1) (slice_index four 2) (slice_index four 3)

-- Which of the four bytes is the first that is out of range.
abbrev pub FirstOut : Role → ℕ → ℕ → ℕ → ℕ → ℕ → LiteralFault → Type 0
FirstOut role n k r x y (Kind _) = kind_in role k ≡ false
FirstOut role n k r x y (Relation _) = (kind_in role k ≡ true) × (nat_lt r relation_count ≡ false)
FirstOut role n k r x y (First _) = (kind_in role k ≡ true) × (nat_lt r relation_count ≡ true) × (nat_lt x n ≡ false)
FirstOut role n k r x y (Second _) = (kind_in role k ≡ true) × (nat_lt r relation_count ≡ true) × (nat_lt x n ≡ true) × (second_in (kind_numbered k) n y ≡ false)

-- Four bytes that are read as a literal, in the record at a place.
abbrev pub LiteralRead : Role → ℕ → List ℕ → ℕ → Result Literal LiteralFault → Type 0
LiteralRead role n four place (Ok l) = (of_four (literal_in role n) four ≡ true) × (l ≡ of_four literal_of four)
LiteralRead role n four place (Err f) = (literal_place f ≡ place) × FirstOut role n (slice_index four 0) (slice_index four 1) (slice_index four 2) (slice_index four 3) f

-- Four bytes are an atom of a model: kind 0 or 2, a relation, and its objects.
abbrev pub atom_in : ℕ → ℕ → ℕ → ℕ → Bool
atom_in k r d e = (k == literal_kind_number Unary && (nat_lt r relation_count && (nat_lt d object_count && e == 0))) || (k == literal_kind_number Binary && (nat_lt r relation_count && (nat_lt d object_count && nat_lt e object_count)))

abbrev pub atom_of : ℕ → ℕ → ℕ → ℕ → Atom
atom_of k r d e = cond (k == literal_kind_number Unary) (atom.Unary r d) (atom.Binary r d e)

abbrev pub AtomRead : List ℕ → ℕ → Result Atom FieldFault → Type 0
AtomRead four place (Ok a) = (of_four atom_in four ≡ true) × (a ≡ of_four atom_of four)
AtomRead four place (Err f) = (f.place ≡ place) × (of_four atom_in four ≡ false)
