-- Literals, atoms, rules and rows of books of atoms as bytes.
use Rattle.std.specs.Prelude.{ℕ, List, [], ◌∷◌, ◌++◌, length}
use Rattle.std.specs.List.{flat_map}
use Rattle.literals.specs.declared.Fact.{Fact}
use Rattle.literals.specs.declared.Fact.TheVariants as fact
use Rattle.literals.specs.declared.Literal.{Literal}
use Rattle.literals.specs.declared.LiteralKind.TheVariants.{Unary, Binary}
use Rattle.literals.specs.Number.{literal_kind_number, kind_of}
use Rattle.literals.specs.State.{relation_of}
use Rattle.atoms.specs.declared.Atom.{Atom}
use Rattle.atoms.specs.declared.Atom.TheVariants as atom
use Rattle.atoms.specs.Fire.{Transition}
use Rattle.atoms.specs.Pattern.{Pattern}

-- The first variable of a fact, and its second or 0.
abbrev pub first_of : Fact → ℕ
first_of (fact.Unary a x) = x
first_of (fact.Binary b x y) = x
first_of (fact.From b x) = x
first_of (fact.Into b x) = x

abbrev pub second_of : Fact → ℕ
second_of (fact.Unary a x) = 0
second_of (fact.Binary b x y) = y
second_of (fact.From b x) = 0
second_of (fact.Into b x) = 0

-- Four bytes each: kind, relation, first, second or 0.
abbrev pub literal_bytes : Literal → List ℕ
literal_bytes l = literal_kind_number (kind_of l) ∷ relation_of l.fact ∷ first_of l.fact ∷ second_of l.fact ∷ []

abbrev pub atom_bytes : Atom → List ℕ
atom_bytes (atom.Unary a d) = literal_kind_number Unary ∷ a ∷ d ∷ 0 ∷ []
atom_bytes (atom.Binary b d e) = literal_kind_number Binary ∷ b ∷ d ∷ e ∷ []

-- A rule: its variables, how many conditions and how many effects, and these.
abbrev pub rule_bytes : Transition → List ℕ
rule_bytes r = r.variables ∷ length r.condition ∷ length r.effect ∷ (flat_map literal_bytes r.condition ++ flat_map literal_bytes r.effect)

-- A row: its variables, how many literals, and these.
abbrev pub row_bytes : Pattern → List ℕ
row_bytes p = p.variables ∷ length p.literals ∷ flat_map literal_bytes p.literals
