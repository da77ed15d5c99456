-- A book of atoms as plain data: its opening state, rules and rows, and what its model holds.
use Rattle.std.specs.Prelude.{◌≡◌, ℕ, ◌<◌, true, false, List, [], map, length, slice_index_or}
use Rattle.std.specs.List.{AllByRecursion}
use Rattle.literals.specs.declared.Fact.TheVariants.{Unary, Binary}
use Rattle.literals.specs.declared.Literal.{Literal}
use Rattle.literals.specs.State.{State}
use Rattle.pattern.specs.Meaning.{Step}
use Rattle.atoms.specs.declared.book.Atom.{Atom}
use Rattle.atoms.specs.declared.book.Atom.TheVariants as atom
use Rattle.atoms.specs.Pattern.{Pattern, StandsIn}
use Rattle.atoms.specs.Fire.{Transition, after, Next}

-- The atoms of the opening state, the rules and the rows.
pub record AtomsBook : Type 0 where
  pub opening : List Atom
  pub rules : List Transition
  pub rows : List Pattern

-- The empty state.
abbrev pub nothing : State
nothing = record { unary = λ a d. false; binary = λ b d e. false }

-- An atom, affirmed.
abbrev pub affirmed : Atom → Literal
affirmed (atom.Unary a d) = record { fact = Unary a d; affirmed = true }
affirmed (atom.Binary b d e) = record { fact = Binary b d e; affirmed = true }

-- The state of just these atoms.
abbrev pub just : List Atom → State
just atoms = after (map affirmed atoms) nothing

-- The limits of a model: relations of each sort, and objects.
abbrev pub relation_count : ℕ
relation_count = 8

abbrev pub object_count : ℕ
object_count = 16

-- A state that the model holds: only its objects, and only the relations that there are.
pub record Held (s : State) : Type 0 where
  pub unary_held : (a d : ℕ) → s.unary a d ≡ true → (a < relation_count) × (d < object_count)
  pub binary_held : (b d e : ℕ) → s.binary b d e ≡ true → (b < relation_count) × (d < object_count) × (e < object_count)

-- A choice that the model holds for a rule: one of its objects for each variable.
abbrev pub ChoiceHeld : Transition → List ℕ → Type 0
ChoiceHeld r choice = (length choice ≡ r.variables) × AllByRecursion (λ d. d < object_count) choice

module _ (b : AtomsBook) where
  abbrev pub rule_at : ℕ → Transition
  rule_at rule = slice_index_or b.rules rule (record { variables = 0; condition = []; effect = [] })

  abbrev pub row_at : ℕ → Pattern
  row_at row = slice_index_or b.rows row (record { variables = 0; literals = [] })

  abbrev pub NextOf : State → ℕ → List ℕ → Step State → Type 0
  NextOf s rule choice x = (rule < length b.rules) × Next (rule_at rule) s choice x

  abbrev pub StandsOf : ℕ → State → Type 0
  StandsOf row s = (row < length b.rows) × StandsIn (row_at row) s
