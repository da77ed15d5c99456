-- When plain data is a book of atoms: every number in its range, and no list too long.
use Rattle.std.specs.Prelude.{◌≡◌, ℕ, ◌<◌, ◌≤◌, true, length}
use Rattle.std.specs.List.{AllByRecursion}
use Rattle.pattern.specs.Duty.{RulesAllowed, RowsAllowed}
use Rattle.literals.specs.declared.Fact.{Fact}
use Rattle.literals.specs.declared.Fact.TheVariants.{Unary, Binary, From, Into}
use Rattle.literals.specs.declared.Literal.{Literal}
use Rattle.atoms.specs.declared.book.Atom.{Atom}
use Rattle.atoms.specs.declared.book.Atom.TheVariants as atom
use Rattle.atoms.specs.declared.book.BookRefusal.{BookRefusal}
use Rattle.atoms.specs.declared.book.BookRefusal.TheVariants.{OpeningLength, OpeningRange, Rules, Rows, RuleRange, RowRange}
use Rattle.atoms.specs.Pattern.{Pattern}
use Rattle.atoms.specs.Fire.{Transition}
use Rattle.atoms.specs.Book.{AtomsBook, relation_count, object_count}

abbrev pub most_atoms : ℕ
most_atoms = 24

abbrev pub most_rule_variables : ℕ
most_rule_variables = 4

abbrev pub most_rule_literals : ℕ
most_rule_literals = 12

abbrev pub most_row_variables : ℕ
most_row_variables = 5

abbrev pub most_row_literals : ℕ
most_row_literals = 16

abbrev pub AtomIn : Atom → Type 0
AtomIn (atom.Unary a d) = (a < relation_count) × (d < object_count)
AtomIn (atom.Binary b d e) = (b < relation_count) × (d < object_count) × (e < object_count)

-- A fact over so many variables.
abbrev pub FactIn : ℕ → Fact → Type 0
FactIn n (Unary a x) = (a < relation_count) × (x < n)
FactIn n (Binary b x y) = (b < relation_count) × (x < n) × (y < n)
FactIn n (From b x) = (b < relation_count) × (x < n)
FactIn n (Into b x) = (b < relation_count) × (x < n)

abbrev pub LiteralIn : ℕ → Literal → Type 0
LiteralIn n l = FactIn n l.fact

-- An effect affirms only atoms, and denies any fact.
abbrev pub Effective : Fact → Type 0
Effective (Unary a x) = Unit {0}
Effective (Binary b x y) = Unit {0}
Effective (From b x) = ⊥
Effective (Into b x) = ⊥

abbrev pub EffectIn : Literal → Type 0
EffectIn l = l.affirmed ≡ true → Effective l.fact

pub record RuleIn (r : Transition) : Type 0 where
  pub variables_in : r.variables ≤ most_rule_variables
  pub condition_short : length r.condition ≤ most_rule_literals
  pub effect_short : length r.effect ≤ most_rule_literals
  pub condition_in : AllByRecursion (LiteralIn r.variables) r.condition
  pub effect_in : AllByRecursion (LiteralIn r.variables) r.effect
  pub effective : AllByRecursion EffectIn r.effect

pub record RowIn (p : Pattern) : Type 0 where
  pub variables_in : p.variables ≤ most_row_variables
  pub literals_short : length p.literals ≤ most_row_literals
  pub literals_in : AllByRecursion (LiteralIn p.variables) p.literals

-- The data is a book of atoms.
pub record InRange (b : AtomsBook) : Type 0 where
  pub opening_short : length b.opening ≤ most_atoms
  pub opening_in : AllByRecursion AtomIn b.opening
  pub rules_in : RulesAllowed (length b.rules)
  pub rows_in : RowsAllowed (length b.rows)
  pub each_rule_in : AllByRecursion RuleIn b.rules
  pub each_row_in : AllByRecursion RowIn b.rows

-- The first ground on which it is refused.
module _ (b : AtomsBook) where
  abbrev pub OpeningShort : Type 0
  OpeningShort = length b.opening ≤ most_atoms

  abbrev pub OpeningIn : Type 0
  OpeningIn = AllByRecursion AtomIn b.opening

  abbrev pub RulesIn : Type 0
  RulesIn = RulesAllowed (length b.rules)

  abbrev pub RowsIn : Type 0
  RowsIn = RowsAllowed (length b.rows)

  abbrev pub RefusedBy : BookRefusal → Type 0
  RefusedBy OpeningLength = OpeningShort → ⊥
  RefusedBy OpeningRange = OpeningShort × (OpeningIn → ⊥)
  RefusedBy Rules = OpeningShort × OpeningIn × (RulesIn → ⊥)
  RefusedBy Rows = OpeningShort × OpeningIn × RulesIn × (RowsIn → ⊥)
  RefusedBy RuleRange = OpeningShort × OpeningIn × RulesIn × RowsIn × (AllByRecursion RuleIn b.rules → ⊥)
  RefusedBy RowRange = OpeningShort × OpeningIn × RulesIn × RowsIn × AllByRecursion RuleIn b.rules × (AllByRecursion RowIn b.rows → ⊥)
