-- The earlier pattern of a case: from which states the rule may lead into the row in this way.
use Rattle.std.specs.Prelude.{ℕ, ◌+◌, ◌^◌, Bool, false, not, ◌&&◌, ◌||◌, List, [], ◌∷◌, ◌++◌, length, filter, ◌==◌, nat_eq, nat_lt}
use Rattle.literals.specs.declared.Fact.{Fact}
use Rattle.literals.specs.declared.Fact.TheVariants.{Unary, Binary, From, Into}
use Rattle.literals.specs.declared.Literal.{Literal}
use Rattle.literals.specs.State.{chosen}
use Rattle.std.specs.List.{list_any, list_all}
use Rattle.literals.specs.Follow.{denial, follows, contradictory}
use Rattle.atoms.specs.Pattern.{Pattern}
use Rattle.atoms.specs.Fire.{Transition}
use Rattle.predecessor.specs.Proper.{digits, proper}

-- Where a fact is denied, some pair may go that is the only one out of x, or into it: so the denial of from-b(x) may become true by the denial of
-- b(x, y) or of into-b(y), and that of into-b(x) by the denial of b(y, x) or of from-b(y), for any y.
abbrev pub loosens : Fact → Fact → Bool
loosens (Unary a y) f = false
loosens (Binary c y z) (Unary b x) = false
loosens (Binary c y z) (Binary b x w) = false
loosens (Binary c y z) (From b x) = c == b && y == x
loosens (Binary c y z) (Into b x) = c == b && z == x
loosens (From c y) (Unary b x) = false
loosens (From c y) (Binary b x w) = false
loosens (From c y) (From b x) = false
loosens (From c y) (Into b x) = c == b
loosens (Into c y) (Unary b x) = false
loosens (Into c y) (Binary b x w) = false
loosens (Into c y) (From b x) = c == b
loosens (Into c y) (Into b x) = false

-- Some denial of an effect may take the last pair of a fact.
abbrev pub thins : List Literal → Fact → Bool
thins effect f = list_any (λ k. not k.affirmed && loosens k.fact f) effect

-- An effect loosens a denial.
abbrev pub loosened : List Literal → Literal → Bool
loosened effect l = not l.affirmed && thins effect l.fact

-- An effect makes a literal true, or false: it, or its denial, follows from the effect.
abbrev pub made_true : List Literal → Literal → Bool
made_true effect l = follows effect l

abbrev pub made_false : List Literal → Literal → Bool
made_false effect l = follows effect (denial l)

-- Of a row's literals those stay that the effect neither makes true nor loosens.
abbrev pub kept : List Literal → List Literal → List Literal
kept effect ls = filter (λ l. not (made_true effect l || loosened effect l)) ls

module _ (rule : Transition) (row : Pattern) where
  -- How many variables a case has: those of the row, then as many new ones as the rule could need. They stand for different objects.
  abbrev pub case_variables : ℕ
  case_variables = row.variables + rule.variables

  -- As many cases as there are ways to give each of the rule's variables one of these.
  abbrev pub case_count : ℕ
  case_count = case_variables ^ rule.variables

  -- Which variable each variable of the rule is, in the case with this number.
  abbrev pub renaming : ℕ → List ℕ
  renaming n = digits case_variables rule.variables n

  -- A naming of the rule's variables is ruled out if its new variables are not taken in order, or the effect is contradictory or makes a literal of the row false.
  abbrev pub ruled_out : List ℕ → Bool
  ruled_out names = not (proper row.variables names) || (contradictory (chosen names rule.effect) || list_any (made_false (chosen names rule.effect)) row.literals)

  -- What held before: the rule's condition, and what stays of the row.
  abbrev pub literals_before : List ℕ → List Literal
  literals_before names = chosen names rule.condition ++ kept (chosen names rule.effect) row.literals

  -- The rule's effect in a case.
  abbrev pub effect_in_case : ℕ → List Literal
  effect_in_case n = chosen (renaming n) rule.effect

  -- The earlier pattern under a naming.
  abbrev pub pattern_before : List ℕ → Pattern
  pattern_before names = record { variables = case_variables; literals = literals_before names }

  -- A naming is idle if it is ruled out, or its earlier pattern is contradictory.
  abbrev pub idle_under : List ℕ → Bool
  idle_under names = ruled_out names || contradictory (literals_before names)

  -- The earlier pattern of a case, and whether the case is idle: those of its naming.
  abbrev pub earlier : ℕ → Pattern
  earlier n = pattern_before (renaming n)

  abbrev pub idle : ℕ → Bool
  idle n = idle_under (renaming n)

-- A set of literals covers a row under a matching of its variables: each literal of the row follows from it.
abbrev pub covers : List Literal → List ℕ → Pattern → Bool
covers ls matching row = list_all (follows ls) (chosen matching row.literals)

-- The same with every variable kept.
abbrev pub covers_itself : List Literal → Pattern → Bool
covers_itself ls row = list_all (follows ls) row.literals

-- A list of numbers has one of them twice.
abbrev pub repeats : List ℕ → Bool
repeats [] = false
repeats (x ∷ xs) = list_any (nat_eq x) xs || repeats xs

-- A matching gives each variable of a row a different number below n.
abbrev pub well_formed : Pattern → ℕ → List ℕ → Bool
well_formed row n matching = length matching == row.variables && (list_all (λ x. nat_lt x n) matching && not (repeats matching))
