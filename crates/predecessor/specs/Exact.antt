-- Where steps backwards are exact, and where they are not.
use Rattle.std.specs.Prelude.{◌≡◌, ℕ, Bool, true, false, not, ◌||◌, List, [], ◌∷◌}
use Rattle.literals.specs.declared.Fact.TheVariants.{Binary, From}
use Rattle.literals.specs.declared.Literal.{Literal}
use Rattle.literals.specs.State.{State}
use Rattle.std.specs.List.{list_all}
use Rattle.pattern.specs.declared.Case.{Case}
use Rattle.pattern.specs.Meaning.{to}
use Rattle.atoms.specs.Pattern.{Pattern, StandsIn}
use Rattle.atoms.specs.Fire.{Transition, Next}
use Rattle.atoms.specs.Book.{AtomsBook, rule_at, row_at, NextOf, StandsOf}
use Rattle.predecessor.specs.Earlier.{thins, made_true, effect_in_case, earlier}
use Rattle.predecessor.specs.Kind.{EarlierOf}

-- An effect settles a literal: it makes it true, or takes no pair that may be the last of its fact.
abbrev pub settles : List Literal → Literal → Bool
settles effect l = made_true effect l || not (thins effect l.fact)

module _ (rule : Transition) (row : Pattern) where
  -- The case's effect settles every literal of the row.
  abbrev pub settled : ℕ → Bool
  settled n = list_all (settles (effect_in_case rule row n)) row.literals

  -- From every state where the case's earlier pattern stands the rule leads, under some choice, to a state where the row stands.
  abbrev pub Exact : ℕ → Type 0
  Exact n = (s : State) → StandsIn (earlier rule row n) s → (choice : List ℕ) × (t : State) × Next rule s choice (to t) × StandsIn row t

-- Where the effect of a case settles every literal of its row, each of its earlier states is one from which the rule leads, under some choice, into the row.
abbrev pub ExactOf : AtomsBook → Case → Type 0
ExactOf b c = settled (rule_at b c.rule) (row_at b c.row) c.number ≡ true → (s : State) → EarlierOf b c s → (choice : List ℕ) × (t : State) × NextOf b s c.rule choice (to t) × StandsOf b c.row t

-- A rule that takes b(x, y) away.
abbrev pub taking : Transition
taking = record { variables = 2; condition = record { fact = Binary 0 0 1; affirmed = true } ∷ []; effect = record { fact = Binary 0 0 1; affirmed = false } ∷ [] }

-- Some object that has no pair, and some object that has one.
abbrev pub without : Pattern
without = record { variables = 1; literals = record { fact = From 0 0; affirmed = false } ∷ [] }

abbrev pub having : Pattern
having = record { variables = 1; literals = record { fact = From 0 0; affirmed = true } ∷ [] }
