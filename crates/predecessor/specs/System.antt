-- What an `AtomSystem` holds, and what comes of making one.
use Rattle.std.specs.Prelude.{◌≡◌, ℕ, ◌<◌, length, Ok, Err, Result}
use Rattle.literals.specs.State.{State}
use Rattle.atoms.specs.declared.BookRefusal.{BookRefusal}
use Rattle.pattern.specs.declared.Case.{Case}
use Rattle.pattern.specs.declared.PatternKind.{Ghosts}
use Rattle.atoms.specs.Pattern.{Pattern}
use Rattle.atoms.specs.Fire.{Transition}
use Rattle.atoms.specs.Book.{AtomsBook, just, rule_at, row_at}
use Rattle.atoms.specs.Range.{InRange, RefusedBy}
use Rattle.atoms.specs.Data.{transition_of, pattern_of}
use Rattle.atoms.specs.Model.{atoms_book, atoms_state}
use Rattle.predecessor.specs.Earlier.{renaming}
use Rattle.predecessor.specs.Kind.{Exists, atoms_meaning}
use Rattle.predecessor.specs.declared.case.RuleIntoRow.{RuleIntoRow}
use Rattle.predecessor.specs.declared.step.StepBack.{StepBack}
use Rattle.predecessor.specs.declared.system.AtomSystem.{AtomSystem}

abbrev pub system_book : AtomSystem → AtomsBook
system_book s = atoms_book s.atoms

abbrev pub system_state : AtomSystem → State
system_state s = atoms_state s.atoms

-- Its members as a pattern kind.
abbrev pub system_kind : Ghosts AtomSystem
system_kind = record {
  State = State;
  Book = AtomsBook;
  meaning = atoms_meaning;
  book = system_book;
  state = system_state;
}

-- Making one of this data gives a system with this book in its opening state, or the first ground against it.
abbrev pub MadeSystem : AtomsBook → Result AtomSystem BookRefusal → Type 0
MadeSystem b (Ok s) = InRange b × (system_book s ≡ b) × (system_state s ≡ just b.opening)
MadeSystem b (Err e) = RefusedBy b e

-- The rule and the row of a pair, as what they mean.
abbrev pub rule_of : RuleIntoRow → Transition
rule_of p = transition_of p.rule.now

abbrev pub row_of : RuleIntoRow → Pattern
row_of p = pattern_of p.row.now

-- What is read at the numbers of a rule and a row that there are.
pub record ReadAt (b : AtomsBook) (rule row : ℕ) (p : RuleIntoRow) : Type 0 where
  pub rule_in : rule < length b.rules
  pub row_in : row < length b.rows
  pub rule_is : rule_of p ≡ rule_at b rule
  pub row_is : row_of p ≡ row_at b row

-- What is read for a case that there is: its rule and its row, and which variable each variable of the rule is.
pub record Found (b : AtomsBook) (c : Case) (s : StepBack) : Type 0 where
  pub there : Exists b c
  pub rule_is : rule_of s.pair ≡ rule_at b c.rule
  pub row_is : row_of s.pair ≡ row_at b c.row
  pub names_are : s.names.items ≡ renaming (rule_at b c.rule) (row_at b c.row) c.number
