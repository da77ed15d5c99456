-- What a book of atoms means.
use Rattle.std.specs.Prelude.{◌≡◌, ℕ, ◌<◌, Bool, false, cond, ◌&&◌, List, length, nat_lt}
use Rattle.pattern.specs.declared.Case.{Case}
use Rattle.pattern.specs.declared.Sort.{Sort}
use Rattle.pattern.specs.declared.Sort.TheVariants.{Idle, Own, Open}
use Rattle.pattern.specs.declared.Covering.{Covering}
use Rattle.pattern.specs.declared.Covering.TheVariants.{Malformed, Covers, DoesNotCover}
use Rattle.pattern.specs.Meaning.{Meaning}
use Rattle.literals.specs.State.{State}
use Rattle.atoms.specs.Pattern.{Pattern, StandsIn}
use Rattle.atoms.specs.Fire.{Transition}
use Rattle.atoms.specs.Book.{AtomsBook, just, Held, ChoiceHeld, rule_at, row_at, NextOf, StandsOf}
use Rattle.predecessor.specs.Earlier.{case_count, renaming, literals_before, idle_under, earlier, idle, covers, covers_itself, well_formed}

-- The sort of a naming of the rule's variables: idle, or its earlier pattern covers its own row, or it is open.
abbrev pub naming_sort : Transition → Pattern → List ℕ → Sort
naming_sort rule row names = cond (idle_under rule row names) Idle (cond (covers_itself (literals_before rule row names) row) Own Open)

-- The sort of a case of a rule and a row: that of its naming.
abbrev pub case_sort : Transition → Pattern → ℕ → Sort
case_sort rule row n = naming_sort rule row (renaming rule row n)

-- What a matching of a named row says of an earlier pattern.
abbrev pub pattern_covering : Pattern → Pattern → List ℕ → Covering
pattern_covering before named matching = cond (well_formed named before.variables matching) (cond (covers before.literals matching named) Covers DoesNotCover) Malformed

module _ (b : AtomsBook) where
  pub record Exists (c : Case) : Type 0 where
    pub row_in : c.row < length b.rows
    pub rule_in : c.rule < length b.rules
    pub number_in : c.number < case_count (rule_at b c.rule) (row_at b c.row)

  abbrev pub exists : Case → Bool
  exists c = nat_lt c.row (length b.rows) && (nat_lt c.rule (length b.rules) && nat_lt c.number (case_count (rule_at b c.rule) (row_at b c.row)))

  abbrev pub idle_of : Case → Bool
  idle_of c = idle (rule_at b c.rule) (row_at b c.row) c.number

  abbrev pub earlier_of : Case → Pattern
  earlier_of c = earlier (rule_at b c.rule) (row_at b c.row) c.number

  -- The earlier states of a case are those where its earlier pattern stands; an idle case has none.
  pub record EarlierOf (c : Case) (s : State) : Type 0 where
    pub there : Exists c
    pub not_idle : idle_of c ≡ false
    pub stands : StandsIn (earlier_of c) s

  abbrev pub sort_of : Case → Sort
  sort_of c = cond (exists c) (case_sort (rule_at b c.rule) (row_at b c.row) c.number) Idle

  abbrev pub covering_of : Case → ℕ → List ℕ → Covering
  covering_of c named matching = cond (exists c && nat_lt named (length b.rows)) (pattern_covering (earlier_of c) (row_at b named) matching) Malformed

  abbrev pub atoms_meaning : Meaning State
  atoms_meaning = record {
    opening = just b.opening;
    rules = length b.rules;
    rows = length b.rows;
    Next = NextOf b;
    Stands = StandsOf b;
    cases = λ row rule. cond (nat_lt row (length b.rows) && nat_lt rule (length b.rules)) (case_count (rule_at b rule) (row_at b row)) 0;
    Earlier = EarlierOf;
    sort = sort_of;
    matching_length = λ row. (row_at b row).variables;
    covering = covering_of;
    HoldsChoice = λ rule s choice. ChoiceHeld (rule_at b rule) choice;
    Holds = Held;
  }
