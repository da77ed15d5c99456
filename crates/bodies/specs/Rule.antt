-- Bodies of rules and rows of books of atoms, and of their openings: when they are as long as their counts say, and in range.
use Rattle.std.specs.Prelude.{ℕ, ◌+◌, ◌*◌, ◌%◌, Bool, ◌&&◌, List, length, take, drop, Result, ◌==◌, nat_le, slice_index}
use Rattle.atoms.specs.declared.Row.{Row}
use Rattle.atoms.specs.declared.Rule.{Rule}
use Rattle.atoms.specs.Pattern.{Pattern}
use Rattle.atoms.specs.Fire.{Transition}
use Rattle.atoms.specs.Data.{transition_of, pattern_of}
use Rattle.atoms.specs.Range.{most_atoms, most_rule_variables, most_rule_literals, most_row_variables, most_row_literals}
use Rattle.records.specs.declared.RecordFault.{RecordFault}
use Rattle.bodies.specs.declared.literal.Role.TheVariants.{Condition, Effect}
use Rattle.bodies.specs.Lists.{literals_in, literals_of, Taken}

-- An opening has up to 24 atoms.
abbrev pub opening_fits : List ℕ → Bool
opening_fits b = length b % 4 == 0 && nat_le (length b) (4 * most_atoms)

-- A rule: its variables, the number of its conditions and of its effects, and these.
abbrev pub rule_fits : List ℕ → Bool
rule_fits b = nat_le 3 (length b) && length b == 3 + 4 * (slice_index b 1 + slice_index b 2)

abbrev pub condition_bytes : List ℕ → List ℕ
condition_bytes b = take (4 * slice_index b 1) (drop 3 b)

abbrev pub effect_bytes : List ℕ → List ℕ
effect_bytes b = drop (4 * slice_index b 1) (drop 3 b)

abbrev pub rule_in : List ℕ → Bool
rule_in b = (nat_le (slice_index b 0) most_rule_variables && (nat_le (slice_index b 1) most_rule_literals && nat_le (slice_index b 2) most_rule_literals)) && (literals_in Condition (slice_index b 0) (condition_bytes b) && literals_in Effect (slice_index b 0) (effect_bytes b))

abbrev pub rule_of : List ℕ → Transition
rule_of b = record { variables = slice_index b 0; condition = literals_of (condition_bytes b); effect = literals_of (effect_bytes b) }

-- A row: its variables, the number of its literals, and these.
abbrev pub row_fits : List ℕ → Bool
row_fits b = nat_le 2 (length b) && length b == 2 + 4 * slice_index b 1

abbrev pub row_in : List ℕ → Bool
row_in b = (nat_le (slice_index b 0) most_row_variables && nat_le (slice_index b 1) most_row_literals) && literals_in Condition (slice_index b 0) (drop 2 b)

abbrev pub row_of : List ℕ → Pattern
row_of b = record { variables = slice_index b 0; literals = literals_of (drop 2 b) }

abbrev pub RuleRead : List ℕ → ℕ → Result Rule RecordFault → Type 0
RuleRead b place = Taken transition_of (rule_in b) (rule_of b) place

abbrev pub RowRead : List ℕ → ℕ → Result Row RecordFault → Type 0
RowRead b place = Taken pattern_of (row_in b) (row_of b) place
