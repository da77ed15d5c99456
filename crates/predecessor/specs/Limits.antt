-- A rule and a row have no more cases than a pattern kind may have, and far fewer.
use Rattle.std.specs.Prelude.{ℕ, ◌^◌, ◌<◌, ◌≤◌, ◌&&◌, length, nat_lt}
use Rattle.std.proofs.Common.{arith}
use Rattle.std.proofs.Math.Nat.{pow-le-pow_left, pow-le-pow_right}
use Rattle.std.proofs.lemmas.Bool.{and_parts, ltb-true, cond_both}
use Rattle.pattern.specs.Duty.{CasesAllowed}
use Rattle.atoms.specs.Pattern.{Pattern}
use Rattle.atoms.specs.Fire.{Transition}
use Rattle.atoms.specs.Book.{AtomsBook, rule_at, row_at}
use Rattle.atoms.specs.Range.{RuleIn, RowIn, InRange}
use Rattle.predecessor.specs.Earlier.{case_variables, case_count}
use Rattle.predecessor.specs.Kind.{atoms_meaning}
use Rattle.predecessor.specs.Ranges.{rule_in_range, row_in_range}

at_most : (rule : Transition) (row : Pattern) → RuleIn rule → RowIn row → case_count rule row ≤ 9 ^ 4
at_most rule row rule_in row_in =
    let base : case_variables rule row ≤ 9 = omega (arith, rule_in.variables_in, row_in.variables_in) in
    let left : case_count rule row ≤ 9 ^ rule.variables = pow-le-pow_left base rule.variables in
    let nine : 0 < 9 = omega arith in
    let right : 9 ^ rule.variables ≤ 9 ^ 4 = pow-le-pow_right nine rule_in.variables_in in
    omega arith

pub few : (rule : Transition) (row : Pattern) → RuleIn rule → RowIn row → CasesAllowed (case_count rule row)
few rule row rule_in row_in = omega (arith, at_most rule row rule_in row_in)

-- Of any row and rule of a book in range.
pub few_cases : (b : AtomsBook) → InRange b → (row rule : ℕ) → (atoms_meaning b).cases row rule ≤ 9 ^ 4
few_cases b r row rule = cond_both (nat_lt row (length b.rows) && nat_lt rule (length b.rules)) (case_count (rule_at b rule) (row_at b row)) 0 (λ n. n ≤ 9 ^ 4)
    (λ e. let parts = and_parts (nat_lt row (length b.rows)) (nat_lt rule (length b.rules)) e in
    at_most (rule_at b rule) (row_at b row)
    (rule_in_range b r rule (ltb-true rule (length b.rules) parts.1))
    (row_in_range b r row (ltb-true row (length b.rows) parts.0)))
    (λ _. omega arith)
