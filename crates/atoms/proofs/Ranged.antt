-- That data is in range has one proof at most, so that a value can carry it.
use Rattle.std.proofs.Common.{◌≡◌, ℕ, ◌<◌, ◌≤◌, List, [], ◌∷◌, length}
use mathlib.Core.Logic.{∥∥₁_elim}
use denote.Struct.Props.{props}
use Rattle.std.specs.List.{AllByRecursion}
use Rattle.std.proofs.ByRecursion.{All-get_or}
use Rattle.pattern.specs.Duty.{RulesAllowed, RowsAllowed}
use Rattle.literals.specs.declared.Fact.{Fact}
use Rattle.literals.specs.declared.Fact.TheVariants.{Unary, Binary, From, Into}
use Rattle.literals.specs.declared.Literal.{Literal}
use Rattle.atoms.specs.declared.book.Atom.{Atom}
use Rattle.atoms.specs.declared.book.Atom.TheVariants as atom
use Rattle.atoms.specs.Pattern.{Pattern}
use Rattle.atoms.specs.Fire.{Transition}
use Rattle.atoms.specs.Book.{AtomsBook, rule_at, row_at}
use Rattle.atoms.specs.Range.{AtomIn, FactIn, LiteralIn, Effective, EffectIn, RuleIn, RowIn, InRange}

all_one : {X : Type 0} (P : X → Type 0) → ((x : X) → IsProp (P x)) → (xs : List X) → IsProp (AllByRecursion P xs)
all_one P one [] p q = λ i. tt
all_one P one (x ∷ xs) p q = λ i. (one x p.0 q.0 i, all_one P one xs p.1 q.1 i)

at_most_one : (m n : ℕ) → IsProp (m ≤ n)
at_most_one m n = hlevel props

atom_one : (x : Atom) → IsProp (AtomIn x)
atom_one (atom.Unary a d) = hlevel props
atom_one (atom.Binary b d e) = hlevel props

fact_one : (n : ℕ) (x : Fact) → IsProp (FactIn n x)
fact_one n (Unary a x) = hlevel props
fact_one n (Binary b x y) = hlevel props
fact_one n (From b x) = hlevel props
fact_one n (Into b x) = hlevel props

effective_one : (x : Fact) → IsProp (Effective x)
effective_one (Unary a x) = hlevel props
effective_one (Binary b x y) = hlevel props
effective_one (From b x) = hlevel props
effective_one (Into b x) = hlevel props

effect_one : (l : Literal) → IsProp (EffectIn l)
effect_one l p q = λ i e. effective_one l.fact (p e) (q e) i

rules_one : (n : ℕ) → IsProp (RulesAllowed n)
rules_one n = hlevel props

rows_one : (n : ℕ) → IsProp (RowsAllowed n)
rows_one n = hlevel props

pub rule_one : (r : Transition) → IsProp (RuleIn r)
rule_one r p q = λ i. record {
  variables_in = at_most_one _ _ p.variables_in q.variables_in i;
  condition_short = at_most_one _ _ p.condition_short q.condition_short i;
  effect_short = at_most_one _ _ p.effect_short q.effect_short i;
  condition_in = all_one (LiteralIn r.variables) (λ l. fact_one r.variables l.fact) r.condition p.condition_in q.condition_in i;
  effect_in = all_one (LiteralIn r.variables) (λ l. fact_one r.variables l.fact) r.effect p.effect_in q.effect_in i;
  effective = all_one EffectIn effect_one r.effect p.effective q.effective i;
}

pub row_one : (r : Pattern) → IsProp (RowIn r)
row_one r p q = λ i. record {
  variables_in = at_most_one _ _ p.variables_in q.variables_in i;
  literals_short = at_most_one _ _ p.literals_short q.literals_short i;
  literals_in = all_one (LiteralIn r.variables) (λ l. fact_one r.variables l.fact) r.literals p.literals_in q.literals_in i;
}

module _ (b : AtomsBook) where
  pub in_range_one : IsProp (InRange b)
  in_range_one p q = λ i. record {
    opening_short = at_most_one _ _ p.opening_short q.opening_short i;
    opening_in = all_one AtomIn atom_one b.opening p.opening_in q.opening_in i;
    rules_in = rules_one (length b.rules) p.rules_in q.rules_in i;
    rows_in = rows_one (length b.rows) p.rows_in q.rows_in i;
    each_rule_in = all_one RuleIn rule_one b.rules p.each_rule_in q.each_rule_in i;
    each_row_in = all_one RowIn row_one b.rows p.each_row_in q.each_row_in i;
  }

  -- What a value carries.
  module _ (carried : ∥ InRange b ∥₁) where
    pub in_range : InRange b
    in_range = ∥∥₁_elim carried in_range_one (λ h. h)

    pub opening_ranged : AllByRecursion AtomIn b.opening
    opening_ranged = in_range.opening_in

    pub rule_ranged : (rule : ℕ) (r : Transition) → rule < length b.rules → r ≡ rule_at b rule → RuleIn r
    rule_ranged rule r h is = rw is (All-get_or RuleIn b.rules rule (record { variables = 0; condition = []; effect = [] }) h in_range.each_rule_in)

    pub row_ranged : (row : ℕ) (r : Pattern) → row < length b.rows → r ≡ row_at b row → RowIn r
    row_ranged row r h is = rw is (All-get_or RowIn b.rows row (record { variables = 0; literals = [] }) h in_range.each_row_in)
