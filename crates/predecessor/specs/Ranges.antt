-- What a renaming makes of the ranges of literals, and what is read of a book in range.
use Rattle.std.specs.Prelude.{◌≡◌, ℕ, ◌<◌, ◌≤◌, List, [], map, length, slice_index}
use Rattle.std.proofs.Common.{arith}
use Rattle.std.specs.List.{AllByRecursion}
use Rattle.std.proofs.ByRecursion.{All-weaker, All-map, All-get_or}
use Rattle.literals.specs.declared.Fact.{Fact}
use Rattle.literals.specs.declared.Fact.TheVariants.{Unary, Binary, From, Into}
use Rattle.literals.specs.declared.Literal.{Literal}
use Rattle.literals.specs.State.{fact_under, under, chosen}
use Rattle.atoms.specs.Book.{AtomsBook, rule_at, row_at}
use Rattle.atoms.specs.Range.{FactIn, LiteralIn, Effective, EffectIn, RuleIn, RowIn, InRange}

more_variables : (n k : ℕ) → n ≤ k → (f : Fact) → FactIn n f → FactIn k f
more_variables n k h (Unary a x) p = (p.0, omega (arith, p.1))
more_variables n k h (Binary b x y) p = (p.0, omega (arith, p.1), omega (arith, p.2))
more_variables n k h (From b x) p = (p.0, omega (arith, p.1))
more_variables n k h (Into b x) p = (p.0, omega (arith, p.1))

-- Literals over some variables are literals over more.
pub in_more : (n k : ℕ) → n ≤ k → (ls : List Literal) → AllByRecursion (LiteralIn n) ls → AllByRecursion (LiteralIn k) ls
in_more n k h ls = All-weaker (LiteralIn n) (LiteralIn k) (λ l. more_variables n k h l.fact) ls

renamed_in : (n k : ℕ) (p : ℕ → ℕ) → ((x : ℕ) → x < n → p x < k) → (f : Fact) → FactIn n f → FactIn k (fact_under p f)
renamed_in n k p h (Unary a x) q = (q.0, h x q.1)
renamed_in n k p h (Binary b x y) q = (q.0, h x q.1, h y q.2)
renamed_in n k p h (From b x) q = (q.0, h x q.1)
renamed_in n k p h (Into b x) q = (q.0, h x q.1)

-- Literals over n variables, each given one of k.
pub chosen_in : (n k : ℕ) (xs : List ℕ) → length xs ≡ n → AllByRecursion (λ x. x < k) xs → (ls : List Literal) → AllByRecursion (LiteralIn n) ls → AllByRecursion (LiteralIn k) (chosen xs ls)
chosen_in n k xs e h ls hs =
    All-map (LiteralIn k) (under (λ x. slice_index xs x)) ls
    (All-weaker (LiteralIn n) (λ l. LiteralIn k (under (λ x. slice_index xs x) l)) (λ l. renamed_in n k (λ x. slice_index xs x) (λ x l. All-get_or (λ y. y < k) xs x 0 (omega arith) h) l.fact) ls hs)

effective_under : (p : ℕ → ℕ) (f : Fact) → Effective f → Effective (fact_under p f)
effective_under p (Unary a x) h = tt
effective_under p (Binary b x y) h = tt
effective_under p (From b x) h = h
effective_under p (Into b x) h = h

-- An effect that affirms only atoms does so renamed.
pub effect_in_under : (p : ℕ → ℕ) (ls : List Literal) → AllByRecursion EffectIn ls → AllByRecursion EffectIn (map (under p) ls)
effect_in_under p ls h = All-map EffectIn (under p) ls (All-weaker EffectIn (λ l. EffectIn (under p l)) (λ l q e. effective_under p l.fact (q e)) ls h)

-- What is read of a book in range is in range.
module _ (b : AtomsBook) (range : InRange b) where
  pub rule_in_range : (rule : ℕ) → rule < length b.rules → RuleIn (rule_at b rule)
  rule_in_range rule h = All-get_or RuleIn b.rules rule (record { variables = 0; condition = []; effect = [] }) h range.each_rule_in

  pub row_in_range : (row : ℕ) → row < length b.rows → RowIn (row_at b row)
  row_in_range row h = All-get_or RowIn b.rows row (record { variables = 0; literals = [] }) h range.each_row_in
