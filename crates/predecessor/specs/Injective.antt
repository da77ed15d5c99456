-- What an injective renaming keeps in both directions, and renamings that agree.
use Rattle.std.specs.Prelude.{◌≡◌, ℕ, ◌<◌, Bool, true, false, not, ◌&&◌, List, [], ◌∷◌, map, ◌==◌, refl}
use Rattle.std.proofs.Common.{ap}
use Rattle.std.specs.List.{AllByRecursion}
use Rattle.std.proofs.ByRecursion.{All-weaker}
use Rattle.std.proofs.lemmas.Bool.Decides.{same_from_decides, Decides-like, Decides-eqb}
use Rattle.literals.specs.declared.Fact.{Fact}
use Rattle.literals.specs.declared.Fact.TheVariants.{Unary, Binary, From, Into}
use Rattle.literals.specs.declared.Literal.{Literal}
use Rattle.literals.specs.State.{fact_under, under}
use Rattle.literals.specs.Follow.{implies, by_signs, yields, denial, follows, contradictory}
use Rattle.literals.proofs.Listing.{any_map}
use Rattle.atoms.specs.Pattern.{Different}
use Rattle.atoms.specs.Range.{FactIn, LiteralIn}
use Rattle.predecessor.specs.Earlier.{loosens, thins, loosened}

module _ (n : ℕ) (p q : ℕ → ℕ) (agree : (x : ℕ) → x < n → p x ≡ q x) where
  fact_agrees : (f : Fact) → FactIn n f → fact_under p f ≡ fact_under q f
  fact_agrees (Unary a x) h = cc (agree x h.1)
  fact_agrees (Binary b x y) h = cc (agree x h.1, agree y h.2)
  fact_agrees (From b x) h = cc (agree x h.1)
  fact_agrees (Into b x) h = cc (agree x h.1)

  -- Renamings that agree on the first n variables do the same to literals over them.
  pub agreeing : (ls : List Literal) → AllByRecursion (LiteralIn n) ls → map (under p) ls ≡ map (under q) ls
  agreeing [] h = refl
  agreeing (l ∷ ls) h = cc (fact_agrees l.fact h.0, agreeing ls h.1)

module _ (n : ℕ) (p : ℕ → ℕ) (different : Different n p) where
  -- different variables stay different
  same_test : (x y : ℕ) → x < n → y < n → (p x == p y) ≡ (x == y)
  same_test x y h k = same_from_decides {P = x ≡ y} (p x == p y) (x == y) (Decides-like (p x == p y) (different x y h k) (λ e. ap p e) (Decides-eqb (p x) (p y))) (Decides-eqb x y)

  both_test : (t : Bool) (x y : ℕ) → x < n → y < n → (t && p x == p y) ≡ (t && x == y)
  both_test t x y h k = ap (λ (u : Bool). t && u) (same_test x y h k)

  implies_under : (g f : Fact) → FactIn n g → FactIn n f → implies (fact_under p g) (fact_under p f) ≡ implies g f
  implies_under (Unary a x) (Unary b y) g f = both_test (a == b) x y g.1 f.1
  implies_under (Unary a x) (Binary b y z) g f = refl
  implies_under (Unary a x) (From b y) g f = refl
  implies_under (Unary a x) (Into b y) g f = refl
  implies_under (Binary a x w) (Unary b y) g f = refl
  implies_under (Binary a x w) (Binary b y z) g f = cc (same_test x y g.1 f.1, same_test w z g.2 f.2)
  implies_under (Binary a x w) (From b y) g f = both_test (a == b) x y g.1 f.1
  implies_under (Binary a x w) (Into b y) g f = both_test (a == b) w y g.2 f.1
  implies_under (From a x) (Unary b y) g f = refl
  implies_under (From a x) (Binary b y z) g f = refl
  implies_under (From a x) (From b y) g f = both_test (a == b) x y g.1 f.1
  implies_under (From a x) (Into b y) g f = refl
  implies_under (Into a x) (Unary b y) g f = refl
  implies_under (Into a x) (Binary b y z) g f = refl
  implies_under (Into a x) (From b y) g f = refl
  implies_under (Into a x) (Into b y) g f = both_test (a == b) x y g.1 f.1

  by_signs_under : (g f : Fact) (s t : Bool) → FactIn n g → FactIn n f → by_signs s t (implies (fact_under p g) (fact_under p f)) (implies (fact_under p f) (fact_under p g)) ≡ by_signs s t (implies g f) (implies f g)
  by_signs_under g f true true h k = implies_under g f h k
  by_signs_under g f true false h k = refl
  by_signs_under g f false true h k = refl
  by_signs_under g f false false h k = implies_under f g k h

  -- A literal follows renamed just if it follows.
  pub follows_under : (ls : List Literal) (l : Literal) → AllByRecursion (LiteralIn n) ls → LiteralIn n l → follows (map (under p) ls) (under p l) ≡ follows ls l
  follows_under ls l hs h =
      any_map (λ k. yields k l) (λ k. yields k (under p l)) (under p) ls
      (All-weaker (LiteralIn n) (λ k. yields (under p k) (under p l) ≡ yields k l) (λ k j. by_signs_under k.fact l.fact k.affirmed l.affirmed j h) ls hs)

  -- A set is contradictory renamed just if it is.
  pub contradictory_under : (ls : List Literal) → AllByRecursion (LiteralIn n) ls → contradictory (map (under p) ls) ≡ contradictory ls
  contradictory_under ls hs =
      any_map (λ l. follows ls (denial l)) (λ l. follows (map (under p) ls) (denial l)) (under p) ls
      (All-weaker (LiteralIn n) (λ l. follows (map (under p) ls) (denial (under p l)) ≡ follows ls (denial l)) (λ l h. follows_under ls (denial l) hs h) ls hs)

  loosens_under : (g f : Fact) → FactIn n g → FactIn n f → loosens (fact_under p g) (fact_under p f) ≡ loosens g f
  loosens_under (Unary a y) f g h = refl
  loosens_under (Binary c y z) (Unary b x) g f = refl
  loosens_under (Binary c y z) (Binary b x w) g f = refl
  loosens_under (Binary c y z) (From b x) g f = both_test (c == b) y x g.1 f.1
  loosens_under (Binary c y z) (Into b x) g f = both_test (c == b) z x g.2 f.1
  loosens_under (From c y) (Unary b x) g f = refl
  loosens_under (From c y) (Binary b x w) g f = refl
  loosens_under (From c y) (From b x) g f = refl
  loosens_under (From c y) (Into b x) g f = refl
  loosens_under (Into c y) (Unary b x) g f = refl
  loosens_under (Into c y) (Binary b x w) g f = refl
  loosens_under (Into c y) (From b x) g f = refl
  loosens_under (Into c y) (Into b x) g f = refl

  -- An effect thins a fact, or loosens a literal, renamed just if it does.
  pub thins_under : (effect : List Literal) (f : Fact) → AllByRecursion (LiteralIn n) effect → FactIn n f → thins (map (under p) effect) (fact_under p f) ≡ thins effect f
  thins_under effect f hs h =
      any_map (λ k. not k.affirmed && loosens k.fact f) (λ k. not k.affirmed && loosens k.fact (fact_under p f)) (under p) effect
      (All-weaker (LiteralIn n) (λ k. (not k.affirmed && loosens (fact_under p k.fact) (fact_under p f)) ≡ (not k.affirmed && loosens k.fact f)) (λ k j. ap (λ (u : Bool). not k.affirmed && u) (loosens_under k.fact f j h)) effect hs)

  pub loosened_under : (effect : List Literal) (l : Literal) → AllByRecursion (LiteralIn n) effect → LiteralIn n l → loosened (map (under p) effect) (under p l) ≡ loosened effect l
  loosened_under effect l hs h = ap (λ (u : Bool). not l.affirmed && u) (thins_under effect l.fact hs h)
