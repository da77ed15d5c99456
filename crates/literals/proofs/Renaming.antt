-- Renaming literals: one renaming after another, and what every renaming keeps.
use Rattle.std.proofs.Common.{◌≡◌, ℕ, Bool, true, false, ◌&&◌, eqb, List, [], ◌∷◌, map, refl, ap, ◌∙◌}
use Rattle.std.proofs.lemmas.Bool.{and_parts, and_from, eqb-true, eq-eqb, false≢true}
use Rattle.literals.specs.declared.literal.Fact.{Fact}
use Rattle.literals.specs.declared.literal.Fact.TheVariants.{Unary, Binary, From, Into}
use Rattle.literals.specs.declared.literal.Literal.{Literal}
use Rattle.literals.specs.State.{fact_under, under}
use Rattle.literals.specs.Follow.{implies, by_signs, yields, denial, follows, contradictory}
use Rattle.literals.proofs.Listing.{map_keeps}

fact_again : (p q : ℕ → ℕ) (f : Fact) → fact_under p (fact_under q f) ≡ fact_under (λ x. p (q x)) f
fact_again p q (Unary a x) = refl
fact_again p q (Binary b x y) = refl
fact_again p q (From b x) = refl
fact_again p q (Into b x) = refl

-- One renaming after another is a renaming.
pub under_again : (p q : ℕ → ℕ) (l : Literal) → under p (under q l) ≡ under (λ x. p (q x)) l
under_again p q l = ap {B = Literal} (λ (f : Fact). record { fact = f; affirmed = l.affirmed }) (fact_again p q l.fact)

pub map_under_again : (p q : ℕ → ℕ) (ls : List Literal) → map (under p) (map (under q) ls) ≡ map (under (λ x. p (q x))) ls
map_under_again p q [] = refl
map_under_again p q (l ∷ ls) = ap {B = List Literal} (λ (k : Literal). k ∷ map (under p) (map (under q) ls)) (under_again p q l) ∙ ap {B = List Literal} (λ (ks : List Literal). under (λ x. p (q x)) l ∷ ks) (map_under_again p q ls)

module _ (p : ℕ → ℕ) where
  -- equal variables stay equal
  still : (x y : ℕ) → eqb x y ≡ true → eqb (p x) (p y) ≡ true
  still x y e = eq-eqb (p x) (p y) (ap p (eqb-true x y e))

  still_both : (t : Bool) (x y : ℕ) → (t && eqb x y) ≡ true → (t && eqb (p x) (p y)) ≡ true
  still_both t x y e = let w = and_parts t (eqb x y) e in and_from t (eqb (p x) (p y)) w.0 (still x y w.1)

  implies_kept : (g f : Fact) → implies g f ≡ true → implies (fact_under p g) (fact_under p f) ≡ true
  implies_kept (Unary a x) (Unary b y) e = still_both (eqb a b) x y e
  implies_kept (Unary a x) (Binary b y z) e = absurd (false≢true e)
  implies_kept (Unary a x) (From b y) e = absurd (false≢true e)
  implies_kept (Unary a x) (Into b y) e = absurd (false≢true e)
  implies_kept (Binary a x w) (Unary b y) e = absurd (false≢true e)
  implies_kept (Binary a x w) (Binary b y z) e =
      let t = and_parts (eqb a b) (eqb x y && eqb w z) e in
      let u = and_parts (eqb x y) (eqb w z) t.1 in
      and_from (eqb a b) (eqb (p x) (p y) && eqb (p w) (p z)) t.0 (and_from (eqb (p x) (p y)) (eqb (p w) (p z)) (still x y u.0) (still w z u.1))
  implies_kept (Binary a x w) (From b y) e = still_both (eqb a b) x y e
  implies_kept (Binary a x w) (Into b y) e = still_both (eqb a b) w y e
  implies_kept (From a x) (Unary b y) e = absurd (false≢true e)
  implies_kept (From a x) (Binary b y z) e = absurd (false≢true e)
  implies_kept (From a x) (From b y) e = still_both (eqb a b) x y e
  implies_kept (From a x) (Into b y) e = absurd (false≢true e)
  implies_kept (Into a x) (Unary b y) e = absurd (false≢true e)
  implies_kept (Into a x) (Binary b y z) e = absurd (false≢true e)
  implies_kept (Into a x) (From b y) e = absurd (false≢true e)
  implies_kept (Into a x) (Into b y) e = still_both (eqb a b) x y e

  by_signs_kept : (g f : Fact) (x y : Bool) → by_signs x y (implies g f) (implies f g) ≡ true → by_signs x y (implies (fact_under p g) (fact_under p f)) (implies (fact_under p f) (fact_under p g)) ≡ true
  by_signs_kept g f true true e = implies_kept g f e
  by_signs_kept g f true false e = absurd (false≢true e)
  by_signs_kept g f false true e = absurd (false≢true e)
  by_signs_kept g f false false e = implies_kept f g e

  yields_kept : (k l : Literal) → yields k l ≡ true → yields (under p k) (under p l) ≡ true
  yields_kept k l e = by_signs_kept k.fact l.fact k.affirmed l.affirmed e

  -- What follows, follows renamed.
  pub follows_kept : (ls : List Literal) (l : Literal) → follows ls l ≡ true → follows (map (under p) ls) (under p l) ≡ true
  follows_kept ls l e = map_keeps (λ k. yields k l) (λ k. yields k (under p l)) (under p) (λ k. yields_kept k l) ls e

  -- A contradictory set stays so.
  pub contradictory_kept : (ls : List Literal) → contradictory ls ≡ true → contradictory (map (under p) ls) ≡ true
  contradictory_kept ls e = map_keeps (λ l. follows ls (denial l)) (λ l. follows (map (under p) ls) (denial l)) (under p) (λ l. follows_kept ls (denial l)) ls e
