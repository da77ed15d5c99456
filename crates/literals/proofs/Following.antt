-- What follows from literals that hold in a state holds there, and a contradictory set holds nowhere.
use Rattle.std.proofs.Common.{◌≡◌, ℕ, Bool, true, false, not, ◌&&◌, eqb, List}
use Rattle.std.proofs.lemmas.Bool.{and_parts, eqb-true, false≢true}
use Rattle.literals.specs.declared.literal.Fact.{Fact}
use Rattle.literals.specs.declared.literal.Fact.TheVariants.{Unary, Binary, From, Into}
use Rattle.literals.specs.declared.literal.Literal.{Literal}
use Rattle.literals.specs.State.{State, TrueIn, Said, Holds, AllHold}
use Rattle.literals.specs.Follow.{implies, by_signs, yields, denial, follows, contradictory, Sound}
use Rattle.literals.proofs.Listing.{some_passes}

-- what two tests of equal numbers say
both : (a b x y : ℕ) → (eqb a b && eqb x y) ≡ true → (a ≡ b) × (x ≡ y)
both a b x y e = let p = and_parts (eqb a b) (eqb x y) e in (eqb-true a b p.0, eqb-true x y p.1)

three : (a b x y w z : ℕ) → (eqb a b && (eqb x y && eqb w z)) ≡ true → (a ≡ b) × (x ≡ y) × (w ≡ z)
three a b x y w z e =
    let p = and_parts (eqb a b) (eqb x y && eqb w z) e in
    let q = both x y w z p.1 in
    (eqb-true a b p.0, q.0, q.1)

-- A fact that a true one implies is true.
pub implied_true : (s : State) (g f : Fact) → implies g f ≡ true → TrueIn s g → TrueIn s f
implied_true s (Unary a x) (Unary b y) e h = let p = both a b x y e in rw (← p.0, ← p.1) h
implied_true s (Unary a x) (Binary b y z) e h = absurd (false≢true e)
implied_true s (Unary a x) (From b y) e h = absurd (false≢true e)
implied_true s (Unary a x) (Into b y) e h = absurd (false≢true e)
implied_true s (Binary a x w) (Unary b y) e h = absurd (false≢true e)
implied_true s (Binary a x w) (Binary b y z) e h = let p = three a b x y w z e in rw (← p.0, ← p.1, ← p.2) h
implied_true s (Binary a x w) (From b y) e h = let p = both a b x y e in (w, rw (← p.0, ← p.1) h)
implied_true s (Binary a x w) (Into b y) e h = let p = both a b w y e in (x, rw (← p.0, ← p.1) h)
implied_true s (From a x) (Unary b y) e h = absurd (false≢true e)
implied_true s (From a x) (Binary b y z) e h = absurd (false≢true e)
implied_true s (From a x) (From b y) e h = let p = both a b x y e in (h.0, rw (← p.0, ← p.1) h.1)
implied_true s (From a x) (Into b y) e h = absurd (false≢true e)
implied_true s (Into a x) (Unary b y) e h = absurd (false≢true e)
implied_true s (Into a x) (Binary b y z) e h = absurd (false≢true e)
implied_true s (Into a x) (From b y) e h = absurd (false≢true e)
implied_true s (Into a x) (Into b y) e h = let p = both a b x y e in (h.0, rw (← p.0, ← p.1) h.1)

by_signs_said : (s : State) (g f : Fact) (x y : Bool) → by_signs x y (implies g f) (implies f g) ≡ true → Said x (TrueIn s g) → Said y (TrueIn s f)
by_signs_said s g f true true e h = implied_true s g f e h
by_signs_said s g f true false e h = absurd (false≢true e)
by_signs_said s g f false true e h = absurd (false≢true e)
by_signs_said s g f false false e h = λ t. h (implied_true s f g e t)

-- A literal that one that holds yields holds.
pub yielded_holds : (s : State) (k l : Literal) → yields k l ≡ true → Holds s k → Holds s l
yielded_holds s k l e h = by_signs_said s k.fact l.fact k.affirmed l.affirmed e h

clash : (b : Bool) (P : Type 0) → Said b P → Said (not b) P → ⊥
clash true P h k = k h
clash false P h k = h k

-- A literal and its denial do not both hold.
pub never_both : (s : State) (l : Literal) → Holds s l → Holds s (denial l) → ⊥
never_both s l h k = clash l.affirmed (TrueIn s l.fact) h k

pub sound : (ls : List Literal) → Sound ls
sound ls = record { follows_holds = follows_holds; contradictory_nowhere = nowhere }
  where
    follows_holds : (s : State) (l : Literal) → follows ls l ≡ true → AllHold s ls → Holds s l
    follows_holds s l e h = let w = some_passes (λ k. yields k l) (Holds s) ls e h in yielded_holds s w.0 l w.1 w.2

    nowhere : (s : State) → contradictory ls ≡ true → AllHold s ls → ⊥
    nowhere s e h = let w = some_passes (λ l. follows ls (denial l)) (Holds s) ls e h in never_both s w.0 w.2 (follows_holds s (denial w.0) w.1 h)
