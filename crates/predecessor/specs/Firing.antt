-- What an effect of objects makes of literals: what held before, what holds after.
use Rattle.std.specs.Prelude.{◌≡◌, ℕ, Bool, true, false, not, ◌&&◌, ◌||◌, ◌⊎◌, List, ◌==◌, ◌≢◌, refl}
use Rattle.std.proofs.Common.{sym, inl, inr}
use Rattle.std.specs.List.{AllByRecursion}
use Rattle.std.proofs.lemmas.Bool.{and_parts, and_from, or_cases, or_left, not_from_false, eqb-true, eq-eqb, false≢true}
use Rattle.std.proofs.lemmas.Grind.{common_steps}
use Rattle.std.proofs.Common.{arith}
use Rattle.literals.specs.declared.Fact.{Fact}
use Rattle.literals.specs.declared.Fact.TheVariants.{Unary, Binary, From, Into}
use Rattle.literals.specs.declared.Literal.{Literal}
use Rattle.literals.specs.State.{State, TrueIn, Said, Holds, AllHold}
use Rattle.literals.specs.Follow.{implies, by_signs, yields, denial, follows, contradictory}
use Rattle.literals.proofs.Failing.{fails, fails_both}
use Rattle.literals.proofs.Listing.{each_counts, each_fails, any_either, any_weaker, all_from_both}
use Rattle.literals.proofs.Following.{sound, never_both}
use Rattle.atoms.specs.Fire.{remains, after}
use Rattle.atoms.specs.Range.{Effective, EffectIn}
use Rattle.predecessor.specs.Earlier.{loosens, thins, loosened, made_true, made_false}

abbrev lit : Fact → Bool → Literal
lit f b = record { fact = f; affirmed = b }

-- an atom that an effect leaves, or brings, by whether it was there and what the effect says of it
left : (before gained lost : Bool) → before ≡ true → lost ≡ false → ((before || gained) && not lost) ≡ true
left before gained lost h k = and_from (before || gained) (not lost) (or_left before gained h) (not_from_false lost k)

come : (before gained lost : Bool) → gained ≡ true → lost ≡ false → ((before || gained) && not lost) ≡ true
come before gained lost h k = grind (arith, common_steps)

was : (before gained lost : Bool) → ((before || gained) && not lost) ≡ true → (before ≡ true) ⊎ (gained ≡ true)
was before gained lost e = or_cases before gained (and_parts (before || gained) (not lost) e).0

not_lost : (before gained lost : Bool) → ((before || gained) && not lost) ≡ true → lost ≢ true
not_lost before gained lost e h = grind (arith, common_steps)

same : (a : ℕ) → (a == a) ≡ true
same a = eq-eqb a a refl

turned : (a b : ℕ) → (a == b) ≡ true → (b == a) ≡ true
turned a b e = eq-eqb b a (sym (eqb-true a b e))

module _ (b x z : ℕ) where
  -- a denial from which that of b(x, z) follows
  one_gone : (g : Fact) (s : Bool) → by_signs s false (implies g (Binary b x z)) (implies (Binary b x z) g) ≡ true
      → ((by_signs s false (implies g (From b x)) (implies (From b x) g) ≡ true) ⊎ ((not s && loosens g (From b x)) ≡ true))
      × ((by_signs s false (implies g (Into b z)) (implies (Into b z) g) ≡ true) ⊎ ((not s && loosens g (Into b z)) ≡ true))
  one_gone g true e = absurd (false≢true e)
  one_gone (Unary c y) false e = absurd (false≢true e)
  one_gone (Binary c y w) false e = (inr (grind (arith, common_steps)), inr (grind (arith, common_steps)))
  one_gone (From c y) false e = (inl e, inr (grind (arith, common_steps)))
  one_gone (Into c y) false e = (inr (grind (arith, common_steps)), inl e)

  -- an affirmed fact from which b(x, z) follows
  one_new : (g : Fact) (s : Bool) → by_signs s true (implies g (Binary b x z)) (implies (Binary b x z) g) ≡ true
      → (by_signs s true (implies g (From b x)) (implies (From b x) g) ≡ true) × (by_signs s true (implies g (Into b z)) (implies (Into b z) g) ≡ true)
  one_new g false e = absurd (false≢true e)
  one_new (Unary c y) true e = absurd (false≢true e)
  one_new (Binary c y w) true e = grind (arith, common_steps)
  one_new (From c y) true e = absurd (false≢true e)
  one_new (Into c y) true e = absurd (false≢true e)

  module _ (effect : List Literal) where
    -- Where a pair goes, the effect denies any pair out of its first object, or thins them; and so into its second.
    gone_from : follows effect (lit (Binary b x z) false) ≡ true → (follows effect (lit (From b x) false) ≡ true) ⊎ (thins effect (From b x) ≡ true)
    gone_from e = any_either (λ k. yields k (lit (Binary b x z) false)) (λ k. yields k (lit (From b x) false)) (λ k. not k.affirmed && loosens k.fact (From b x)) (λ k t. (one_gone k.fact k.affirmed t).0) effect e

    gone_into : follows effect (lit (Binary b x z) false) ≡ true → (follows effect (lit (Into b z) false) ≡ true) ⊎ (thins effect (Into b z) ≡ true)
    gone_into e = any_either (λ k. yields k (lit (Binary b x z) false)) (λ k. yields k (lit (Into b z) false)) (λ k. not k.affirmed && loosens k.fact (Into b z)) (λ k t. (one_gone k.fact k.affirmed t).1) effect e

    -- Where a pair comes, the effect affirms a pair out of its first object, and one into its second.
    new_from : follows effect (lit (Binary b x z) true) ≡ true → follows effect (lit (From b x) true) ≡ true
    new_from e = any_weaker (λ k. yields k (lit (Binary b x z) true)) (λ k. yields k (lit (From b x) true)) (λ k t. (one_new k.fact k.affirmed t).0) effect e

    new_into : follows effect (lit (Binary b x z) true) ≡ true → follows effect (lit (Into b z) true) ≡ true
    new_into e = any_weaker (λ k. yields k (lit (Binary b x z) true)) (λ k. yields k (lit (Into b z) true)) (λ k t. (one_new k.fact k.affirmed t).1) effect e

module _ (effect : List Literal) (s : State) where
  -- what was there, of what is there after
  before : (g : Fact) (t : Bool) → remains effect g t ≡ true → follows effect (lit g true) ≡ false → t ≡ true
  before g t e h = grind (arith, common_steps)

  stays : (g : Fact) (t : Bool) → t ≡ true → follows effect (lit g false) ≡ false → remains effect g t ≡ true
  stays g t e h = rw (e, h)

  -- a pair that was there stays, one that is there was there: by what the effect says of its first object, or of its second
  stays_from : (b x z : ℕ) → s.binary b x z ≡ true → follows effect (lit (From b x) false) ≡ false → thins effect (From b x) ≡ false → (after effect s).binary b x z ≡ true
  stays_from b x z e t l = stays (Binary b x z) (s.binary b x z) e (fails_both (follows effect (lit (Binary b x z) false)) (follows effect (lit (From b x) false)) (thins effect (From b x)) (gone_from b x z effect) t l)

  stays_into : (b x z : ℕ) → s.binary b x z ≡ true → follows effect (lit (Into b z) false) ≡ false → thins effect (Into b z) ≡ false → (after effect s).binary b x z ≡ true
  stays_into b x z e t l = stays (Binary b x z) (s.binary b x z) e (fails_both (follows effect (lit (Binary b x z) false)) (follows effect (lit (Into b z) false)) (thins effect (Into b z)) (gone_into b x z effect) t l)

  before_from : (b x z : ℕ) → (after effect s).binary b x z ≡ true → follows effect (lit (From b x) true) ≡ false → s.binary b x z ≡ true
  before_from b x z e t = before (Binary b x z) (s.binary b x z) e (fails (follows effect (lit (Binary b x z) true)) (follows effect (lit (From b x) true)) (new_from b x z effect) t)

  before_into : (b x z : ℕ) → (after effect s).binary b x z ≡ true → follows effect (lit (Into b z) true) ≡ false → s.binary b x z ≡ true
  before_into b x z e t = before (Binary b x z) (s.binary b x z) e (fails (follows effect (lit (Binary b x z) true)) (follows effect (lit (Into b z) true)) (new_into b x z effect) t)

  fact_before : (f : Fact) (b : Bool) → Said b (TrueIn (after effect s) f) → follows effect (lit f b) ≡ false → loosened effect (lit f b) ≡ false → Said b (TrueIn s f)
  fact_before (Unary a x) true h t l = before (Unary a x) (s.unary a x) h t
  fact_before (Binary b x y) true h t l = before (Binary b x y) (s.binary b x y) h t
  fact_before (From b x) true h t l = (h.0, before_from b x h.0 h.1 t)
  fact_before (Into b x) true h t l = (h.0, before_into b h.0 x h.1 t)
  fact_before (Unary a x) false h t l = λ e. h (stays (Unary a x) (s.unary a x) e t)
  fact_before (Binary b x y) false h t l = λ e. h (stays (Binary b x y) (s.binary b x y) e t)
  fact_before (From b x) false h t l = λ e. h (e.0, stays_from b x e.0 e.1 t l)
  fact_before (Into b x) false h t l = λ e. h (e.0, stays_into b e.0 x e.1 t l)

  -- A literal that holds after the effect, and is neither made true nor loosened by it, held before.
  pub held_before : (l : Literal) → Holds (after effect s) l → made_true effect l ≡ false → loosened effect l ≡ false → Holds s l
  held_before l h t k = fact_before l.fact l.affirmed h t k

  fact_after : (f : Fact) (b : Bool) → Said b (TrueIn s f) → follows effect (lit f (not b)) ≡ false → thins effect f ≡ false → Said b (TrueIn (after effect s) f)
  fact_after (Unary a x) true h t l = stays (Unary a x) (s.unary a x) h t
  fact_after (Binary b x y) true h t l = stays (Binary b x y) (s.binary b x y) h t
  fact_after (From b x) true h t l = (h.0, stays_from b x h.0 h.1 t l)
  fact_after (Into b x) true h t l = (h.0, stays_into b h.0 x h.1 t l)
  fact_after (Unary a x) false h t l = λ e. h (before (Unary a x) (s.unary a x) e t)
  fact_after (Binary b x y) false h t l = λ e. h (before (Binary b x y) (s.binary b x y) e t)
  fact_after (From b x) false h t l = λ e. h (e.0, before_from b x e.0 e.1 t)
  fact_after (Into b x) false h t l = λ e. h (e.0, before_into b e.0 x e.1 t)

  -- A literal that held before the effect, and is not made false by it, nor its fact thinned, holds after.
  pub holds_after : (l : Literal) → Holds s l → made_false effect l ≡ false → thins effect l.fact ≡ false → Holds (after effect s) l
  holds_after l h t k = fact_after l.fact l.affirmed h t k

  -- what a literal of the effect that is not denied by it says of the state after
  brought : (f : Fact) (b : Bool) → (b ≡ true → Effective f) → ((l : Literal) → yields (lit f b) l ≡ true → follows effect l ≡ true) → follows effect (lit f (not b)) ≡ false → Said b (TrueIn (after effect s) f)
  brought (Unary a x) true h c n = come (s.unary a x) _ _ (c (lit (Unary a x) true) (grind (arith, common_steps))) n
  brought (Binary b x y) true h c n = come (s.binary b x y) _ _ (c (lit (Binary b x y) true) (grind (arith, common_steps))) n
  brought (From b x) true h c n = absurd (h refl)
  brought (Into b x) true h c n = absurd (h refl)
  brought (Unary a x) false h c n = λ e. not_lost (s.unary a x) _ _ e (c (lit (Unary a x) false) (grind (arith, common_steps)))
  brought (Binary b x y) false h c n = λ e. not_lost (s.binary b x y) _ _ e (c (lit (Binary b x y) false) (grind (arith, common_steps)))
  brought (From b x) false h c n = λ e. not_lost (s.binary b x e.0) _ _ e.1 (c (lit (Binary b x e.0) false) (grind (arith, common_steps)))
  brought (Into b x) false h c n = λ e. not_lost (s.binary b e.0 x) _ _ e.1 (c (lit (Binary b e.0 x) false) (grind (arith, common_steps)))

  module _ (effective : AllByRecursion EffectIn effect) (fair : contradictory effect ≡ false) where
    -- What a fair effect says holds after it.
    pub effect_holds : AllHold (after effect s) effect
    effect_holds =
        all_from_both (λ l. EffectIn l × (follows effect (denial l) ≡ false)) (λ l. (k : Literal) → yields l k ≡ true → follows effect k ≡ true) (Holds (after effect s))
        (λ l p c. brought l.fact l.affirmed p.0 c p.1) effect
        (all_from_both EffectIn (λ l. follows effect (denial l) ≡ false) (λ l. EffectIn l × (follows effect (denial l) ≡ false)) (λ l p q. (p, q)) effect effective (each_fails (λ l. follows effect (denial l)) effect fair))
        (each_counts (λ k l. yields l k) effect)

    -- What it makes true holds after it, and what it makes false does not.
    pub made_true_holds : (l : Literal) → made_true effect l ≡ true → Holds (after effect s) l
    made_true_holds l e = (sound effect).follows_holds (after effect s) l e effect_holds

    pub made_false_fails : (l : Literal) → made_false effect l ≡ true → Holds (after effect s) l → ⊥
    made_false_fails l e h = never_both (after effect s) l h (made_true_holds (denial l) e)
