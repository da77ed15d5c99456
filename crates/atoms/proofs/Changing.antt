-- What facts and effects make of the cells' state.
use Rattle.std.proofs.Common.{◌≡◌, ℕ, ◌+◌, ◌<◌, ◌≤◌, Bool, true, false, not, ◌&&◌, ◌||◌, List, [], ◌∷◌, length, get_or, drop, sym, refl, ap, ◌∙◌, subst}
use Rattle.std.specs.List.{AllByRecursion}
use Rattle.std.proofs.lemmas.List.{at_drop_more, at_drop_all, get_or-map, length-map}
use Rattle.std.proofs.ByRecursion.{All-get_or}
use Rattle.std.proofs.lemmas.Bool.{both_ways}
use Rattle.literals.specs.declared.Fact.TheVariants.{Unary, Binary}
use Rattle.literals.specs.declared.Literal.{Literal}
use Rattle.literals.specs.State.{State, under, chosen}
use Rattle.literals.specs.Follow.{implies, follows}
use Rattle.atoms.specs.Book.{object_count}
use Rattle.atoms.specs.Range.{FactIn, LiteralIn}
use Rattle.atoms.specs.Cells.{gains, loses, gained, lost}
use Rattle.atoms.proofs.Setting.{same_state, with_none, without_none}

-- An effect, literal by literal.
or_first : (s p q : Bool) → (s || (p || q)) ≡ ((s || p) || q)
or_first true p q = refl
or_first false p q = refl

without_both : (s p q : Bool) → (s && not (p || q)) ≡ ((s && not p) && not q)
without_both true true q = refl
without_both true false q = refl
without_both false p q = refl

pub first_gained : (k : Literal) (ks : List Literal) (s t : State) → k.affirmed ≡ true → t ≡ gains k.fact s → gained (k ∷ ks) s ≡ gained ks t
first_gained k ks s t on is = affirms k.affirmed on ∙ ap (gained ks) (sym is)
  where
    affirms : (v : Bool) → v ≡ true → gained (record { fact = k.fact; affirmed = v } ∷ ks) s ≡ gained ks (gains k.fact s)
    affirms true e = same_state (gained (record { fact = k.fact; affirmed = true } ∷ ks) s) (gained ks (gains k.fact s))
        (λ a d. or_first (s.unary a d) (implies k.fact (Unary a d)) (follows ks (record { fact = Unary a d; affirmed = true })))
        (λ b d e. or_first (s.binary b d e) (implies k.fact (Binary b d e)) (follows ks (record { fact = Binary b d e; affirmed = true })))
    affirms false e = absurd (both_ways false refl e)

first_not_gained : (k : Literal) (ks : List Literal) (s : State) → k.affirmed ≡ false → gained (k ∷ ks) s ≡ gained ks s
first_not_gained k ks s off = denies k.affirmed off
  where
    denies : (v : Bool) → v ≡ false → gained (record { fact = k.fact; affirmed = v } ∷ ks) s ≡ gained ks s
    denies true e = absurd (both_ways true e refl)
    denies false e = refl

first_lost : (k : Literal) (ks : List Literal) (s t : State) → k.affirmed ≡ false → t ≡ loses k.fact s → lost (k ∷ ks) s ≡ lost ks t
first_lost k ks s t off is = denies k.affirmed off ∙ ap (lost ks) (sym is)
  where
    denies : (v : Bool) → v ≡ false → lost (record { fact = k.fact; affirmed = v } ∷ ks) s ≡ lost ks (loses k.fact s)
    denies true e = absurd (both_ways true e refl)
    denies false e = same_state (lost (record { fact = k.fact; affirmed = false } ∷ ks) s) (lost ks (loses k.fact s))
        (λ a d. without_both (s.unary a d) (implies (Unary a d) k.fact) (follows ks (record { fact = Unary a d; affirmed = false })))
        (λ b d e. without_both (s.binary b d e) (implies (Binary b d e) k.fact) (follows ks (record { fact = Binary b d e; affirmed = false })))

first_not_lost : (k : Literal) (ks : List Literal) (s : State) → k.affirmed ≡ true → lost (k ∷ ks) s ≡ lost ks s
first_not_lost k ks s on = affirms k.affirmed on
  where
    affirms : (v : Bool) → v ≡ true → lost (record { fact = k.fact; affirmed = v } ∷ ks) s ≡ lost ks s
    affirms true e = refl
    affirms false e = absurd (both_ways false refl e)

module _ (choice : List ℕ) (effect : List Literal) (i : ℕ) (d : Literal) (h : i < length effect) where
  abbrev here : Literal
  here = under (λ x. get_or choice x 0) (get_or effect i d)

  module _ (k : Literal) (is : k ≡ here) where
    pub literal_in : AllByRecursion (LiteralIn object_count) (chosen choice effect) → FactIn object_count k.fact
    literal_in all =
        let long : i < length (chosen choice effect) = rw length-map h in
        subst (λ (l : Literal). FactIn object_count l.fact) (sym is) (subst (LiteralIn object_count) (get_or-map (under (λ x. get_or choice x 0)) effect i d here h) (All-get_or (LiteralIn object_count) (chosen choice effect) i here long all))

    pub gain_more : (s t u : State) → (get_or effect i d).affirmed ≡ true → t ≡ gains k.fact s → gained (chosen choice (drop i effect)) s ≡ u → gained (chosen choice (drop (i + 1) effect)) t ≡ u
    gain_more s t u on now inv =
        sym (first_gained here (chosen choice (drop (i + 1) effect)) s t on (now ∙ ap (λ (l : Literal). gains l.fact s) is)) ∙ sym (at_drop_more (λ ls. gained (chosen choice ls) s) effect i d h) ∙ inv

    pub lose_more : (s t u : State) → (get_or effect i d).affirmed ≡ false → t ≡ loses k.fact s → lost (chosen choice (drop i effect)) s ≡ u → lost (chosen choice (drop (i + 1) effect)) t ≡ u
    lose_more s t u off now inv =
        sym (first_lost here (chosen choice (drop (i + 1) effect)) s t off (now ∙ ap (λ (l : Literal). loses l.fact s) is)) ∙ sym (at_drop_more (λ ls. lost (chosen choice ls) s) effect i d h) ∙ inv

  pub gain_skip : (s u : State) → (get_or effect i d).affirmed ≡ false → gained (chosen choice (drop i effect)) s ≡ u → gained (chosen choice (drop (i + 1) effect)) s ≡ u
  gain_skip s u off inv = sym (first_not_gained here (chosen choice (drop (i + 1) effect)) s off) ∙ sym (at_drop_more (λ ls. gained (chosen choice ls) s) effect i d h) ∙ inv

  pub lose_skip : (s u : State) → (get_or effect i d).affirmed ≡ true → lost (chosen choice (drop i effect)) s ≡ u → lost (chosen choice (drop (i + 1) effect)) s ≡ u
  lose_skip s u on inv = sym (first_not_lost here (chosen choice (drop (i + 1) effect)) s on) ∙ sym (at_drop_more (λ ls. lost (chosen choice ls) s) effect i d h) ∙ inv

pub gained_none : (s : State) → s ≡ gained [] s
gained_none s = same_state s (gained [] s) (λ a d. with_none (s.unary a d)) (λ b d e. with_none (s.binary b d e))

module _ (choice : List ℕ) (effect : List Literal) (i : ℕ) (past : length effect ≤ i) (s u : State) where
  pub gain_end : gained (chosen choice (drop i effect)) s ≡ u → s ≡ u
  gain_end inv = gained_none s ∙ sym (at_drop_all (λ ls. gained (chosen choice ls) s) effect i past) ∙ inv

  pub lose_end : lost (chosen choice (drop i effect)) s ≡ u → s ≡ u
  lose_end inv = same_state s (lost (chosen choice []) s) (λ a d. without_none (s.unary a d)) (λ b d e. without_none (s.binary b d e)) ∙ sym (at_drop_all (λ ls. lost (chosen choice ls) s) effect i past) ∙ inv
