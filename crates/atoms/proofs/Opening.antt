-- The state of just some atoms, added one by one.
use Rattle.std.proofs.Common.{◌≡◌, ℕ, ◌+◌, ◌<◌, ◌≤◌, Bool, true, false, not, ◌&&◌, List, [], ◌∷◌, map, length, get_or, drop, sym, refl, ap, ◌∙◌, subst}
use Rattle.std.proofs.lemmas.List.{at_drop_more, at_drop_all}
use Rattle.literals.specs.declared.Fact.{Fact}
use Rattle.literals.specs.declared.Fact.TheVariants.{Unary, Binary}
use Rattle.literals.specs.State.{State}
use Rattle.literals.specs.Follow.{follows}
use Rattle.atoms.specs.declared.book.Atom.{Atom}
use Rattle.atoms.specs.declared.book.Atom.TheVariants as atom
use Rattle.atoms.specs.Fire.{after}
use Rattle.atoms.specs.Book.{nothing, affirmed, just, object_count}
use Rattle.atoms.specs.Range.{AtomIn, FactIn}
use Rattle.atoms.specs.Cells.{gains, gained}
use Rattle.atoms.proofs.Setting.{same_state}
use Rattle.atoms.proofs.Changing.{first_gained, gained_none}

-- What is read of atoms past the end.
abbrev pub no_atom : Atom
no_atom = atom.Unary 0 0

pub atom_in : (x : Atom) (f : Fact) → f ≡ (affirmed x).fact → AtomIn x → FactIn object_count f
atom_in (atom.Unary a d) f is h = subst (FactIn object_count) (sym is) h
atom_in (atom.Binary b d e) f is h = subst (FactIn object_count) (sym is) h

affirms : (x : Atom) → (affirmed x).affirmed ≡ true
affirms (atom.Unary a d) = refl
affirms (atom.Binary b d e) = refl

-- Atoms that are affirmed deny nothing.
none_denied : (atoms : List Atom) (f : Fact) → follows (map affirmed atoms) (record { fact = f; affirmed = false }) ≡ false
none_denied [] f = refl
none_denied (atom.Unary a d ∷ atoms) f = none_denied atoms f
none_denied (atom.Binary b d e ∷ atoms) f = none_denied atoms f

stays : (x y : Bool) → y ≡ false → x ≡ (x && not y)
stays true y e = sym (ap not e)
stays false y e = refl

all_gained : (atoms : List Atom) (s : State) → gained (map affirmed atoms) s ≡ after (map affirmed atoms) s
all_gained atoms s = same_state (gained (map affirmed atoms) s) (after (map affirmed atoms) s)
    (λ a d. stays ((gained (map affirmed atoms) s).unary a d) (follows (map affirmed atoms) (record { fact = Unary a d; affirmed = false })) (none_denied atoms (Unary a d)))
    (λ b d e. stays ((gained (map affirmed atoms) s).binary b d e) (follows (map affirmed atoms) (record { fact = Binary b d e; affirmed = false })) (none_denied atoms (Binary b d e)))

module _ (atoms : List Atom) (i : ℕ) where
  pub add_more : (d : Atom) → i < length atoms → (s t u : State) → t ≡ gains (affirmed (get_or atoms i d)).fact s → gained (map affirmed (drop i atoms)) s ≡ u → gained (map affirmed (drop (i + 1) atoms)) t ≡ u
  add_more d h s t u is inv =
      sym (first_gained (affirmed (get_or atoms i d)) (map affirmed (drop (i + 1) atoms)) s t (affirms (get_or atoms i d)) is) ∙ sym (at_drop_more (λ xs. gained (map affirmed xs) s) atoms i d h) ∙ inv

  pub add_end : length atoms ≤ i → (s : State) → gained (map affirmed (drop i atoms)) s ≡ gained (map affirmed atoms) nothing → s ≡ just atoms
  add_end h s inv = gained_none s ∙ sym (at_drop_all (λ xs. gained (map affirmed xs) s) atoms i h) ∙ inv ∙ all_gained atoms nothing
