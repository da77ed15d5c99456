-- The model holds the opening state of a book whose atoms are in range.
use Rattle.std.specs.Prelude.{◌≡◌, ℕ, ◌<◌, true, false, not, ◌&&◌, List, map, refl}
use Rattle.std.proofs.Common.{sym, ◌∙◌, arith}
use Rattle.std.specs.List.{AllByRecursion}
use Rattle.std.proofs.lemmas.Bool.{and_parts, false≢true}
use Rattle.std.proofs.lemmas.Grind.{common_steps}
use Rattle.literals.specs.declared.Fact.{Fact}
use Rattle.literals.specs.declared.Fact.TheVariants.{Unary, Binary}
use Rattle.literals.specs.declared.Literal.{Literal}
use Rattle.literals.specs.Follow.{yields, follows}
use Rattle.literals.proofs.Listing.{some_passes, any_map, all_of}
use Rattle.atoms.specs.declared.Atom.{Atom}
use Rattle.atoms.specs.declared.Atom.TheVariants as atom
use Rattle.atoms.specs.Book.{affirmed, just, Held, relation_count, object_count}
use Rattle.atoms.specs.Range.{AtomIn}

-- An atom of the opening is one of those that were given.
given : (atoms : List Atom) (f : Fact) → AllByRecursion AtomIn atoms → (follows (map affirmed atoms) (record { fact = f; affirmed = true }) && not (follows (map affirmed atoms) (record { fact = f; affirmed = false }))) ≡ true
    → (x : Atom) × (yields (affirmed x) (record { fact = f; affirmed = true }) ≡ true) × AtomIn x
given atoms f h e =
    let l : Literal = record { fact = f; affirmed = true } in
    some_passes (λ x. yields (affirmed x) l) AtomIn atoms
    (sym (any_map (λ x. yields (affirmed x) l) (λ k. yields k l) affirmed atoms (all_of (λ x. yields (affirmed x) l ≡ yields (affirmed x) l) (λ x. refl) atoms)) ∙ (and_parts (follows (map affirmed atoms) l) _ e).0) h

unary_in : (x : Atom) (a d : ℕ) → yields (affirmed x) (record { fact = Unary a d; affirmed = true }) ≡ true → AtomIn x → (a < relation_count) × (d < object_count)
unary_in (atom.Unary b e) a d t h = grind (arith, common_steps)
unary_in (atom.Binary b e f) a d t h = absurd (false≢true t)

binary_in : (x : Atom) (b d e : ℕ) → yields (affirmed x) (record { fact = Binary b d e; affirmed = true }) ≡ true → AtomIn x → (b < relation_count) × (d < object_count) × (e < object_count)
binary_in (atom.Unary c f) b d e t h = absurd (false≢true t)
binary_in (atom.Binary c f g) b d e t h = grind (arith, common_steps)

pub just_held : (atoms : List Atom) → AllByRecursion AtomIn atoms → Held (just atoms)
just_held atoms h = record {
  unary_held = λ a d e. let w = given atoms (Unary a d) h e in unary_in w.0 a d w.1 w.2;
  binary_held = λ b d e t. let w = given atoms (Binary b d e) h t in binary_in w.0 b d e w.1 w.2;
}
