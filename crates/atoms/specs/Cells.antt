-- The state that cells hold, and what one fact makes of a state.
use Rattle.std.specs.Prelude.{ℕ, Bool, true, false, not, ◌&&◌, ◌||◌, List, [], nat_lt, slice_index_or}
use Rattle.literals.specs.declared.Fact.{Fact}
use Rattle.literals.specs.declared.Fact.TheVariants.{Unary, Binary}
use Rattle.literals.specs.declared.Literal.{Literal}
use Rattle.literals.specs.State.{State}
use Rattle.literals.specs.Follow.{implies, follows}
use Rattle.atoms.specs.declared.cells.Cells.{Cells}
use Rattle.atoms.specs.declared.objects.Objects.{Objects}
use Rattle.atoms.specs.declared.objects.Pairs.{Pairs}
use Rattle.atoms.specs.Book.{relation_count}
use Rattle.atoms.specs.Objects.{has_object, has_pair, no_objects}

-- What is read past the end.
abbrev pub no_pairs : Pairs
no_pairs = record { from = [] }

-- Whether an atom is there; one beyond the relations and objects of a model is not.
abbrev pub unary_cell : List Objects → ℕ → ℕ → Bool
unary_cell cells a d = nat_lt a relation_count && has_object (slice_index_or cells a no_objects) d

abbrev pub binary_cell : List Pairs → ℕ → ℕ → ℕ → Bool
binary_cell cells b d e = nat_lt b relation_count && has_pair (slice_index_or cells b no_pairs) d e

-- The state that cells hold.
abbrev pub state_of : Cells → State
state_of c = record { unary = unary_cell c.unary; binary = binary_cell c.binary }

-- A state with the atoms that a fact affirms.
abbrev pub gains : Fact → State → State
gains f s = record { unary = λ a d. s.unary a d || implies f (Unary a d); binary = λ b d e. s.binary b d e || implies f (Binary b d e) }

-- A state without the atoms that imply a fact.
abbrev pub loses : Fact → State → State
loses f s = record { unary = λ a d. s.unary a d && not (implies (Unary a d) f); binary = λ b d e. s.binary b d e && not (implies (Binary b d e) f) }

-- A state with the atoms that an effect affirms, and one without those that it denies.
abbrev pub gained : List Literal → State → State
gained effect s = record {
  unary = λ a d. s.unary a d || follows effect (record { fact = Unary a d; affirmed = true });
  binary = λ b d e. s.binary b d e || follows effect (record { fact = Binary b d e; affirmed = true });
}

abbrev pub lost : List Literal → State → State
lost effect s = record {
  unary = λ a d. s.unary a d && not (follows effect (record { fact = Unary a d; affirmed = false }));
  binary = λ b d e. s.binary b d e && not (follows effect (record { fact = Binary b d e; affirmed = false }));
}
