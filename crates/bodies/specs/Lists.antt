-- Lists of literals and of atoms, four bytes each.
use Rattle.std.specs.Prelude.{◌≡◌, ℕ, Bool, true, false, ◌&&◌, List, [], ◌∷◌, Ok, Err, vec_items, Result, Vec}
use Rattle.std.specs.declared.alloc.Global.{Global}
use Rattle.literals.specs.declared.Literal.{Literal}
use Rattle.atoms.specs.declared.Atom.{Atom}
use Rattle.records.specs.declared.RecordFault.{RecordFault}
use Rattle.records.specs.declared.RecordFault.TheVariants as fault
use Rattle.records.specs.Fault.{literal_place}
use Rattle.bodies.specs.declared.literal.Role.{Role}
use Rattle.bodies.specs.Literal.{of_four, literal_in, literal_of, atom_in, atom_of}

-- What four bytes each give, and whether each four are in range. Up to three bytes that are left over count for nothing.
abbrev pub each_four : {X : Type 0} → (ℕ → ℕ → ℕ → ℕ → X) → List ℕ → List X
each_four f [] = []
each_four f (a ∷ []) = []
each_four f (a ∷ b ∷ []) = []
each_four f (a ∷ b ∷ c ∷ []) = []
each_four f (a ∷ b ∷ c ∷ d ∷ bytes) = f a b c d ∷ each_four f bytes

abbrev pub all_four : (ℕ → ℕ → ℕ → ℕ → Bool) → List ℕ → Bool
all_four p [] = true
all_four p (a ∷ []) = true
all_four p (a ∷ b ∷ []) = true
all_four p (a ∷ b ∷ c ∷ []) = true
all_four p (a ∷ b ∷ c ∷ d ∷ bytes) = p a b c d && all_four p bytes

abbrev pub literals_in : Role → ℕ → List ℕ → Bool
literals_in role n = all_four (literal_in role n)

abbrev pub literals_of : List ℕ → List Literal
literals_of = each_four literal_of

abbrev pub atoms_in : List ℕ → Bool
atoms_in = all_four atom_in

abbrev pub atoms_of : List ℕ → List Atom
atoms_of = each_four atom_of

-- What reading a body, or a part of one, gives: where it is in range, what it says; else the record's place. Want of memory says nothing.
abbrev pub Taken : {X Y : Type 0} → (X → Y) → Bool → Y → ℕ → Result X RecordFault → Type 0
Taken meaning ranged value place (Ok x) = (ranged ≡ true) × (meaning x ≡ value)
Taken meaning ranged value place (Err (fault.KindNotAllowed p)) = ⊥
Taken meaning ranged value place (Err (fault.WrongLength p)) = ⊥
Taken meaning ranged value place (Err (fault.Field f)) = (f.place ≡ place) × (ranged ≡ false)
Taken meaning ranged value place (Err (fault.Literal f)) = (literal_place f ≡ place) × (ranged ≡ false)
Taken meaning ranged value place (Err fault.OutOfMemory) = Unit {0}

-- Four bytes, and what they give.
abbrev pub FourTaken : {X : Type 0} → (ℕ → ℕ → ℕ → ℕ → Bool) → (ℕ → ℕ → ℕ → ℕ → X) → List ℕ → ℕ → Result X RecordFault → Type 0
FourTaken p f four place = Taken (λ x. x) (of_four p four) (of_four f four) place

abbrev pub LiteralsRead : Role → ℕ → List ℕ → ℕ → Result (Vec Literal Global) RecordFault → Type 0
LiteralsRead role n bytes place = Taken vec_items (literals_in role n bytes) (literals_of bytes) place

abbrev pub AtomsRead : List ℕ → ℕ → Result (Vec Atom Global) RecordFault → Type 0
AtomsRead bytes place = Taken vec_items (atoms_in bytes) (atoms_of bytes) place
