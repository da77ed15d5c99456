-- What sets of objects and of pairs of objects have.
use Rattle.std.specs.Prelude.{ℕ, Bool, false, ◌&&◌, [], nat_lt, slice_index_or}
use Rattle.atoms.specs.declared.objects.Objects.{Objects}
use Rattle.atoms.specs.declared.objects.Pairs.{Pairs}
use Rattle.atoms.specs.Book.{object_count}

-- An object beyond the model is in no set.
abbrev pub has_object : Objects → ℕ → Bool
has_object o d = nat_lt d object_count && slice_index_or o.has d false

-- What is read past the end.
abbrev pub no_objects : Objects
no_objects = record { has = [] }

abbrev pub has_pair : Pairs → ℕ → ℕ → Bool
has_pair p d e = nat_lt d object_count && has_object (slice_index_or p.from d no_objects) e
