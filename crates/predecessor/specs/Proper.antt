-- The cases of a rule over a row: which variables the rule's variables stand for.
use Rattle.std.specs.Prelude.{◌≡◌, ℕ, zero, suc, ◌+◌, ◌/◌, ◌%◌, ◌<◌, Bool, true, cond, ◌&&◌, List, [], ◌∷◌, length, ◌==◌, nat_le, slice_index}

-- The k digits of a case number in a base, lowest first: the variable that each of the rule's k variables is.
abbrev pub digits : ℕ → ℕ → ℕ → List ℕ
digits base zero n = []
digits base (suc k) n = n % base ∷ digits base k (n / base)

-- With m variables of the row, the numbers m, m + 1, .. are new variables. They are taken in order:
-- m + j + 1 comes only after an earlier variable of the rule has taken m + j.
abbrev pub Proper : ℕ → List ℕ → Type 0
Proper m ds = (i j : ℕ) → i < length ds → slice_index ds i ≡ m + suc j → (h : ℕ) × (h < i) × (slice_index ds h ≡ m + j)

-- The same, computed: `next` is the first new variable that was not taken yet.
abbrev pub proper : ℕ → List ℕ → Bool
proper next [] = true
proper next (d ∷ ds) = nat_le d next && proper (cond (d == next) (suc next) next) ds
