-- A test that fails since what it brings fails.
use Rattle.std.proofs.Common.{◌≡◌, Bool, true, false, ◌⊎◌, inl, inr}
use Rattle.std.proofs.lemmas.Bool.{both_ways, cases_Bool}

-- It would bring what there is not.
pub fails_so : (t : Bool) → (t ≡ true → ⊥) → t ≡ false
fails_so t never = elim (cases_Bool t) [ inl e ↦ absurd (never e) | inr e ↦ e ]

-- It would bring another pass, or one of two others.
pub fails : (t u : Bool) → (t ≡ true → u ≡ true) → u ≡ false → t ≡ false
fails t u brings h = fails_so t (λ e. both_ways u h (brings e))

pub fails_both : (t u v : Bool) → (t ≡ true → (u ≡ true) ⊎ (v ≡ true)) → u ≡ false → v ≡ false → t ≡ false
fails_both t u v brings h k = fails_so t (λ e. elim (brings e) [ inl w ↦ both_ways u h w | inr w ↦ both_ways v k w ])
