-- Kinds of literals by their numbers.
use Rattle.std.proofs.Common.{◌≡◌, ℕ, zero, suc, ◌≤◌, false, leb, sym, refl, inl, inr, arith}
use Rattle.std.proofs.lemmas.Bool.{lt-leb, cases_lt, ne_eqb}
use Rattle.literals.specs.declared.LiteralKind.{LiteralKind}
use Rattle.literals.specs.declared.LiteralKind.TheVariants.{Unary, Binary}
use Rattle.literals.specs.Number.{literal_kind_number}
use Rattle.bodies.specs.Literal.{kind_numbered, atom_in}

-- The kind with a number has that number.
pub numbered : (n : ℕ) → n ≤ 7 → literal_kind_number (kind_numbered n) ≡ n
numbered zero h = refl
numbered (suc zero) h = refl
numbered (suc (suc zero)) h = refl
numbered (suc (suc (suc zero))) h = refl
numbered (suc (suc (suc (suc zero)))) h = refl
numbered (suc (suc (suc (suc (suc zero))))) h = refl
numbered (suc (suc (suc (suc (suc (suc zero)))))) h = refl
numbered (suc (suc (suc (suc (suc (suc (suc n))))))) h = omega arith

-- A number that no kind has is beyond the last.
pub unknown : (n : ℕ) → ((k : LiteralKind) → literal_kind_number k ≡ n → ⊥) → leb n 7 ≡ false
unknown n none = elim (cases_lt 7 n) [ inl h ↦ lt-leb n 7 h | inr h ↦ absurd (none (kind_numbered n) (numbered n h)) ]

-- A number that no kind has is that of no atom.
pub no_atom : (n r d e : ℕ) → ((k : LiteralKind) → literal_kind_number k ≡ n → ⊥) → atom_in n r d e ≡ false
no_atom n r d e none =
    rw (ne_eqb n 0 (λ h. none Unary (sym h)), ne_eqb n 2 (λ h. none Binary (sym h))) refl
