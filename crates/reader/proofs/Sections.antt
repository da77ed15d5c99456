-- After which sections a record of a kind was allowed.
use Rattle.std.proofs.Common.{◌≡◌, ℕ, zero, suc, true, eqb, ◌⊎◌, List, [], ◌∷◌, sym, refl, ap, ◌∙◌, subst, inl, inr}
use Rattle.std.proofs.lemmas.Bool.{eqb-true, or_cases, false≢true}
use Rattle.records.specs.declared.Section.{Section}
use Rattle.records.specs.declared.Section.TheVariants as section
use Rattle.records.specs.Order.{section_number, among}

numbered : ℕ → Section
numbered zero = section.Start
numbered (suc zero) = section.Head
numbered (suc (suc zero)) = section.Opening
numbered (suc (suc (suc zero))) = section.Rules
numbered (suc (suc (suc (suc zero)))) = section.Rows
numbered (suc (suc (suc (suc (suc zero))))) = section.Moves
numbered (suc (suc (suc (suc (suc (suc zero)))))) = section.ObserverRows
numbered (suc (suc (suc (suc (suc (suc (suc zero))))))) = section.Entries
numbered (suc (suc (suc (suc (suc (suc (suc (suc n)))))))) = section.End

of_number : (s : Section) → numbered (section_number s) ≡ s
unfolding numbered
of_number section.Start = refl
of_number section.Head = refl
of_number section.Opening = refl
of_number section.Rules = refl
of_number section.Rows = refl
of_number section.Moves = refl
of_number section.ObserverRows = refl
of_number section.Entries = refl
of_number section.End = refl

-- Sections are told apart by their numbers.
pub same_section : (s t : Section) → section_number s ≡ section_number t → s ≡ t
same_section s t e = sym (of_number s) ∙ ap numbered e ∙ of_number t

-- A section that is among some is the first of them, or among the others.
pub among_first : (s t : Section) (ts : List Section) → among s (t ∷ ts) ≡ true → (s ≡ t) ⊎ (among s ts ≡ true)
among_first s t ts h = elim (or_cases (eqb (section_number s) (section_number t)) (among s ts) h) [
  | inl e ↦ inl (same_section s t (eqb-true (section_number s) (section_number t) e))
  | inr r ↦ inr r
]

-- What holds of a section that is one, one of two, or one of three.
pub among_one : (P : Section → Type 0) (s t : Section) → among s (t ∷ []) ≡ true → P s → P t
among_one P s t h p = elim (among_first s t [] h) [ inl e ↦ subst P e p | inr f ↦ absurd (false≢true f) ]

pub among_two : {X : Type 0} (P : Section → Type 0) (s t u : Section) → among s (t ∷ u ∷ []) ≡ true → P s → (P t → X) → (P u → X) → X
among_two P s t u h p one two = elim (among_first s t (u ∷ []) h) [ inl e ↦ one (subst P e p) | inr r ↦ two (among_one P s u r p) ]

pub among_three : {X : Type 0} (P : Section → Type 0) (s t u v : Section) → among s (t ∷ u ∷ v ∷ []) ≡ true → P s → (P t → X) → (P u → X) → (P v → X) → X
among_three P s t u v h p one two three = elim (among_first s t (u ∷ v ∷ []) h) [ inl e ↦ one (subst P e p) | inr r ↦ among_two P s u v r p two three ]
