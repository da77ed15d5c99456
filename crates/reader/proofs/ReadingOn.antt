-- A file is read on over records that it has next: over one, and over a list of items with a record or more for each.
use Rattle.std.proofs.Common.{◌≡◌, ℕ, ◌+◌, ◌<◌, ◌≤◌, true, false, List, [], ◌∷◌, ◌++◌, length, get_or, drop, sym, refl, ap, ◌∙◌, subst, arith}
use Rattle.std.specs.List.{flat_map, AllByRecursion}
use Rattle.std.proofs.ByRecursion.{All-get_or}
use Rattle.std.proofs.lemmas.List.{append-nil, append_assoc, length-append, drop_at, get_or_at}
use Rattle.std.proofs.lemmas.Bool.{and_parts, both_ways}
use Rattle.records.specs.declared.Books.{Books}
use Rattle.records.specs.declared.RecordKind.{RecordKind}
use Rattle.records.specs.declared.RecordKind.TheVariants as kind
use Rattle.records.specs.declared.Section.{Section}
use Rattle.records.specs.declared.Section.TheVariants as section
use Rattle.records.specs.Bytes.{length_at, kind_at, body_at}
use Rattle.records.specs.Order.{comes_after, among}
use Rattle.drafting.specs.Progress.{Progress, room, allowed, long, ranged, advance}
use Rattle.reader.specs.Form.{StandsAt, At, more}
use Rattle.reader.specs.Encode.{framed}
use Rattle.reader.proofs.Framing.{length_framed, framed_length, framed_kind, framed_body}

-- Nothing is allowed after the end.
after_end : (k : RecordKind) → among section.End (comes_after k) ≡ false
after_end kind.Head = refl
after_end kind.Opening = refl
after_end kind.Rule = refl
after_end kind.Row = refl
after_end kind.Moves = refl
after_end kind.ObserverRow = refl
after_end kind.Entry = refl
after_end kind.End = refl

unended : (g : Progress) (k : RecordKind) → allowed g k ≡ true → g.section ≡ section.End → ⊥
unended g k a e =
    let parts = and_parts (among g.section (comes_after k)) (room g k) a in
    both_ways (among section.End (comes_after k)) (after_end k) (subst (λ (s : Section). among s (comes_after k) ≡ true) e parts.0)

-- A record is taken, and this is then held.
abbrev pub Takes : Progress → RecordKind → List ℕ → Progress → Type 0
Takes g k b h = (allowed g k ≡ true) × (long g k b ≡ true) × (ranged g k b ≡ true) × (advance g k b ≡ h)

module _ (books : Books) (bytes : List ℕ) where
  -- The file begins with these bytes.
  abbrev pub Begins : List ℕ → Type 0
  Begins front = (rest : List ℕ) × (front ++ rest ≡ bytes)

  pub begins_less : (front after : List ℕ) → Begins (front ++ after) → Begins front
  begins_less front after b = (after ++ b.0, sym (append_assoc front after b.0) ∙ b.1)

  -- It was read over these bytes, and this is held.
  abbrev pub Held : List ℕ → Progress → Type 0
  Held front g = At books bytes (length front) g

  -- Over one more record.
  pub one_record : (front : List ℕ) (g h : Progress) (k : RecordKind) (b : List ℕ) → Takes g k b h → Begins (front ++ framed k b) → Held front g → Held (front ++ framed k b) h
  one_record front g h k b t (rest, is) held =
      let p : ℕ = length front in
      let all : front ++ (framed k b ++ rest) ≡ bytes = sym (append_assoc front (framed k b) rest) ∙ is in
      let here : drop p bytes ≡ framed k b ++ rest = ap (drop p) (sym all) ∙ drop_at front (framed k b ++ rest) p refl in
      let size : length_at (drop p bytes) ≡ length b = ap length_at here ∙ framed_length k b rest in
      let body : body_at (drop p bytes) ≡ b = ap body_at here ∙ framed_body k b rest in
      let place : p + (4 + length_at (drop p bytes)) ≡ length (front ++ framed k b) = omega (arith, size, length-append front (framed k b), length_framed k b) in
      let stands : StandsAt bytes p g k = record {
        unended = unended g k t.0;
        whole = omega (arith, place, ap length is, length-append (front ++ framed k b) rest);
        kind_is = ap kind_at here ∙ framed_kind k b rest;
      } in
      subst (λ (q : ℕ). At books bytes q h) place
      (subst (At books bytes (p + (4 + length_at (drop p bytes)))) (ap (advance g k) body ∙ t.3)
      (more held stands t.0 (rw body t.1) (rw body t.2)))

  -- Over the items of a list, where it is read over one more wherever it was read over those before.
  module _ {X : Type 0} (f : X → List ℕ) (P : List X → Progress) (whole : List X) (one : (front : List ℕ) (done : List X) (x : X) (todo : List X) → whole ≡ done ++ x ∷ todo → Begins (front ++ f x) → Held front (P done) → Held (front ++ f x) (P (done ++ x ∷ []))) where
    onward : (front : List ℕ) (done todo : List X) → whole ≡ done ++ todo → Begins (front ++ flat_map f todo) → Held front (P done) → Held (front ++ flat_map f todo) (P whole)
    onward front done [] e b held =
        subst (λ (w : List ℕ). Held w (P whole)) (sym (append-nil front))
        (subst (λ (xs : List X). Held front (P xs)) (sym (append-nil done) ∙ sym e) held)
    onward front done (x ∷ todo) e b held =
        let one_by_one : (front ++ f x) ++ flat_map f todo ≡ front ++ (f x ++ flat_map f todo) = append_assoc front (f x) (flat_map f todo) in
        let begins : Begins ((front ++ f x) ++ flat_map f todo) = subst Begins (sym one_by_one) b in
        subst (λ (w : List ℕ). Held w (P whole)) one_by_one
        (onward (front ++ f x) (done ++ x ∷ []) todo (e ∙ sym (append_assoc done (x ∷ []) todo)) begins
        (one front done x todo e (begins_less (front ++ f x) (flat_map f todo) begins) held))

    pub all_items : (front : List ℕ) → Begins (front ++ flat_map f whole) → Held front (P []) → Held (front ++ flat_map f whole) (P whole)
    all_items front b held = onward front [] whole refl b held

-- The section where some items of a list were read, if any.
abbrev pub by_some : {X : Type 0} → Section → Section → List X → Section
by_some s t [] = s
by_some s t (x ∷ xs) = t

pub either_section : {X : Type 0} (P : Section → Type 0) (s t : Section) (xs : List X) → P s → P t → P (by_some s t xs)
either_section P s t [] p q = p
either_section P s t (x ∷ xs) p q = q

pub some_came : {X : Type 0} (s t : Section) (xs : List X) → 1 ≤ length xs → by_some s t xs ≡ t
some_came s t [] h = absurd (omega (arith, h))
some_came s t (x ∷ xs) h = refl

-- An item of a list, and those before it.
module _ {X : Type 0} (whole done : List X) (x : X) (todo : List X) (e : whole ≡ done ++ x ∷ todo) where
  pub fewer : length done < length whole
  fewer = omega (arith, ap length e, length-append done (x ∷ todo))

  pub this_item : (d : X) → get_or whole (length done) d ≡ x
  this_item d = ap (λ (xs : List X). get_or xs (length done) d) e ∙ get_or_at done x todo d (length done) refl

  pub all_this : (Q : X → Type 0) → AllByRecursion Q whole → Q x
  all_this Q h = subst Q (this_item x) (All-get_or Q whole (length done) x fewer h)
