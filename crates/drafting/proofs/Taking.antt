-- A record that is allowed and has the right length is answered as it is taken.
use Rattle.std.proofs.Common.{◌≡◌, ℕ, true, List, Ok, Err, Result, sym, ap, ◌∙◌, subst}
use Rattle.drafting.specs.declared.draft.Draft.{Draft}
use Rattle.records.specs.declared.RecordFault.{RecordFault}
use Rattle.records.specs.declared.RecordFault.TheVariants.{KindNotAllowed, WrongLength, Field, Literal, OutOfMemory}
use Rattle.records.specs.declared.Body.{Body}
use Rattle.records.specs.declared.Record.{Record}
use Rattle.records.specs.declared.RecordKind.{RecordKind}
use Rattle.records.specs.Record.{record_kind, body_of, record_place, record_bytes}
use Rattle.drafting.specs.Progress.{Progress, allowed, long}
use Rattle.drafting.specs.Drafted.{FaultOf, Took, Answered}

answered : (g : Progress) (k : RecordKind) (b : List ℕ) (p : ℕ) (r : Result Draft RecordFault) → allowed g k ≡ true → long g k b ≡ true → Took g k b p r → Answered g k b p r
answered g k b p (Ok d) a l w = (a, l, w.0.0, w.0.1)
answered g k b p (Err (KindNotAllowed q)) a l w = elim w.0 [ ]
answered g k b p (Err (WrongLength q)) a l w = elim w.0 [ ]
answered g k b p (Err (Field f)) a l w = (w.0.0, a, l, w.0.1)
answered g k b p (Err (Literal f)) a l w = (w.0.0, a, l, w.0.1, w.1)
answered g k b p (Err OutOfMemory) a l w = (a, l)

-- The record x is y, and y was taken.
pub taken : (g : Progress) (x y : Record) (kind : RecordKind) (body : Body) (r : Result Draft RecordFault) → x ≡ y → kind ≡ record_kind x → body ≡ body_of x → allowed g kind ≡ true → long g kind body.bytes.now ≡ true → Took g (record_kind y) (record_bytes y) (record_place y) r → Answered g (record_kind x) (record_bytes x) (record_place x) r
taken g x y kind body r is k b a l w =
    answered g (record_kind x) (record_bytes x) (record_place x) r
    (sym (ap (allowed g) k) ∙ a)
    (sym (ap (λ (n : RecordKind). long g n (record_bytes x)) k) ∙ sym (ap (λ (c : Body). long g kind c.bytes.now) b) ∙ l)
    (subst (λ (z : Record). Took g (record_kind z) (record_bytes z) (record_place z) r) (sym is) w)

-- The answer on a record, by its kind, body and place.
pub answered_of : (g : Progress) (x : Record) (k : RecordKind) (b : List ℕ) (p : ℕ) (r : Result Draft RecordFault) → record_kind x ≡ k → record_bytes x ≡ b → record_place x ≡ p → Answered g (record_kind x) (record_bytes x) (record_place x) r → Answered g k b p r
answered_of g x k b p r e f h w =
    subst (λ (q : ℕ). Answered g k b q r) h
    (subst (λ (c : List ℕ). Answered g k c (record_place x) r) f
    (subst (λ (n : RecordKind). Answered g n (record_bytes x) (record_place x) r) e w))

-- What is answered of a record with a fault, the fault can be of the book.
pub fault_of : (g : Progress) (k : RecordKind) (b : List ℕ) (p : ℕ) (e : RecordFault) → Answered g k b p (Err e) → FaultOf g.book e
fault_of g k b p (KindNotAllowed q) w = tt
fault_of g k b p (WrongLength q) w = tt
fault_of g k b p (Field f) w = tt
fault_of g k b p (Literal f) w = w.4
fault_of g k b p OutOfMemory w = tt
