-- The law of files, from the one verdict on its form and the judge's law.
use Rattle.std.proofs.Common.{◌≡◌, ℕ, List, IfSome, Some, None, Ok, Err, Option, Result, sym, refl, ap, ◌∙◌, subst, arith, MatchOption}
use Rattle.pattern.specs.Run.{Firing, Leads}
use Rattle.pattern.specs.Call.{Exchange, Calls}
use Rattle.judge.specs.declared.TableRefusal.{TableRefusal}
use Rattle.judge.specs.Acceptance.{Claim, Accepted, FirstFailure, Within}
use Rattle.judge.specs.Safety.{SafeAfter}
use Rattle.judge.specs.Law.{Law}
use Rattle.records.specs.declared.Books.TheVariants.{Any}
use Rattle.records.specs.declared.FormFault.{FormFault}
use Rattle.drafting.specs.Progress.{Progress}
use Rattle.reader.specs.Dossier.{Dossier, dossier_of}
use Rattle.reader.specs.Form.{InForm, Faulty, Reached, OneVerdict}
use Rattle.line.specs.declared.Verdict.TheVariants.{Accept, Form, Refuse}
use Rattle.dossier.specs.Meaning.{FileBook, FileState, file_book, book_meaning, file_meaning}
use Rattle.dossier.specs.Law.{HoldsDossier, FileLaw}
use Rattle.dossier.specs.Opened.{verdict_of, of_form}

-- The judge's law over the kind that was made is the law over the file's dossier.
pub law_of : (d : Dossier) (b : FileBook) (table : List Claim) (answer : Result (Unit {0}) TableRefusal) → b ≡ file_book d → table ≡ d.entries → Law (book_meaning b) table answer → Law (file_meaning d) d.entries answer
law_of d b table answer e f law = subst (λ (x : FileBook). Law (book_meaning x) d.entries answer) e (subst (λ (x : List Claim). Law (book_meaning b) x answer) f law)

apart : {X : Type 0} → ◌≡◌ {A = ℕ} 0 1 → X
apart z = absurd (omega arith)

module _ (bytes : List ℕ) (one : OneVerdict Any bytes) where
  same : (g h : Progress) → InForm Any bytes g → InForm Any bytes h → g ≡ h
  same g h a b = let e : ◌≡◌ {A = Result Progress FormFault} (Ok g) (Ok h) = one.alone (Ok g) a ∙ sym (one.alone (Ok h) b) in cc

  not_both : {X : Type 0} (g : Progress) (f : FormFault) → InForm Any bytes g → Faulty Any bytes f → X
  not_both g f a b = let e : ◌≡◌ {A = Result Progress FormFault} (Ok g) (Err f) = one.alone (Ok g) a ∙ sym (one.alone (Err f) b) in apart (cc)

  -- A file that is not in form.
  pub faulty_law : (f : FormFault) → Faulty Any bytes f → FileLaw bytes (Form f)
  faulty_law f w = record {
    accepts = λ e. apart (cc);
    accepted = λ d h _. not_both h.0 f h.1 w;
    not_in_form = λ k e. let same-fault : f ≡ k = cc in subst (Faulty Any bytes) same-fault w;
    faulty = λ k h. let e : ◌≡◌ {A = Result Progress FormFault} (Err f) (Err k) = one.alone (Err f) w ∙ sym (one.alone (Err k) h) in cc;
    refuses = λ k e. apart (cc);
    refused = λ d k h _. not_both h.0 f h.1 w;
    numbered = λ k e. apart (cc);
    safe_runs = λ e. apart (cc);
    safe_calls = λ e. apart (cc);
  }

  -- The fault of a file, or want of memory.
  pub fault_law : (o : Option FormFault) → MatchOption o (Reached Any bytes) (Faulty Any bytes) → IfSome (verdict_of (Err (of_form o))) (FileLaw bytes)
  fault_law None w = tt
  fault_law (Some f) w = faulty_law f w

  module _ (g : Progress) (form : InForm Any bytes g) where
    -- The dossier is the only one.
    only : (d : Dossier) → HoldsDossier bytes d → dossier_of g ≡ d
    only d h = ap dossier_of (same g h.0 form h.1) ∙ h.2

    there : HoldsDossier bytes (dossier_of g)
    there = (g, form, refl)

    -- A file in form whose table is accepted.
    pub accepted_law : Law (file_meaning (dossier_of g)) (dossier_of g).entries (Ok tt) → FileLaw bytes Accept
    accepted_law law = record {
      accepts = λ _. (dossier_of g, there, law.accepts refl);
      accepted = λ _ _ _. refl;
      not_in_form = λ k e. apart (cc);
      faulty = λ k h. not_both g k form h;
      refuses = λ k e. apart (cc);
      refused = λ d k h w. let e : ◌≡◌ {A = Result (Unit {0}) TableRefusal} (Ok tt) (Err k) = law.refused k (subst (λ (x : Dossier). FirstFailure (file_meaning x) x.entries k) (sym (only d h)) w) in apart (cc);
      numbered = λ k e. apart (cc);
      safe_runs = λ _ d h. subst SafeRuns (only d h) (law.safe_runs refl);
      safe_calls = λ _ d h. subst SafeCalls (only d h) (law.safe_calls refl);
    } where
      SafeRuns : Dossier → Type 0
      SafeRuns x = (fs : List Firing) (s : FileState) → Leads (file_meaning x) (file_meaning x).opening fs s → (file_meaning x).Stands 0 s → ⊥

      SafeCalls : Dossier → Type 0
      SafeCalls x = (log : List Exchange) (s : FileState) → Calls (file_meaning x) (file_meaning x).opening log s → SafeAfter (file_meaning x) log s

    -- A file in form whose table is refused.
    pub refused_law : (f : TableRefusal) → Law (file_meaning (dossier_of g)) (dossier_of g).entries (Err f) → FileLaw bytes (Refuse f)
    refused_law f law = record {
      accepts = λ e. apart (cc);
      accepted = λ d h w. let e : ◌≡◌ {A = Result (Unit {0}) TableRefusal} (Err f) (Ok tt) = law.accepted (subst (λ (x : Dossier). Accepted (file_meaning x) x.entries) (sym (only d h)) w) in apart (cc);
      not_in_form = λ k e. apart (cc);
      faulty = λ k h. not_both g k form h;
      refuses = λ k e. let same-refusal : f ≡ k = cc in subst (λ (x : TableRefusal). (d : Dossier) × HoldsDossier bytes d × FirstFailure (file_meaning d) d.entries x) same-refusal (dossier_of g, there, law.refuses f refl);
      refused = λ d k h w. let e : ◌≡◌ {A = Result (Unit {0}) TableRefusal} (Err f) (Err k) = law.refused k (subst (λ (x : Dossier). FirstFailure (file_meaning x) x.entries k) (sym (only d h)) w) in cc;
      numbered = λ k e d h. let same-refusal : f ≡ k = cc in subst (λ (x : Dossier). Within x.entries k) (only d h) (subst (Within (dossier_of g).entries) same-refusal (law.numbered f refl));
      safe_runs = λ e. apart (cc);
      safe_calls = λ e. apart (cc);
    }
