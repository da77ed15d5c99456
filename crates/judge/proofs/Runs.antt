-- Runs go on with the calls on a model.
use Rattle.std.proofs.Common.{◌<◌, List, [], ◌∷◌, ◌++◌, Ok, Err, Result}
use Rattle.pattern.specs.declared.FireRefusal.{FireRefusal}
use Rattle.pattern.specs.declared.Answer.{Answer}
use Rattle.pattern.specs.declared.Answer.TheVariants.{Fired as fired}
use Rattle.pattern.specs.Meaning.{Meaning, to}
use Rattle.pattern.specs.Run.{Firing, Leads, stay, step}
use Rattle.pattern.specs.Call.{Call, fire, Fired, Called, fires, looks, restarts, Exchange, Calls, none, more}
use Rattle.pattern.proofs.Refusing.{refused_stays}
use Rattle.judge.specs.Safety.{run_after, run_of}

module _ {S : Type 0} (m : Meaning S) where
  leads_more : {s t u : S} {fs : List Firing} {f : Firing} → Leads m s fs t → f.rule < m.rules → m.Next t f.rule f.choice (to u) → Leads m s (fs ++ f ∷ []) u
  leads_more stay h x = step h x stay
  leads_more (step h' x' rest) h x = step h' x' (leads_more rest h x)

  fired_leads : (s t : S) (f : Firing) (fs : List Firing) (r : Result (Unit {0}) FireRefusal) → Fired m s f.rule f.choice r t → Leads m m.opening fs s → Leads m m.opening (run_after fs (fire f) (fired r)) t
  fired_leads s t f fs (Ok _) w l = leads_more l w.0 w.2
  fired_leads s t f fs (Err e) w l = rw (refused_stays m s t f.rule f.choice e w) l

  called_leads : {s t : S} {c : Call} {a : Answer} {fs : List Firing} → Called m s c a t → Leads m m.opening fs s → Leads m m.opening (run_after fs c a) t
  called_leads (fires {s} {t} {f} {r} w) l = fired_leads s t f _ r w l
  called_leads (looks w) l = l
  called_leads restarts l = stay

  pub calls_lead : {s t : S} {log : List Exchange} {fs : List Firing} → Calls m s log t → Leads m m.opening fs s → Leads m m.opening (run_of fs log) t
  calls_lead none l = l
  calls_lead (more w ws) l = calls_lead ws (called_leads w l)
