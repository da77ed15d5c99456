-- Calls keep a guarded state guarded, and a look at the fault says no.
use Rattle.std.proofs.Common.{◌≡◌, ℕ, Bool, true, false, List, [], ◌∷◌, Ok, Err, Result, refl, ap, arith}
use Rattle.pattern.specs.declared.FireRefusal.{FireRefusal}
use Rattle.pattern.specs.declared.LookRefusal.{LookRefusal}
use Rattle.pattern.specs.declared.Answer.{Answer}
use Rattle.pattern.specs.declared.Answer.TheVariants.{Looked as looked}
use Rattle.pattern.specs.Meaning.{Meaning}
use Rattle.pattern.specs.Run.{stay, step}
use Rattle.pattern.specs.Call.{Call, look, Fired, Looked, Called, fires, looks, restarts, Exchange, Calls, none, more}
use Rattle.pattern.proofs.Refusing.{refused_stays}
use Rattle.judge.specs.Safety.{FaultNeverSeen, Guarded}

module _ {S : Type 0} (m : Meaning S) where
  pub restarted : {s : S} → Guarded m s → Guarded m m.opening
  restarted g = (g.0, g.2, g.2)

  pub fired : (s t : S) (rule : ℕ) (choice : List ℕ) (r : Result (Unit {0}) FireRefusal) → Guarded m s → Fired m s rule choice r t → Guarded m t
  fired s t rule choice (Ok _) g w = (g.0, λ fs u l. g.1 (record { rule = rule; choice = choice } ∷ fs) u (step w.0 w.2 l), g.2)
  fired s t rule choice (Err e) g w = rw (refused_stays m s t rule choice e w) g

  pub says_no : (s : S) (row : ℕ) (r : Result Bool LookRefusal) → Guarded m s → Looked m s row r → row ≡ 0 → r ≡ Ok false
  says_no s row (Ok true) g w e = absurd (g.1 [] s stay (rw e at (w.1.0 refl)))
  says_no s row (Ok false) g w e = refl
  says_no s row (Err _) g w e = absurd (omega (arith, g.0))

  called : {s t : S} {c : Call} {a : Answer} → Guarded m s → Called m s c a t → Guarded m t
  called g (fires {s} {t} {f} {r} w) = fired s t f.rule f.choice r g w
  called g (looks w) = g
  called g restarts = restarted g

  called_says_no : {s t : S} {c : Call} {a : Answer} → Guarded m s → Called m s c a t → c ≡ look 0 → a ≡ looked (Ok false)
  called_says_no g (fires w) e = absurd (let z : ◌≡◌ {A = ℕ} 0 1 = cc in omega arith)
  called_says_no g (looks {s} {row} {r} w) e = ap looked (says_no s row r g w (cc))
  called_says_no g restarts e = absurd (let z : ◌≡◌ {A = ℕ} 0 1 = cc in omega arith)

  pub played : {s t : S} {log : List Exchange} → Guarded m s → Calls m s log t → Guarded m t
  played g none = g
  played g (more w ws) = played (called g w) ws

  pub never_seen : {s t : S} {log : List Exchange} → Guarded m s → Calls m s log t → FaultNeverSeen log
  never_seen g none = tt
  never_seen g (more w ws) = (called_says_no g w, never_seen (called g w) ws)
