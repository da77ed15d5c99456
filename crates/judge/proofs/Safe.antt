-- An accepted table makes every run and every list of calls safe.
use Rattle.std.proofs.Common.{◌≡◌, ℕ, ◌<◌, List, [], refl}
use Rattle.pattern.specs.declared.Sort.{Sort}
use Rattle.pattern.specs.declared.Sort.TheVariants.{Idle, Own, Open}
use Rattle.pattern.specs.Meaning.{Meaning, to}
use Rattle.pattern.specs.Duty.{Duties}
use Rattle.pattern.specs.Run.{Firing, Leads, stay, step}
use Rattle.pattern.specs.Call.{Exchange, Calls}
use Rattle.judge.specs.Acceptance.{Claim, Clear, Accepted}
use Rattle.judge.specs.Safety.{run_of, SafeAfter, Guarded}
use Rattle.judge.proofs.Runs.{calls_lead}
use Rattle.judge.proofs.Guarding.{never_seen}
use Rattle.judge.proofs.Covering.{each_open_covered}

module _ {S : Type 0} (m : Meaning S) (d : Duties m) (table : List Claim) (ok : Accepted m table) where
  -- No rule leads from a state without rows to one with a row.
  clear_next : (s t : S) (rule : ℕ) (choice : List ℕ) → rule < m.rules → m.Next s rule choice (to t) → Clear m s → Clear m t
  clear_next s t rule choice h x clear row a stands =
      let back = d.steps_back s t row rule choice a h x stands in
      go back.0 back.1 back.2 (m.sort (record { row = row; rule = rule; number = back.0 })) refl
    where
      go : (n : ℕ) → n < m.cases row rule → m.Earlier (record { row = row; rule = rule; number = n }) s → (o : Sort) → m.sort (record { row = row; rule = rule; number = n }) ≡ o → ⊥
      go n b e Idle o = d.idle_empty (record { row = row; rule = rule; number = n }) s o e
      go n b e Own o = clear row a (d.own_stands (record { row = row; rule = rule; number = n }) s o e)
      go n b e Open o =
          let w = each_open_covered m table ok.covered row rule n a h b o in
          clear w.0.row w.1.0 (d.covered_stands (record { row = row; rule = rule; number = n }) w.0.row w.0.matching s w.1.1 e)

  clear_run : {s t : S} {fs : List Firing} → Leads m s fs t → Clear m s → Clear m t
  clear_run stay clear = clear
  clear_run (step {s} {t} {u} {f} h x rest) clear = clear_run rest (clear_next s t f.rule f.choice h x clear)

  -- No run from the opening state ends where a row stands.
  run_clear : {s : S} {fs : List Firing} → Leads m m.opening fs s → Clear m s
  run_clear w = clear_run w ok.clear

  -- No run from the opening state ends where the fault stands.
  pub runs_safe : (fs : List Firing) (s : S) → Leads m m.opening fs s → m.Stands 0 s → ⊥
  runs_safe fs s l = run_clear l 0 d.rows_allowed.0

  pub opening_guarded : Guarded m m.opening
  opening_guarded = (d.rows_allowed.0, runs_safe, runs_safe)

  -- Every list of calls on a model in the opening state is safe.
  pub calls_safe : (log : List Exchange) (s : S) → Calls m m.opening log s → SafeAfter m log s
  calls_safe log s w = record {
    reached = calls_lead m w stay;
    no_fault = runs_safe (run_of [] log) s (calls_lead m w stay);
    never_seen = never_seen m opening_guarded w;
  }
