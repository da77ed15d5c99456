-- How a walk over the open cases goes on, case by case.
use Rattle.std.proofs.Common.{◌≡◌, ℕ, suc, ◌+◌, ◌-◌, ◌<◌, ◌≤◌, List, [], ◌∷◌, ◌++◌, length, get_or, take, drop, sym, refl, ap, ◌∙◌, subst, arith}
use Rattle.std.proofs.lemmas.List.{append-nil, append_assoc, take_more, take-append-drop, length-take-le}
use Rattle.pattern.specs.declared.Case.{Case}
use Rattle.pattern.specs.declared.Sort.{Sort}
use Rattle.pattern.specs.declared.Sort.TheVariants.{Idle, Own, Open}
use Rattle.pattern.specs.Meaning.{Meaning}
use Rattle.judge.specs.declared.table.TableRefusal.{TableRefusal}
use Rattle.judge.specs.Walk.{each, listed, open_case, open_of_rule, open_of_row, open_cases}
use Rattle.judge.specs.Acceptance.{Claim, Right, Cover, none, next, Fails, later}

each_more : (first n : ℕ) (f : ℕ → List Case) → first < n → each first (n - first) f ≡ f first ++ each (first + 1) (n - (first + 1)) f
each_more first n f h = let e : n - first ≡ suc (n - (first + 1)) = omega arith in rw e refl

each_end : (first n : ℕ) (f : ℕ → List Case) → n ≤ first → each first (n - first) f ≡ []
each_end first n f h = let e : n - first ≡ 0 = omega arith in rw e refl

each_all : (n : ℕ) (f : ℕ → List Case) → each 0 (n - 0) f ≡ each 0 n f
each_all n f = let e : n - 0 ≡ n = omega arith in rw e refl

module _ {S : Type 0} (m : Meaning S) where
  cover_push : {cs : List Case} {es : List Claim} (c : Case) (e : Claim) → Cover m cs es → Right m c e → Cover m (cs ++ c ∷ []) (es ++ e ∷ [])
  cover_push c e none r = next r none
  cover_push c e (next q w) r = next q (cover_push c e w r)

  -- A failure after claims that cover is a failure of the whole walk.
  fails_after : {past : List Case} {es : List Claim} (rest : List Case) (fs : List Claim) (n k : ℕ) {f : TableRefusal} → Cover m past es → k ≡ n + length es → Fails m k rest fs f → Fails m n (past ++ rest) (es ++ fs) f
  fails_after rest fs n k none e w = let same : k ≡ n = omega arith in rw (sym same) w
  fails_after rest fs n k (next {es = es} r q) e w = later r (fails_after rest fs (n + 1) k q (let more : k ≡ n + suc (length es) = e in omega arith) w)

  -- What is left of the walk from a row on, from a rule of a row on, from a case of both on.
  abbrev pub rows_left : ℕ → List Case
  rows_left row = each row (m.rows - row) (open_of_row m)

  abbrev pub rules_left : ℕ → ℕ → List Case
  rules_left row rule = each rule (m.rules - rule) (open_of_rule m row) ++ rows_left (row + 1)

  abbrev pub cases_left : ℕ → ℕ → ℕ → List Case
  cases_left row rule number = each number (m.cases row rule - number) (open_case m row rule) ++ rules_left row (rule + 1)

  -- A walk with this table that has used so many claims has these open cases before it.
  pub record Ahead (table : List Claim) (used : ℕ) (rest : List Case) : Type 0 where
    pub past : List Case
    pub joins : open_cases m ≡ past ++ rest
    pub covers : Cover m past (take used table)
    pub within : used ≤ length table

  module _ (table : List Claim) where
    moved : (used : ℕ) {rest rest' : List Case} → rest ≡ rest' → Ahead table used rest → Ahead table used rest'
    moved used e w = subst (λ (cs : List Case). Ahead table used cs) e w

    pub ahead_begin : Ahead table 0 (rows_left 0)
    ahead_begin = record { past = []; joins = sym (each_all m.rows (open_of_row m)); covers = none; within = omega arith }

    pub ahead_row : (used row : ℕ) → row < m.rows → Ahead table used (rows_left row) → Ahead table used (rules_left row 0)
    ahead_row used row h = moved used (each_more row m.rows (open_of_row m) h ∙ ap (λ (cs : List Case). cs ++ rows_left (row + 1)) (sym (each_all m.rules (open_of_rule m row))))

    pub ahead_rule : (used row rule : ℕ) → rule < m.rules → Ahead table used (rules_left row rule) → Ahead table used (cases_left row rule 0)
    ahead_rule used row rule h =
        moved used
        (ap (λ (cs : List Case). cs ++ rows_left (row + 1)) (each_more rule m.rules (open_of_rule m row) h)
        ∙ append_assoc (open_of_rule m row rule) (each (rule + 1) (m.rules - (rule + 1)) (open_of_rule m row)) (rows_left (row + 1))
        ∙ ap (λ (cs : List Case). cs ++ rules_left row (rule + 1)) (sym (each_all (m.cases row rule) (open_case m row rule))))

    ahead_case : (used row rule number : ℕ) → number < m.cases row rule → Ahead table used (cases_left row rule number) → Ahead table used (open_case m row rule number ++ cases_left row rule (number + 1))
    ahead_case used row rule number h =
        moved used
        (ap (λ (cs : List Case). cs ++ rules_left row (rule + 1)) (each_more number (m.cases row rule) (open_case m row rule) h)
        ∙ append_assoc (open_case m row rule number) (each (number + 1) (m.cases row rule - (number + 1)) (open_case m row rule)) (rules_left row (rule + 1)))

    pub cases_done : (used row rule number : ℕ) → m.cases row rule ≤ number → Ahead table used (cases_left row rule number) → Ahead table used (rules_left row (rule + 1))
    cases_done used row rule number h = moved used (ap (λ (cs : List Case). cs ++ rules_left row (rule + 1)) (each_end number (m.cases row rule) (open_case m row rule) h))

    pub rules_done : (used row rule : ℕ) → m.rules ≤ rule → Ahead table used (rules_left row rule) → Ahead table used (rows_left (row + 1))
    rules_done used row rule h = moved used (ap (λ (cs : List Case). cs ++ rows_left (row + 1)) (each_end rule m.rules (open_of_rule m row) h))

    pub rows_done : (used row : ℕ) → m.rows ≤ row → Ahead table used (rows_left row) → Cover m (open_cases m) (take used table)
    rows_done used row h w =
        let e : w.past ≡ open_cases m = sym (append-nil w.past) ∙ ap (λ (cs : List Case). w.past ++ cs) (sym (each_end row m.rows (open_of_row m) h)) ∙ sym w.joins in
        rw e at w.covers

    not_listed : (c : Case) (x : Sort) → (x ≡ Open → ⊥) → listed c x ≡ []
    not_listed c Idle n = refl
    not_listed c Own n = refl
    not_listed c Open n = absurd (n refl)

    -- A case that is not open is passed over.
    pub passed : (used row rule number : ℕ) → number < m.cases row rule → (m.sort (record { row = row; rule = rule; number = number }) ≡ Open → ⊥) → Ahead table used (cases_left row rule number) → Ahead table used (cases_left row rule (number + 1))
    passed used row rule number h n w =
        moved used (ap (λ (cs : List Case). cs ++ cases_left row rule (number + 1)) (not_listed (record { row = row; rule = rule; number = number }) (m.sort (record { row = row; rule = rule; number = number })) n)) (ahead_case used row rule number h w)

    opened : (used row rule number : ℕ) → number < m.cases row rule → m.sort (record { row = row; rule = rule; number = number }) ≡ Open → Ahead table used (cases_left row rule number) → Ahead table used (record { row = row; rule = rule; number = number } ∷ cases_left row rule (number + 1))
    opened used row rule number h o w =
        moved used (ap (λ (x : Sort). listed (record { row = row; rule = rule; number = number }) x ++ cases_left row rule (number + 1)) o) (ahead_case used row rule number h w)

    taken : (used : ℕ) (c : Case) (rest : List Case) (d : Claim) → used < length table → Right m c (get_or table used d) → Ahead table used (c ∷ rest) → Ahead table (used + 1) rest
    taken used c rest d l r w = record {
      past = w.past ++ c ∷ [];
      joins = w.joins ∙ sym (append_assoc w.past (c ∷ []) rest);
      covers = rw (take_more table used d l) (cover_push c (get_or table used d) w.covers r);
      within = omega arith;
    }

    -- An open case whose claim is right uses it.
    pub used_up : (used row rule number : ℕ) (d : Claim) → number < m.cases row rule → m.sort (record { row = row; rule = rule; number = number }) ≡ Open → used < length table → Right m (record { row = row; rule = rule; number = number }) (get_or table used d) → Ahead table used (cases_left row rule number) → Ahead table (used + 1) (cases_left row rule (number + 1))
    used_up used row rule number d h o l r w = taken used (record { row = row; rule = rule; number = number }) (cases_left row rule (number + 1)) d l r (opened used row rule number h o w)

    failed : (used : ℕ) (rest : List Case) {f : TableRefusal} → Fails m used rest (drop used table) f → Ahead table used rest → Fails m 0 (open_cases m) table f
    failed used rest {f} x w =
        let long : length (take used table) ≡ used = length-take-le used table w.within in
        rw (w.joins, ← take-append-drop used table) (fails_after rest (drop used table) 0 used w.covers (omega arith) x)

    -- An open case whose claim fails ends the walk.
    pub failed_at : (used row rule number : ℕ) {f : TableRefusal} → number < m.cases row rule → m.sort (record { row = row; rule = rule; number = number }) ≡ Open → Fails m used (record { row = row; rule = rule; number = number } ∷ cases_left row rule (number + 1)) (drop used table) f → Ahead table used (cases_left row rule number) → Fails m 0 (open_cases m) table f
    failed_at used row rule number h o x w = failed used (record { row = row; rule = rule; number = number } ∷ cases_left row rule (number + 1)) x (opened used row rule number h o w)
