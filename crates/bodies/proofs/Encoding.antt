-- Literals, atoms, rules and rows, read and written, and written and read.
use Rattle.std.proofs.Common.{◌≡◌, ℕ, suc, ◌+◌, ◌-◌, ◌*◌, ◌/◌, ◌%◌, ◌<◌, ◌≤◌, Bool, true, false, ◌&&◌, eqb, ltb, leb, List, [], ◌∷◌, ◌++◌, length, get_or, drop, sym, refl, ap, ◌∙◌, inl, inr, arith}
use Rattle.std.specs.List.{flat_map, AllByRecursion}
use Rattle.std.proofs.ByRecursion.{All-weaker}
use Rattle.std.proofs.lemmas.List.{length-append, length-drop, drop_more, take_at, drop_at, take-append-drop}
use Rattle.std.proofs.lemmas.Bool.{and_parts, and_from, or_left, eqb-true, eq-eqb, leb-true, le-leb, lt-ltb}
use Rattle.literals.specs.declared.Fact.{Fact}
use Rattle.literals.specs.declared.Fact.TheVariants as fact
use Rattle.literals.specs.declared.Literal.{Literal}
use Rattle.literals.specs.declared.LiteralKind.{LiteralKind}
use Rattle.literals.specs.declared.LiteralKind.TheVariants.{Unary, NotUnary, Binary, NotBinary, From, NotFrom, Into, NotInto}
use Rattle.literals.specs.Number.{literal_kind_number, kind_by, kind_of}
use Rattle.atoms.specs.declared.Atom.{Atom}
use Rattle.atoms.specs.declared.Atom.TheVariants as atom
use Rattle.atoms.specs.Book.{relation_count, object_count}
use Rattle.atoms.specs.Fire.{Transition}
use Rattle.atoms.specs.Pattern.{Pattern}
use Rattle.atoms.specs.Range.{most_atoms, most_rule_variables, most_rule_literals, most_row_variables, most_row_literals, AtomIn, FactIn, LiteralIn, Effective, EffectIn, RuleIn, RowIn}
use Rattle.bodies.specs.declared.literal.Role.{Role}
use Rattle.bodies.specs.declared.literal.Role.TheVariants.{Condition, Effect}
use Rattle.bodies.specs.Literal.{kind_numbered, shaped, allows, second_in, kind_in, literal_in, literal_of, atom_in, atom_of}
use Rattle.bodies.specs.Lists.{each_four, all_four, literals_in, literals_of, atoms_in, atoms_of}
use Rattle.bodies.specs.Rule.{opening_fits, rule_fits, row_fits, condition_bytes, effect_bytes, rule_in, row_in, rule_of, row_of}
use Rattle.literals.specs.State.{relation_of}
use Rattle.bodies.specs.Encoding.{first_of, second_of, literal_bytes, atom_bytes, rule_bytes, row_bytes}
use Rattle.bodies.proofs.Numbering.{numbered}
use Rattle.bodies.proofs.Ranging.{length_each, atom_cases, rule_long, conditions, effects, row_long}

-- A body is its first bytes and the rest.
pub first_one : (b : List ℕ) → 1 ≤ length b → get_or b 0 0 ∷ drop 1 b ≡ b
first_one b h = sym (drop_more b 0 0 (omega arith))

pub first_two : (b : List ℕ) → 2 ≤ length b → get_or b 0 0 ∷ get_or b 1 0 ∷ drop 2 b ≡ b
first_two b h = ap (λ (w : List ℕ). get_or b 0 0 ∷ w) (sym (drop_more b 1 0 (omega arith))) ∙ first_one b (omega arith)

pub first_three : (b : List ℕ) → 3 ≤ length b → get_or b 0 0 ∷ get_or b 1 0 ∷ get_or b 2 0 ∷ drop 3 b ≡ b
first_three b h = ap (λ (w : List ℕ). get_or b 0 0 ∷ get_or b 1 0 ∷ w) (sym (drop_more b 2 0 (omega arith))) ∙ first_two b (omega arith)

all_both : {X : Type 0} (P Q R : X → Type 0) → ((x : X) → P x → Q x → R x) → (xs : List X) → AllByRecursion P xs → AllByRecursion Q xs → AllByRecursion R xs
all_both P Q R each [] p q = tt
all_both P Q R each (x ∷ xs) p q = (each x p.0 q.0, all_both P Q R each xs p.1 q.1)

-- Items of four bytes each: a law for one is a law for lists.
module _ {X : Type 0} (f : ℕ → ℕ → ℕ → ℕ → X) (p : ℕ → ℕ → ℕ → ℕ → Bool) (bytes_of : X → List ℕ) where
  written_each : ((a b c d : ℕ) → p a b c d ≡ true → bytes_of (f a b c d) ≡ a ∷ b ∷ c ∷ d ∷ []) → (n : ℕ) (bytes : List ℕ) → length bytes ≡ 4 * n → all_four p bytes ≡ true → flat_map bytes_of (each_four f bytes) ≡ bytes
  written_each one n [] h r = refl
  written_each one n (a ∷ []) h r = absurd (let odd : suc 0 ≡ 4 * n = h in omega arith)
  written_each one n (a ∷ b ∷ []) h r = absurd (let odd : suc (suc 0) ≡ 4 * n = h in omega arith)
  written_each one n (a ∷ b ∷ c ∷ []) h r = absurd (let odd : suc (suc (suc 0)) ≡ 4 * n = h in omega arith)
  written_each one n (a ∷ b ∷ c ∷ d ∷ bytes) h r =
      let parts = and_parts (p a b c d) (all_four p bytes) r in
      let rest : length bytes ≡ 4 * (n - 1) = (let long : suc (suc (suc (suc (length bytes)))) ≡ 4 * n = h in omega arith) in
      ap (λ (w : List ℕ). w ++ flat_map bytes_of (each_four f bytes)) (one a b c d parts.0) ∙ ap (λ (w : List ℕ). a ∷ b ∷ c ∷ d ∷ w) (written_each one (n - 1) bytes rest parts.1)

  -- An item is written as four bytes in range that say that item.
  record Four (x : X) : Type 0 where
    long : length (bytes_of x) ≡ 4
    says : (rest : List ℕ) → each_four f (bytes_of x ++ rest) ≡ x ∷ each_four f rest
    ranges : (rest : List ℕ) → all_four p (bytes_of x ++ rest) ≡ all_four p rest

  record Read (xs : List X) : Type 0 where
    long : length (flat_map bytes_of xs) ≡ 4 * length xs
    says : each_four f (flat_map bytes_of xs) ≡ xs
    ranges : all_four p (flat_map bytes_of xs) ≡ true

  read_each : (xs : List X) → AllByRecursion Four xs → Read xs
  read_each [] h = record { long = refl; says = refl; ranges = refl }
  read_each (x ∷ xs) h =
      let rest : List ℕ = flat_map bytes_of xs in
      let more = read_each xs h.1 in
      record {
        long = omega (arith, h.0.long, more.long, length-append (bytes_of x) rest);
        says = h.0.says rest ∙ ap (λ (ys : List X). x ∷ ys) more.says;
        ranges = h.0.ranges rest ∙ more.ranges;
      }

-- One literal, read and written.
shaped_bytes : (k : LiteralKind) (n r x y : ℕ) → second_in k n y ≡ true → literal_bytes (shaped k r x y) ≡ literal_kind_number k ∷ r ∷ x ∷ y ∷ []
shaped_bytes Unary n r x y h = rw (eqb-true y 0 h)
shaped_bytes NotUnary n r x y h = rw (eqb-true y 0 h)
shaped_bytes Binary n r x y h = refl
shaped_bytes NotBinary n r x y h = refl
shaped_bytes From n r x y h = rw (eqb-true y 0 h)
shaped_bytes NotFrom n r x y h = rw (eqb-true y 0 h)
shaped_bytes Into n r x y h = rw (eqb-true y 0 h)
shaped_bytes NotInto n r x y h = rw (eqb-true y 0 h)

literal_written : (role : Role) (n k r x y : ℕ) → literal_in role n k r x y ≡ true → literal_bytes (literal_of k r x y) ≡ k ∷ r ∷ x ∷ y ∷ []
literal_written role n k r x y h =
    let kind = and_parts (kind_in role k) (ltb r relation_count && (ltb x n && second_in (kind_numbered k) n y)) h in
    let relation = and_parts (ltb r relation_count) (ltb x n && second_in (kind_numbered k) n y) kind.1 in
    let first = and_parts (ltb x n) (second_in (kind_numbered k) n y) relation.1 in
    let known = and_parts (leb k 7) (allows role (kind_numbered k)) kind.0 in
    shaped_bytes (kind_numbered k) n r x y first.1 ∙ ap (λ (m : ℕ). m ∷ r ∷ x ∷ y ∷ []) (numbered k (leb-true k 7 known.0))

-- And written and read: what its four bytes say, field by field.
record Shape (role : Role) (n : ℕ) (f : Fact) (affirmed : Bool) : Type 0 where
  says : ◌≡◌ {A = Literal} (literal_of (literal_kind_number (kind_by f affirmed)) (relation_of f) (first_of f) (second_of f)) (record { fact = f; affirmed = affirmed })
  kind : kind_in role (literal_kind_number (kind_by f affirmed)) ≡ allows role (kind_by f affirmed)
  relation : relation_of f < relation_count
  first : first_of f < n
  second : second_in (kind_numbered (literal_kind_number (kind_by f affirmed))) n (second_of f) ≡ true

shape : (role : Role) (n : ℕ) (f : Fact) (affirmed : Bool) → FactIn n f → Shape role n f affirmed
shape role n (fact.Unary a x) true h = record { says = refl; kind = refl; relation = h.0; first = h.1; second = refl }
shape role n (fact.Unary a x) false h = record { says = refl; kind = refl; relation = h.0; first = h.1; second = refl }
shape role n (fact.Binary b x y) true h = record { says = refl; kind = refl; relation = h.0; first = h.1; second = lt-ltb y n h.2 }
shape role n (fact.Binary b x y) false h = record { says = refl; kind = refl; relation = h.0; first = h.1; second = lt-ltb y n h.2 }
shape role n (fact.From b x) true h = record { says = refl; kind = refl; relation = h.0; first = h.1; second = refl }
shape role n (fact.From b x) false h = record { says = refl; kind = refl; relation = h.0; first = h.1; second = refl }
shape role n (fact.Into b x) true h = record { says = refl; kind = refl; relation = h.0; first = h.1; second = refl }
shape role n (fact.Into b x) false h = record { says = refl; kind = refl; relation = h.0; first = h.1; second = refl }

effect_allowed : (f : Fact) (affirmed : Bool) → (affirmed ≡ true → Effective f) → allows Effect (kind_by f affirmed) ≡ true
effect_allowed (fact.Unary a x) true h = refl
effect_allowed (fact.Unary a x) false h = refl
effect_allowed (fact.Binary b x y) true h = refl
effect_allowed (fact.Binary b x y) false h = refl
effect_allowed (fact.From b x) true h = absurd (h refl)
effect_allowed (fact.From b x) false h = refl
effect_allowed (fact.Into b x) true h = absurd (h refl)
effect_allowed (fact.Into b x) false h = refl

literal_four : (role : Role) (n : ℕ) (l : Literal) → LiteralIn n l → allows role (kind_of l) ≡ true → Four literal_of (literal_in role n) literal_bytes l
literal_four role n l h a =
    let k : ℕ = literal_kind_number (kind_of l) in
    let r : ℕ = relation_of l.fact in
    let x : ℕ = first_of l.fact in
    let y : ℕ = second_of l.fact in
    let s = shape role n l.fact l.affirmed h in
    let variables = and_from (ltb x n) (second_in (kind_numbered k) n y) (lt-ltb x n s.first) s.second in
    let in' : literal_in role n k r x y ≡ true = and_from (kind_in role k) (ltb r relation_count && (ltb x n && second_in (kind_numbered k) n y)) (s.kind ∙ a) (and_from (ltb r relation_count) (ltb x n && second_in (kind_numbered k) n y) (lt-ltb r relation_count s.relation) variables) in
    record { long = refl; says = λ rest. ap (λ (m : Literal). m ∷ literals_of rest) s.says; ranges = λ rest. ap (λ (b : Bool). b && literals_in role n rest) in' }

-- One atom.
atom_written : (k r d e : ℕ) → atom_in k r d e ≡ true → atom_bytes (atom_of k r d e) ≡ k ∷ r ∷ d ∷ e ∷ []
atom_written k r d e h = elim (atom_cases k r d e h) [
  | inl one ↦ ap atom_bytes one.2 ∙ (λ i. sym one.0 i ∷ r ∷ d ∷ sym one.1 i ∷ [])
  | inr two ↦ ap atom_bytes two.1 ∙ ap (λ (m : ℕ). m ∷ r ∷ d ∷ e ∷ []) (sym two.0)
]

atom_four : (a : Atom) → AtomIn a → Four atom_of atom_in atom_bytes a
atom_four (atom.Unary a d) h =
    let in' : atom_in 0 a d 0 ≡ true = or_left (ltb a relation_count && (ltb d object_count && true)) false (and_from (ltb a relation_count) (ltb d object_count && true) (lt-ltb a relation_count h.0) (and_from (ltb d object_count) true (lt-ltb d object_count h.1) refl)) in
    record { long = refl; says = λ rest. refl; ranges = λ rest. ap (λ (b : Bool). b && atoms_in rest) in' }
atom_four (atom.Binary b d e) h =
    let in' : atom_in 2 b d e ≡ true = and_from (ltb b relation_count) (ltb d object_count && ltb e object_count) (lt-ltb b relation_count h.0) (and_from (ltb d object_count) (ltb e object_count) (lt-ltb d object_count h.1) (lt-ltb e object_count h.2)) in
    record { long = refl; says = λ rest. refl; ranges = λ rest. ap (λ (b : Bool). b && atoms_in rest) in' }

-- Lists of literals, by what they may be.
literals_written : (role : Role) (n many : ℕ) (b : List ℕ) → length b ≡ 4 * many → literals_in role n b ≡ true → flat_map literal_bytes (literals_of b) ≡ b
literals_written role n = written_each literal_of (literal_in role n) literal_bytes (literal_written role n)

conditions_read : (n : ℕ) (ls : List Literal) → AllByRecursion (LiteralIn n) ls → Read literal_of (literal_in Condition n) literal_bytes ls
conditions_read n ls h = read_each literal_of (literal_in Condition n) literal_bytes ls (All-weaker (LiteralIn n) (Four literal_of (literal_in Condition n) literal_bytes) (λ l p. literal_four Condition n l p refl) ls h)

effects_read : (n : ℕ) (ls : List Literal) → AllByRecursion (LiteralIn n) ls → AllByRecursion EffectIn ls → Read literal_of (literal_in Effect n) literal_bytes ls
effects_read n ls h e = read_each literal_of (literal_in Effect n) literal_bytes ls (all_both (LiteralIn n) EffectIn (Four literal_of (literal_in Effect n) literal_bytes) (λ l p q. literal_four Effect n l p (effect_allowed l.fact l.affirmed q)) ls h e)

-- Openings, rules and rows, read and written.
pub opening_written : (b : List ℕ) → opening_fits b ≡ true → atoms_in b ≡ true → flat_map atom_bytes (atoms_of b) ≡ b
opening_written b f r =
    let parts = and_parts (eqb (length b % 4) 0) (leb (length b) (4 * most_atoms)) f in
    let whole = eqb-true (length b % 4) 0 parts.0 in
    written_each atom_of atom_in atom_bytes atom_written (length b / 4) b (omega arith) r

pub rule_written : (b : List ℕ) → rule_fits b ≡ true → rule_in b ≡ true → rule_bytes (rule_of b) ≡ b
rule_written b f r =
    let n : ℕ = get_or b 0 0 in
    let parts = and_parts (leb n most_rule_variables && (leb (get_or b 1 0) most_rule_literals && leb (get_or b 2 0) most_rule_literals)) (literals_in Condition n (condition_bytes b) && literals_in Effect n (effect_bytes b)) r in
    let literals = and_parts (literals_in Condition n (condition_bytes b)) (literals_in Effect n (effect_bytes b)) parts.1 in
    let many = length_each literal_of (get_or b 1 0) (condition_bytes b) (conditions b f) in
    let more = length_each literal_of (get_or b 2 0) (effect_bytes b) (effects b f) in
    let first = literals_written Condition n (get_or b 1 0) (condition_bytes b) (conditions b f) literals.0 in
    let second = literals_written Effect n (get_or b 2 0) (effect_bytes b) (effects b f) literals.1 in
    (λ i. n ∷ many i ∷ more i ∷ (first i ++ second i))
    ∙ ap (λ (w : List ℕ). n ∷ get_or b 1 0 ∷ get_or b 2 0 ∷ w) (take-append-drop (4 * get_or b 1 0) (drop 3 b))
    ∙ first_three b (omega (arith, rule_long b f))

pub row_written : (b : List ℕ) → row_fits b ≡ true → row_in b ≡ true → row_bytes (row_of b) ≡ b
row_written b f r =
    let m : ℕ = get_or b 0 0 in
    let parts = and_parts (leb m most_row_variables && leb (get_or b 1 0) most_row_literals) (literals_in Condition m (drop 2 b)) r in
    let long : length (drop 2 b) ≡ 4 * get_or b 1 0 = omega (arith, row_long b f, length-drop 2 b) in
    let many = length_each literal_of (get_or b 1 0) (drop 2 b) long in
    let all = literals_written Condition m (get_or b 1 0) (drop 2 b) long parts.1 in
    (λ i. m ∷ many i ∷ all i) ∙ first_two b (omega (arith, row_long b f))

-- And written and read.
pub opening_read : (atoms : List Atom) → length atoms ≤ most_atoms → AllByRecursion AtomIn atoms → (opening_fits (flat_map atom_bytes atoms) ≡ true) × (atoms_in (flat_map atom_bytes atoms) ≡ true) × (atoms_of (flat_map atom_bytes atoms) ≡ atoms)
opening_read atoms short h =
    let b : List ℕ = flat_map atom_bytes atoms in
    let is = read_each atom_of atom_in atom_bytes atoms (All-weaker AtomIn (Four atom_of atom_in atom_bytes) atom_four atoms h) in
    (and_from (eqb (length b % 4) 0) (leb (length b) (4 * most_atoms)) (eq-eqb (length b % 4) 0 (omega (arith, is.long))) (le-leb (length b) (4 * most_atoms) (omega (arith, is.long))), is.ranges, is.says)

pub rule_read : (r : Transition) → RuleIn r → (rule_fits (rule_bytes r) ≡ true) × (rule_in (rule_bytes r) ≡ true) × (rule_of (rule_bytes r) ≡ r)
rule_read r h =
    let n : ℕ = r.variables in
    let b : List ℕ = rule_bytes r in
    let first : List ℕ = flat_map literal_bytes r.condition in
    let second : List ℕ = flat_map literal_bytes r.effect in
    let c = conditions_read n r.condition h.condition_in in
    let e = effects_read n r.effect h.effect_in h.effective in
    let cs : condition_bytes b ≡ first = take_at first second (4 * length r.condition) c.long in
    let es : effect_bytes b ≡ second = drop_at first second (4 * length r.condition) c.long in
    let bounds = and_from (leb n most_rule_variables) (leb (length r.condition) most_rule_literals && leb (length r.effect) most_rule_literals) (le-leb n most_rule_variables h.variables_in)
    (and_from (leb (length r.condition) most_rule_literals) (leb (length r.effect) most_rule_literals) (le-leb _ most_rule_literals h.condition_short) (le-leb _ most_rule_literals h.effect_short)) in
    let long : length b ≡ 3 + 4 * (length r.condition + length r.effect) = omega (arith, c.long, e.long, length-append first second) in (
      and_from (leb 3 (length b)) (eqb (length b) (3 + 4 * (length r.condition + length r.effect))) (le-leb 3 (length b) (omega arith)) (eq-eqb (length b) (3 + 4 * (length r.condition + length r.effect)) long),
      and_from _ (literals_in Condition n (condition_bytes b) && literals_in Effect n (effect_bytes b)) bounds (and_from (literals_in Condition n (condition_bytes b)) (literals_in Effect n (effect_bytes b)) (ap (literals_in Condition n) cs ∙ c.ranges) (ap (literals_in Effect n) es ∙ e.ranges)),
      (λ i. record { variables = n; condition = (ap literals_of cs ∙ c.says) i; effect = (ap literals_of es ∙ e.says) i }),
    )

pub row_read : (p : Pattern) → RowIn p → (row_fits (row_bytes p) ≡ true) × (row_in (row_bytes p) ≡ true) × (row_of (row_bytes p) ≡ p)
row_read p h =
    let m : ℕ = p.variables in
    let b : List ℕ = row_bytes p in
    let all : List ℕ = flat_map literal_bytes p.literals in
    let l = conditions_read m p.literals h.literals_in in
    let bounds = and_from (leb m most_row_variables) (leb (length p.literals) most_row_literals) (le-leb m most_row_variables h.variables_in) (le-leb _ most_row_literals h.literals_short) in
    let long : length b ≡ 2 + 4 * length p.literals = omega (arith, l.long) in (
      and_from (leb 2 (length b)) (eqb (length b) (2 + 4 * length p.literals)) (le-leb 2 (length b) (omega arith)) (eq-eqb (length b) (2 + 4 * length p.literals) long),
      and_from _ (literals_in Condition m all) bounds l.ranges,
      (λ i. record { variables = m; literals = l.says i }),
    )
