-- What bodies in range say is in range.
use Rattle.std.proofs.Common.{◌≡◌, ℕ, suc, ◌+◌, ◌-◌, ◌*◌, ◌/◌, ◌%◌, ◌<◌, ◌≤◌, Bool, true, ◌&&◌, eqb, ltb, leb, ◌⊎◌, List, [], ◌∷◌, length, get_or, drop, sym, subst, inl, inr, arith}
use Rattle.std.specs.List.{AllByRecursion}
use Rattle.std.proofs.lemmas.List.{length-take-le, length-drop}
use Rattle.std.proofs.lemmas.Bool.{and_parts, or_cases, eqb-true, leb-true, ltb-true, false≢true, cond-true, cond-false, ne_eqb}
use Rattle.literals.specs.declared.LiteralKind.{LiteralKind}
use Rattle.literals.specs.declared.LiteralKind.TheVariants.{Unary, NotUnary, Binary, NotBinary, From, NotFrom, Into, NotInto}
use Rattle.atoms.specs.declared.Atom.{Atom}
use Rattle.atoms.specs.declared.Atom.TheVariants as atom
use Rattle.atoms.specs.Book.{relation_count, object_count}
use Rattle.atoms.specs.Range.{most_atoms, most_rule_variables, most_rule_literals, most_row_variables, most_row_literals, AtomIn, LiteralIn, EffectIn, RuleIn, RowIn}
use Rattle.bodies.specs.declared.literal.Role.{Role}
use Rattle.bodies.specs.declared.literal.Role.TheVariants.{Condition, Effect}
use Rattle.bodies.specs.Literal.{kind_numbered, shaped, allows, second_in, kind_in, literal_in, literal_of, atom_in, atom_of}
use Rattle.bodies.specs.Lists.{each_four, all_four, literals_in, literals_of, atoms_in, atoms_of}
use Rattle.bodies.specs.Rule.{opening_fits, rule_fits, row_fits, condition_bytes, effect_bytes, rule_in, row_in, rule_of, row_of}

-- As many as there are fours.
pub length_each : {X : Type 0} (f : ℕ → ℕ → ℕ → ℕ → X) (n : ℕ) (bytes : List ℕ) → length bytes ≡ 4 * n → length (each_four f bytes) ≡ n
length_each f n [] h = omega arith
length_each f n (a ∷ []) h = absurd (let odd : suc 0 ≡ 4 * n = h in omega arith)
length_each f n (a ∷ b ∷ []) h = absurd (let odd : suc (suc 0) ≡ 4 * n = h in omega arith)
length_each f n (a ∷ b ∷ c ∷ []) h = absurd (let odd : suc (suc (suc 0)) ≡ 4 * n = h in omega arith)
length_each f n (a ∷ b ∷ c ∷ d ∷ bytes) h = let rest : length bytes ≡ 4 * (n - 1) = (let long : suc (suc (suc (suc (length bytes)))) ≡ 4 * n = h in omega arith) in omega (arith, length_each f (n - 1) bytes rest)

-- What holds of each four that are in range holds of all.
all_each : {X : Type 0} (P : X → Type 0) (p : ℕ → ℕ → ℕ → ℕ → Bool) (f : ℕ → ℕ → ℕ → ℕ → X) → ((a b c d : ℕ) → p a b c d ≡ true → P (f a b c d)) → (bytes : List ℕ) → all_four p bytes ≡ true → AllByRecursion P (each_four f bytes)
all_each P p f each [] h = tt
all_each P p f each (a ∷ []) h = tt
all_each P p f each (a ∷ b ∷ []) h = tt
all_each P p f each (a ∷ b ∷ c ∷ []) h = tt
all_each P p f each (a ∷ b ∷ c ∷ d ∷ bytes) h = let parts = and_parts (p a b c d) (all_four p bytes) h in (each a b c d parts.0, all_each P p f each bytes parts.1)

shaped_in : (k : LiteralKind) (n r x y : ℕ) → r < relation_count → x < n → second_in k n y ≡ true → LiteralIn n (shaped k r x y)
shaped_in Unary n r x y a b h = (a, b)
shaped_in NotUnary n r x y a b h = (a, b)
shaped_in Binary n r x y a b h = (a, b, ltb-true y n h)
shaped_in NotBinary n r x y a b h = (a, b, ltb-true y n h)
shaped_in From n r x y a b h = (a, b)
shaped_in NotFrom n r x y a b h = (a, b)
shaped_in Into n r x y a b h = (a, b)
shaped_in NotInto n r x y a b h = (a, b)

shaped_effect : (k : LiteralKind) (r x y : ℕ) → allows Effect k ≡ true → EffectIn (shaped k r x y)
shaped_effect Unary r x y h = λ _. tt
shaped_effect NotUnary r x y h = λ e. absurd (false≢true e)
shaped_effect Binary r x y h = λ _. tt
shaped_effect NotBinary r x y h = λ e. absurd (false≢true e)
shaped_effect From r x y h = absurd (false≢true h)
shaped_effect NotFrom r x y h = λ e. absurd (false≢true e)
shaped_effect Into r x y h = absurd (false≢true h)
shaped_effect NotInto r x y h = λ e. absurd (false≢true e)

literal_well : (role : Role) (n k r x y : ℕ) → literal_in role n k r x y ≡ true → LiteralIn n (literal_of k r x y)
literal_well role n k r x y h =
    let kind = and_parts (kind_in role k) (ltb r relation_count && (ltb x n && second_in (kind_numbered k) n y)) h in
    let relation = and_parts (ltb r relation_count) (ltb x n && second_in (kind_numbered k) n y) kind.1 in
    let first = and_parts (ltb x n) (second_in (kind_numbered k) n y) relation.1 in
    shaped_in (kind_numbered k) n r x y (ltb-true r relation_count relation.0) (ltb-true x n first.0) first.1

effect_well : (n k r x y : ℕ) → literal_in Effect n k r x y ≡ true → EffectIn (literal_of k r x y)
effect_well n k r x y h =
    let kind = and_parts (kind_in Effect k) (ltb r relation_count && (ltb x n && second_in (kind_numbered k) n y)) h in
    shaped_effect (kind_numbered k) r x y (and_parts (leb k 7) (allows Effect (kind_numbered k)) kind.0).1

pub literals_well : (role : Role) (n : ℕ) (bytes : List ℕ) → literals_in role n bytes ≡ true → AllByRecursion (LiteralIn n) (literals_of bytes)
literals_well role n = all_each (LiteralIn n) (literal_in role n) literal_of (literal_well role n)

effects_well : (n : ℕ) (bytes : List ℕ) → literals_in Effect n bytes ≡ true → AllByRecursion EffectIn (literals_of bytes)
effects_well n = all_each EffectIn (literal_in Effect n) literal_of (effect_well n)

-- Four bytes that are an atom are one of one object, or of two.
pub atom_cases : (k r d e : ℕ) → atom_in k r d e ≡ true → ((k ≡ 0) × (e ≡ 0) × (atom_of k r d e ≡ atom.Unary r d) × AtomIn (atom.Unary r d)) ⊎ ((k ≡ 2) × (atom_of k r d e ≡ atom.Binary r d e) × AtomIn (atom.Binary r d e))
atom_cases k r d e h = elim (or_cases (eqb k 0 && (ltb r relation_count && (ltb d object_count && eqb e 0))) (eqb k 2 && (ltb r relation_count && (ltb d object_count && ltb e object_count))) h) [
  | inl one ↦
      let kind = and_parts (eqb k 0) (ltb r relation_count && (ltb d object_count && eqb e 0)) one in
      let relation = and_parts (ltb r relation_count) (ltb d object_count && eqb e 0) kind.1 in
      let object = and_parts (ltb d object_count) (eqb e 0) relation.1 in
      inl (eqb-true k 0 kind.0, eqb-true e 0 object.1, cond-true {A = Atom} (eqb k 0) (atom.Unary r d) (atom.Binary r d e) kind.0, (ltb-true r relation_count relation.0, ltb-true d object_count object.0))
  | inr two ↦
      let kind = and_parts (eqb k 2) (ltb r relation_count && (ltb d object_count && ltb e object_count)) two in
      let relation = and_parts (ltb r relation_count) (ltb d object_count && ltb e object_count) kind.1 in
      let object = and_parts (ltb d object_count) (ltb e object_count) relation.1 in
      let is : k ≡ 2 = eqb-true k 2 kind.0 in
      inr (is, cond-false {A = Atom} (eqb k 0) (atom.Unary r d) (atom.Binary r d e) (ne_eqb k 0 (λ z. omega (arith, is, z))), (ltb-true r relation_count relation.0, ltb-true d object_count object.0, ltb-true e object_count object.1))
]

atom_well : (k r d e : ℕ) → atom_in k r d e ≡ true → AtomIn (atom_of k r d e)
atom_well k r d e h = elim (atom_cases k r d e h) [ inl one ↦ subst AtomIn (sym one.2) one.3 | inr two ↦ subst AtomIn (sym two.1) two.2 ]

-- An opening that fits has at most 24 atoms, and each is in range.
pub opening_well : (b : List ℕ) → opening_fits b ≡ true → atoms_in b ≡ true → (length (atoms_of b) ≤ most_atoms) × AllByRecursion AtomIn (atoms_of b)
opening_well b f r =
    let parts = and_parts (eqb (length b % 4) 0) (leb (length b) (4 * most_atoms)) f in
    let whole = eqb-true (length b % 4) 0 parts.0 in
    let most = leb-true (length b) (4 * most_atoms) parts.1 in
    let many : length (atoms_of b) ≡ length b / 4 = length_each atom_of (length b / 4) b (omega arith) in
    (omega arith, all_each AtomIn atom_in atom_of atom_well b r)

module _ (b : List ℕ) where
  pub rule_long : rule_fits b ≡ true → length b ≡ 3 + 4 * (get_or b 1 0 + get_or b 2 0)
  rule_long f = eqb-true (length b) (3 + 4 * (get_or b 1 0 + get_or b 2 0)) (and_parts (leb 3 (length b)) (eqb (length b) (3 + 4 * (get_or b 1 0 + get_or b 2 0))) f).1

  pub conditions : rule_fits b ≡ true → length (condition_bytes b) ≡ 4 * get_or b 1 0
  conditions f = length-take-le (4 * get_or b 1 0) (drop 3 b) (omega (arith, rule_long f, length-drop 3 b))

  pub effects : rule_fits b ≡ true → length (effect_bytes b) ≡ 4 * get_or b 2 0
  effects f = omega (arith, rule_long f, length-drop 3 b, length-drop (4 * get_or b 1 0) (drop 3 b))

  pub rule_well : rule_fits b ≡ true → rule_in b ≡ true → RuleIn (rule_of b)
  rule_well f r =
      let n = get_or b 0 0 in
      let parts = and_parts (leb n most_rule_variables && (leb (get_or b 1 0) most_rule_literals && leb (get_or b 2 0) most_rule_literals)) (literals_in Condition n (condition_bytes b) && literals_in Effect n (effect_bytes b)) r in
      let variables = and_parts (leb n most_rule_variables) (leb (get_or b 1 0) most_rule_literals && leb (get_or b 2 0) most_rule_literals) parts.0 in
      let counts = and_parts (leb (get_or b 1 0) most_rule_literals) (leb (get_or b 2 0) most_rule_literals) variables.1 in
      let literals = and_parts (literals_in Condition n (condition_bytes b)) (literals_in Effect n (effect_bytes b)) parts.1 in
      record {
        variables_in = leb-true n most_rule_variables variables.0;
        condition_short = omega (arith, length_each literal_of (get_or b 1 0) (condition_bytes b) (conditions f), leb-true (get_or b 1 0) most_rule_literals counts.0);
        effect_short = omega (arith, length_each literal_of (get_or b 2 0) (effect_bytes b) (effects f), leb-true (get_or b 2 0) most_rule_literals counts.1);
        condition_in = literals_well Condition n (condition_bytes b) literals.0;
        effect_in = literals_well Effect n (effect_bytes b) literals.1;
        effective = effects_well n (effect_bytes b) literals.1;
      }

  pub row_long : row_fits b ≡ true → length b ≡ 2 + 4 * get_or b 1 0
  row_long f = eqb-true (length b) (2 + 4 * get_or b 1 0) (and_parts (leb 2 (length b)) (eqb (length b) (2 + 4 * get_or b 1 0)) f).1

  pub row_well : row_fits b ≡ true → row_in b ≡ true → RowIn (row_of b)
  row_well f r =
      let m = get_or b 0 0 in
      let parts = and_parts (leb m most_row_variables && leb (get_or b 1 0) most_row_literals) (literals_in Condition m (drop 2 b)) r in
      let counts = and_parts (leb m most_row_variables) (leb (get_or b 1 0) most_row_literals) parts.0 in
      record {
        variables_in = leb-true m most_row_variables counts.0;
        literals_short = omega (arith, length_each literal_of (get_or b 1 0) (drop 2 b) (omega (arith, row_long f, length-drop 2 b)), leb-true (get_or b 1 0) most_row_literals counts.1);
        literals_in = literals_well Condition m (drop 2 b) parts.1;
      }
