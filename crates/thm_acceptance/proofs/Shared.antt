-- Names that two locals of one frame, or two labels, share: the faults, and what the page of specs/Unbroken says.
-- Assumes nothing.
use mathlib.Core.Path.{◌≡◌, refl, sym, ◌∙◌, ap, subst}
use mathlib.Core.Bool.{Bool, true, false}
use mathlib.Core.List.{List, [], ◌∷◌}
use Prim.Native.Nat.{ℕ, zero, suc, ◌+◌, ◌-◌, ◌≤◌, ◌<◌}
use native.Mathlib.Decide.{dec_le, ℕ_discrete}
use native.Mathlib.Omega.{arith}
use Rattle.base_prelude.specs.Choice.{pick, if_lt, if_eq, if_true}
use Rattle.base_prelude.specs.Fault.{none}
use Rattle.base_prelude.proofs.Choice.{either, either-eq, either_true, if_lt-yes, if_lt-no, if_eq-yes, if_eq-no, if_true-yes, if_true-no, true-false}
use Rattle.prog_tables.specs.Tests.{first_from}
use Rattle.prog_tables.specs.Statement.{row_at}
use Rattle.res_scope.specs.Lines.{first_token, end_token, label_token}
use Rattle.res_scope.specs.Names.{let_here, parameter_named, parameter_of, label_named, label_of}
use Rattle.res_names.specs.Naming.{parameter_taken, local_taken, let_fault, parameter_fault, label_fault}
use Rattle.parse_verdict.specs.Verdict.{Clean}
use Rattle.thm_acceptance.specs.Faults.{parameter_faults, declared_faults}
use Rattle.thm_acceptance.proofs.LineRules.{}
use Rattle.parse_lines.proofs.Keys.{no_key}

-- ---- the first number that passes

first-miss : (p : ℕ → Bool) (left i m : ℕ) → m ≤ first_from p left i → (q : ℕ) → i ≤ q → q < m → q < i + left → p q ≡ false
unfolding first_from
first-miss p zero i m h q a b c = let z : ⊥ = omega arith in absurd z
first-miss p (suc left) i m h q a b c = by (p i) refl h (λ g d e. first-miss p left (suc i) m g q d b e)
  where
    by : (x : Bool) → p i ≡ x → m ≤ pick x i (first_from p left (suc i)) → (m ≤ first_from p left (suc i) → suc i ≤ q → q < suc i + left → p q ≡ false) → p q ≡ false
    by true e g f = let z : ⊥ = omega arith in absurd z
    by false e g f = elim (ℕ_discrete i q) [ yes z ↦ ap p (sym z) ∙ e | no z ↦ f g (omega arith) (omega arith) ]

miss-first : (p : ℕ → Bool) (left i m : ℕ) → m ≤ i + left → ((q : ℕ) → i ≤ q → q < m → p q ≡ false) → m ≤ first_from p left i
unfolding first_from
miss-first p zero i m h f = omega arith
miss-first p (suc left) i m h f = by (p i) refl (miss-first p left (suc i) m (omega arith) (λ q a b. f q (omega arith) b))
  where
    by : (b : Bool) → p i ≡ b → m ≤ first_from p left (suc i) → m ≤ pick b i (first_from p left (suc i))
    by true e g = elim (dec_le m i) [ yes z ↦ z | no z ↦ true-false (sym e ∙ f i (omega arith) (omega arith)) ]
    by false e g = g

module _ (same : ℕ → ℕ → Bool) (t : List ℕ) (n : ℕ) where
  -- ---- labels

  module _ (y : List ℕ) (l : ℕ) where
    label-by : (j : ℕ) → j < l → none ≤ label_fault same t n y l j → (i : ℕ) → i < j → same (label_token y i) (label_token y j) ≡ false
    unfolding label_fault label_of
    label-by j g h i a =
        first-miss (label_named same y (label_token y j)) l 0 j
        (either (λ (x : ℕ). none ≤ x → j ≤ first_from (label_named same y (label_token y j)) l 0) (first_from (label_named same y (label_token y j)) l 0) j _ _ (λ _ z. no_key t n _ 12 (omega arith) z) (λ z _. z) h)
        i (omega arith) a (omega arith)

    by-label : (j : ℕ) → j < l → ((i : ℕ) → i < j → same (label_token y i) (label_token y j) ≡ false) → none ≤ label_fault same t n y l j
    unfolding label_fault label_of
    by-label j g f =
        subst (λ (x : ℕ). none ≤ x)
        (sym (if_lt-no _ _ (miss-first (label_named same y (label_token y j)) l 0 j (omega arith) (λ q a b. f q b)))) (omega arith)

  module _ (k : List ℕ) where
    -- ---- parameters

    abbrev first : ℕ → ℕ
    first f = first_token k f + 1

    abbrev many : ℕ → ℕ
    many f = end_token k f - (first_token k f + 1)

    parameter-by : (r q : ℕ) → q < first r + many r → none ≤ parameter_fault same t n k r q → (p : ℕ) → first r ≤ p → p < q → same p q ≡ false
    unfolding parameter_fault parameter_of
    parameter-by r q g h p a b =
        first-miss (parameter_named same q) (many r) (first r) q
        (either (λ (x : ℕ). none ≤ x → q ≤ first_from (parameter_named same q) (many r) (first r)) (first_from (parameter_named same q) (many r) (first r)) q _ _ (λ _ z. no_key t n q 12 (omega arith) z) (λ z _. z) h)
        p a b (omega arith)

    by-parameter : (r q : ℕ) → q < first r + many r → ((p : ℕ) → first r ≤ p → p < q → same p q ≡ false) → none ≤ parameter_fault same t n k r q
    unfolding parameter_fault parameter_of
    by-parameter r q g f =
        subst (λ (x : ℕ). none ≤ x) (sym (if_lt-no _ _ (miss-first (parameter_named same q) (many r) (first r) q (omega arith) f))) (omega arith)

    parameters-each : (left r q : ℕ) → Clean (parameter_faults left same t n k r q) → (i : ℕ) → q ≤ i → i < q + left → none ≤ parameter_fault same t n k r i
    unfolding parameter_faults
    parameters-each zero r q h i a b = let z : ⊥ = omega arith in absurd z
    parameters-each (suc left) r q h i a b =
        elim (ℕ_discrete q i) [
          | yes e ↦ subst (λ (v : ℕ). none ≤ parameter_fault same t n k r v) e h.0
          | no d ↦ parameters-each left r (q + 1) h.1 i (omega arith) (omega arith)
        ]

    each-parameters : (left r q : ℕ) → ((i : ℕ) → q ≤ i → i < q + left → none ≤ parameter_fault same t n k r i) → Clean (parameter_faults left same t n k r q)
    unfolding parameter_faults
    each-parameters zero r q f = tt
    each-parameters (suc left) r q f = (f q (omega arith) (omega arith), each-parameters left r (q + 1) (λ i a b. f i (omega arith) (omega arith)))

    -- ---- lets

    taken-by : (f i : ℕ) → parameter_taken same k f i ≡ false → (q : ℕ) → first_token k f < q → q < end_token k f → same q i ≡ false
    unfolding parameter_taken parameter_of
    taken-by f i h q a b =
        first-miss (parameter_named same i) (many f) (first f) (end_token k f)
        (either (λ (x : Bool). x ≡ false → end_token k f ≤ first_from (parameter_named same i) (many f) (first f)) (first_from (parameter_named same i) (many f) (first f)) (end_token k f) true false (λ _ z. true-false z) (λ z _. z) h)
        q (omega arith) b (omega arith)

    by-taken : (f i : ℕ) → ((q : ℕ) → first_token k f < q → q < end_token k f → same q i ≡ false) → parameter_taken same k f i ≡ false
    unfolding parameter_taken parameter_of
    by-taken f i g =
        if_lt-no true false (miss-first (parameter_named same i) (many f) (first f) (end_token k f) (omega arith) (λ q a b. g q (omega arith) b))

    local_by : (s r i : ℕ) → local_taken same k s r i ≡ false
        → ((m : ℕ) → s ≤ m → m < r → let_here same k s i m ≡ false) × ((row_at k s).kind ≡ 1 → parameter_taken same k s i ≡ false)
    unfolding local_taken
    local_by s r i =
        either (λ (x : Bool). x ≡ false → ((m : ℕ) → s ≤ m → m < r → let_here same k s i m ≡ false) × ((row_at k s).kind ≡ 1 → parameter_taken same k s i ≡ false))
        (first_from (let_here same k s i) (r - s) s) r _ _ (λ _ z. true-false z) (λ h z. (
          λ m a b. first-miss (let_here same k s i) (r - s) s r h m a b (omega arith),
          λ e. sym (if_eq-yes _ _ e) ∙ z,
        ))

    by-local : (s r i : ℕ) → ((m : ℕ) → s ≤ m → m < r → let_here same k s i m ≡ false) → ((row_at k s).kind ≡ 1 → parameter_taken same k s i ≡ false) → local_taken same k s r i ≡ false
    unfolding local_taken
    by-local s r i f g =
        if_lt-no _ _ (miss-first (let_here same k s i) (r - s) s r (omega arith) f)
        ∙ either-eq (λ (x : Bool). x ≡ false) (row_at k s).kind 1 _ _ g (λ _. refl)

    let_by : (r i : ℕ) → none ≤ let_fault same t n k r i → local_taken same k (row_at k r).scope r i ≡ false
    unfolding let_fault
    let_by r i =
        either_true (λ (x : ℕ). none ≤ x → local_taken same k (row_at k r).scope r i ≡ false) (local_taken same k (row_at k r).scope r i) _ _
        (λ _ h. no_key t n i 12 (omega arith) h) (λ e _. e)

    by-let : (r i : ℕ) → local_taken same k (row_at k r).scope r i ≡ false → none ≤ let_fault same t n k r i
    unfolding let_fault
    by-let r i e = subst (λ (x : ℕ). none ≤ x) (sym (if_true-no _ _ e)) (omega arith)

    -- ---- what a statement declares

    pub record DeclaredOnce (r : ℕ) : Type 0 where
      pub parameters : (row_at k r).kind ≡ 1 → (p q : ℕ) → first_token k r < p → p < q → q < end_token k r → same p q ≡ false
      pub lets : (row_at k r).kind ≡ 5 → (m : ℕ) → (row_at k r).scope ≤ m → m < r → let_here same k (row_at k r).scope (first_token k r + 1) m ≡ false
      pub lets_and_parameters : (row_at k r).kind ≡ 5 → (row_at k (row_at k r).scope).kind ≡ 1
          → (q : ℕ) → first_token k (row_at k r).scope < q → q < end_token k (row_at k r).scope → same q (first_token k r + 1) ≡ false

    pub declared-by : (r : ℕ) → Clean (declared_faults same t n k r (row_at k r).kind) → DeclaredOnce r
    unfolding declared_faults
    declared-by r h =
        record {
          parameters = λ e p q a b c.
              parameter-by r q (omega arith) (parameters-each (many r) r (first r) (subst Clean (if_eq-yes _ _ e) h) q (omega arith) (omega arith)) p (omega arith) b;
          lets = λ e m a b. (local_by (row_at k r).scope r (first r) (taken e)).0 m a b;
          lets_and_parameters = λ e f q a b. taken-by (row_at k r).scope (first r) ((local_by (row_at k r).scope r (first r) (taken e)).1 f) q a b;
        }
      where
        taken : (row_at k r).kind ≡ 5 → local_taken same k (row_at k r).scope r (first_token k r + 1) ≡ false
        taken e = let_by r (first_token k r + 1) (subst Clean (if_eq-no _ _ (λ z. omega arith) ∙ if_eq-yes _ _ e) h).0

    pub by-declared : (r : ℕ) → DeclaredOnce r → Clean (declared_faults same t n k r (row_at k r).kind)
    unfolding declared_faults
    by-declared r d =
        either-eq Clean (row_at k r).kind 1 _ _
        (λ e. each-parameters (many r) r (first r) (λ q a b. by-parameter r q b (λ p c f. d.parameters e p q (omega arith) f (omega arith)))) (λ _.
        either-eq Clean (row_at k r).kind 5 _ _
        (λ e. (by-let r (first r) (by-local (row_at k r).scope r (first r) (d.lets e) (λ f. by-taken (row_at k r).scope (first r) (d.lets_and_parameters e f))), tt)) (λ _. tt))

  pub labels-by : (y : List ℕ) (l : ℕ) → ((j : ℕ) → j < l → none ≤ label_fault same t n y l j) → (i j : ℕ) → i < j → j < l → same (label_token y i) (label_token y j) ≡ false
  labels-by y l f i j a b = label-by y l j b (f j b) i a

  pub by-labels : (y : List ℕ) (l : ℕ) → ((i j : ℕ) → i < j → j < l → same (label_token y i) (label_token y j) ≡ false) → (j : ℕ) → j < l → none ≤ label_fault same t n y l j
  by-labels y l f j b = by-label y l j b (λ i a. f i j a b)
