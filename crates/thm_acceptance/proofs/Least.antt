-- The faults of crates res_names and res_exports are the least of those that their rules find in the whole source.
-- Assumes nothing.
use mathlib.Core.Path.{◌≡◌, refl, sym, ◌∙◌, ap, subst}
use mathlib.Core.Bool.{Bool}
use mathlib.Core.List.{List, [], ◌∷◌, ◌++◌}
use Prim.Native.Nat.{ℕ, zero, suc, ◌+◌, ◌*◌, ◌-◌, ◌≤◌, ◌<◌, min}
use native.Mathlib.Decide.{ℕ_discrete}
use native.Mathlib.Nat.{not-suc-le-zero}
use native.Mathlib.Omega.{arith}
use lib.ListN.{length}
use Rattle.base_prelude.specs.Choice.{if_eq}
use Rattle.base_prelude.specs.Fault.{none, least_of}
use Rattle.base_prelude.specs.Lists.{zeros}
use Rattle.base_prelude.specs.Walk.{Step, go, stop, walk}
use Rattle.base_prelude.proofs.Choice.{if_eq-yes, if_eq-no}
use Rattle.base_prelude.proofs.Walk.{walk-go, walk-stop}
use Rattle.parse_lines.specs.Tokens.{kind_at}
use Rattle.parse_lines.specs.Units.{unit_at}
use Rattle.parse_lines.specs.Lines.{line_kind}
use Rattle.parse_lines.specs.declared.Span.{Span}
use Rattle.parse_lines.proofs.Scans.{token-within}
use Rattle.parse_lines.proofs.Edge.{edge-is}
use Rattle.parse_units.proofs.Bounds.{unit-order}
use Rattle.prog_tables.specs.Statement.{Row, row_at}
use Rattle.res_scope.specs.Lines.{first_token, end_token}
use Rattle.res_scope.specs.Names.{meaning_of}
use Rattle.res_scope.specs.Parts.{parts_of}
use Rattle.res_scope.specs.declared.Parts.{Parts}
use Rattle.res_names.specs.Naming.{Naming, naming, judged, value_fault, set_fault, callee_fault, goto_fault, let_fault, parameter_fault, label_fault, value_part, operands_part, callee_part, set_part, goto_part, parameters_fault, declared_fault, head_part, body_part, statement_part, statements_part, labels_fault, names_of}
use Rattle.res_exports.specs.Exports as exporting
use Rattle.res_exports.specs.Exports.{Exported, exported, World, world, definition_from, carried_by, export_fault, judged_by, import_fault, import_judged, export_part, export_on, export_step, exports_from, exports_of}
use Rattle.parse_verdict.proofs.Decided.{least-none}
use Rattle.thm_acceptance.specs.Faults.{label_faults, operand_fault, operand_faults, callee_faults, parameter_faults, declared_faults, head_faults, body_faults, statement_faults, statements_faults, all_name_faults, line_faults, export_faults_from, export_faults}

-- ---- a running least

pub append-least : (ks js : List ℕ) → least_of (ks ++ js) ≡ min (least_of ks) (least_of js)
unfolding least_of
append-least [] js = omega (arith, least-none js)
append-least (k ∷ ks) js = omega (arith, append-least ks js)

-- from the least so far, at most none, b is the least with those of the list
abbrev Adds : ℕ → ℕ → List ℕ → Type 0
Adds a b ks = a ≤ none → b ≡ min a (least_of ks)

adds_none : (a : ℕ) → Adds a a []
unfolding least_of
adds_none a h = omega arith

adds_one : (a k : ℕ) → Adds a (min a k) (k ∷ [])
unfolding least_of
adds_one a k h = omega arith

adds-cons : (a k c : ℕ) (ks : List ℕ) → Adds (min a k) c ks → Adds a c (k ∷ ks)
unfolding least_of
adds-cons a k c ks f h = let e : c ≡ min (min a k) (least_of ks) = f (omega arith) in omega arith

adds-append : (a b c : ℕ) (ks js : List ℕ) → Adds a b ks → Adds b c js → Adds a c (ks ++ js)
adds-append a b c ks js f g h =
    let e : b ≡ min a (least_of ks) = f h in
    let e' : c ≡ min b (least_of js) = g (omega arith) in
    omega (arith, append-least ks js)

-- one test on both sides
both-eq : {X Y : Type 0} (P : X → Y → Type 0) (a b : ℕ) (x y : X) (u v : Y) → (a ≡ b → P x u) → ((a ≡ b → ⊥) → P y v) → P (if_eq a b x y) (if_eq a b u v)
both-eq {X} {Y} P a b x y u v f g =
    elim (ℕ_discrete a b) [
      | yes h ↦ subst (λ (z : X). P z (if_eq a b u v)) (sym (if_eq-yes x y h)) (subst (P x) (sym (if_eq-yes u v h)) (f h))
      | no h ↦ subst (λ (z : X). P z (if_eq a b u v)) (sym (if_eq-no x y h)) (subst (P y) (sym (if_eq-no u v h)) (g h))
    ]

-- ---- names

module _ (same : ℕ → ℕ → Bool) (t : List ℕ) (n : ℕ) where
  module _ (k : List ℕ) (r : ℕ) where
    parameters-add : (left q best : ℕ) → Adds best (parameters_fault left same t n k r q best) (parameter_faults left same t n k r q)
    unfolding parameters_fault parameter_faults
    parameters-add zero q best = adds_none best
    parameters-add (suc left) q best =
        adds-cons best (parameter_fault same t n k r q) _ _ (parameters-add left (q + 1) (min best (parameter_fault same t n k r q)))

    declared-add : (kind best : ℕ) → Adds best (declared_fault same t n k r kind best) (declared_faults same t n k r kind)
    unfolding declared_fault declared_faults
    declared-add kind best =
        both-eq (Adds best) kind 1 _ _ _ _
        (λ _. parameters-add (end_token k r - (first_token k r + 1)) (first_token k r + 1) best)
        (λ _. both-eq (Adds best) kind 5 _ _ _ _ (λ _. adds_one best (let_fault same t n k r (first_token k r + 1))) (λ _. adds_none best))

    module _ (y : List ℕ) (l : ℕ) where
      abbrev AddsTo : Naming → Naming → List ℕ → Type 0
      AddsTo x z ks = Adds x.fault z.fault ks

      value-add : (i : ℕ) (x : Naming) → AddsTo x (value_part same t n k y l r i x) (operand_fault same t n k y l r i)
      unfolding value_part operand_fault judged
      value-add i x =
          both-eq (AddsTo x) (kind_at t i) 3 _ _ _ _ (λ _. adds_one x.fault (value_fault t n y i (meaning_of same k y l r i))) (λ _.
          both-eq (AddsTo x) (kind_at t i) 5 _ _ _ _ (λ _. adds_one x.fault (value_fault t n y i (meaning_of same k y l r i))) (λ _. adds_none x.fault))

      operands-add : (left i : ℕ) (x : Naming) → AddsTo x (operands_part left same t n k y l r i x) (operand_faults left same t n k y l r i)
      unfolding operands_part operand_faults
      operands-add zero i x = adds_none x.fault
      operands-add (suc left) i x =
          adds-append x.fault (value_part same t n k y l r i x).fault _ _ _ (value-add i x) (operands-add left (i + 1) (value_part same t n k y l r i x))

      callee-add : (i count : ℕ) (x : Naming) → AddsTo x (callee_part same t n k y l r i count x) (callee_faults same t n k y l r i count)
      unfolding callee_part callee_faults judged
      callee-add i count x =
          both-eq (AddsTo x) i 0 _ _ _ _ (λ _. adds_none x.fault) (λ _. adds_one x.fault (callee_fault t n k y i count (meaning_of same k y l r i)))

      set-add : (i : ℕ) (x : Naming) → AddsTo x (set_part same t n k y l r i x) (set_fault t n i (meaning_of same k y l r i) ∷ [])
      unfolding set_part judged
      set-add i x = adds_one x.fault (set_fault t n i (meaning_of same k y l r i))

      goto-add : (i : ℕ) (x : Naming) → AddsTo x (goto_part same t n k y l r i x) (goto_fault t n k y r i (meaning_of same k y l r i) ∷ [])
      unfolding goto_part judged
      goto-add i x = adds_one x.fault (goto_fault t n k y r i (meaning_of same k y l r i))

      head-add : (kind : ℕ) (x : Naming) → AddsTo x (head_part same t n k y l r kind x) (head_faults same t n k y l r kind (first_token k r + 1))
      unfolding head_part head_faults
      head-add kind x =
          both-eq (AddsTo x) kind 6 _ _ _ _ (λ _. set-add (first_token k r + 1) x) (λ _.
          both-eq (AddsTo x) kind 7 _ _ _ _ (λ _. value-add (first_token k r + 1) x) (λ _.
          both-eq (AddsTo x) kind 10 _ _ _ _ (λ _. goto-add (first_token k r + 1) x) (λ _. adds_none x.fault)))

      body-add : (p : Parts) (next : ℕ) (x : Naming) → AddsTo x (body_part same t n k y l r p next x) (body_faults same t n k y l r p next)
      unfolding body_part body_faults
      body-add p next x =
          adds-append x.fault (callee_part same t n k y l r p.callee (next - p.first) x).fault _ _ _ (callee-add p.callee (next - p.first) x)
          (operands-add (next - p.first) p.first (callee_part same t n k y l r p.callee (next - p.first) x))

      statement-add : (x : Naming) → AddsTo x (statement_part same t n k y l r x) (statement_faults same t n k y l r)
      unfolding statement_part statement_faults
      statement-add x =
          let d = naming (declared_fault same t n k r (row_at k r).kind x.fault) x.uses in
          let h = head_part same t n k y l r (row_at k r).kind d in
          adds-append x.fault d.fault _ _ _ (declared-add (row_at k r).kind x.fault)
          (adds-append d.fault h.fault _ _ _ (head-add (row_at k r).kind d) (body-add (parts_of t (row_at k r).kind (first_token k r) (end_token k r)) (end_token k r) h))

  module _ (y : List ℕ) (l : ℕ) where
    labels-add : (left j best : ℕ) → Adds best (labels_fault left same t n y l j best) (label_faults left same t n y l j)
    unfolding labels_fault label_faults
    labels-add zero j best = adds_none best
    labels-add (suc left) j best = adds-cons best (label_fault same t n y l j) _ _ (labels-add left (j + 1) (min best (label_fault same t n y l j)))

    statements-add : (left : ℕ) (k : List ℕ) (r : ℕ) (x : Naming) → Adds x.fault (statements_part left same t n k y l r x).fault (statements_faults left same t n k y l r)
    unfolding statements_part statements_faults
    statements-add zero k r x = adds_none x.fault
    statements-add (suc left) k r x =
        adds-append x.fault (statement_part same t n k y l r x).fault _ _ _ (statement-add k r y l x) (statements-add left k (r + 1) (statement_part same t n k y l r x))

    -- 10 to 13 in labels and statements
    pub names-least : (k : List ℕ) (c : ℕ) → (names_of same t n k y l c).fault ≡ least_of (all_name_faults same t n k y l c)
    unfolding names_of all_name_faults
    names-least k c =
        let e : (names_of same t n k y l c).fault ≡ min none (least_of (all_name_faults same t n k y l c)) =
        adds-append none (labels_fault l same t n y l 0 none) _ _ _ (labels-add l 0 none) (statements-add c k 0 (naming (labels_fault l same t n y l 0 none) (zeros 256))) (omega arith) in
        omega (arith, least-none (all_name_faults same t n k y l c))

-- ---- exports

line-within : (t : List ℕ) (i : ℕ) → (line_kind t i ≡ 0 → ⊥) → i < length t
line-within t i h =
    elim (ℕ_discrete (kind_at t i) 0) [
      | yes z ↦ absurd (h (edge-is t i z))
      | no z ↦ let w : i * 8 + 0 < length t = token-within t i 0 (omega arith) in omega arith
    ]

module _ (same : ℕ → ℕ → Bool) (t : List ℕ) (n : ℕ) (y : List ℕ) (l : ℕ) (uses : List ℕ) where
  line-add : (u : Span) (k : ℕ) (x : Exported) → Adds x.fault (export_part same t n y l uses u k x).fault (line_faults same t n y l uses u k)
  unfolding export_part line_faults judged_by import_judged
  line-add u k x =
      both-eq (λ (z : Exported) (ks : List ℕ). Adds x.fault z.fault ks) k 27 _ _ _ _ (λ _. adds_one x.fault _) (λ _.
      both-eq (λ (z : Exported) (ks : List ℕ). Adds x.fault z.fault ks) k 36 _ _ _ _ (λ _. adds_one x.fault (import_fault t n y l uses (u.word + 1)))
      (λ _. adds_none x.fault))

  export-edge : (x : World) → line_kind t (unit_at t x.state.at).word ≡ 0 → export_step same t n y l uses x ≡ stop (exported x.state.best x.flags)
  unfolding export_step export_on
  export-edge x e = if_eq-yes _ _ e

  abbrev line_of : World → Exported
  line_of x = export_part same t n y l uses (unit_at t x.state.at) (line_kind t (unit_at t x.state.at).word) (exported x.state.best x.flags)

  export-more : (x : World) → (line_kind t (unit_at t x.state.at).word ≡ 0 → ⊥)
      → export_step same t n y l uses x ≡ go (world (exporting.exports (unit_at t x.state.at).next (line_of x).fault) (line_of x).flags)
  unfolding export_step export_on
  export-more x e = if_eq-no _ _ e

  abbrev rest_of : ℕ → World → List ℕ
  rest_of m x =
      line_faults same t n y l uses (unit_at t x.state.at) (line_kind t (unit_at t x.state.at).word)
      ++ export_faults_from m same t n y l uses (unit_at t x.state.at).next

  exports-add : (m : ℕ) (x : World) → 1 ≤ m → length t < x.state.at + m
      → Adds x.state.best (walk (export_step same t n y l uses) (exported none []) m x).fault (export_faults_from m same t n y l uses x.state.at)
  unfolding export_faults_from
  exports-add zero x h g = absurd (not-suc-le-zero h)
  exports-add (suc m) x h g =
      elim (ℕ_discrete (line_kind t (unit_at t x.state.at).word) 0) [
        | yes e ↦ subst (Adds x.state.best (walk (export_step same t n y l uses) (exported none []) (suc m) x).fault) (sym (if_eq-yes _ _ e))
            (subst (λ (z : Exported). Adds x.state.best z.fault []) (sym (walk-stop (export_step same t n y l uses) (exported none []) m x _ (export-edge x e))) (adds_none x.state.best))
        | no e ↦
            let o = unit-order t x.state.at in
            let i : (unit_at t x.state.at).word < length t = line-within t (unit_at t x.state.at).word e in
            let z = world (exporting.exports (unit_at t x.state.at).next (line_of x).fault) (line_of x).flags in
            subst (Adds x.state.best (walk (export_step same t n y l uses) (exported none []) (suc m) x).fault) (sym (if_eq-no _ _ e))
            (subst (λ (z : Exported). Adds x.state.best z.fault (rest_of m x)) (sym (walk-go (export_step same t n y l uses) (exported none []) m x _ (export-more x e)))
            (adds-append x.state.best (line_of x).fault _ _ _ (line-add (unit_at t x.state.at) (line_kind t (unit_at t x.state.at).word) (exported x.state.best x.flags))
            (exports-add m z (omega (arith, o.0, o.1)) (omega (arith, o.0, o.1, o.2)))))
      ]

  -- 10, 11 and 17 in exports and imports
  pub exports-least : (exports_of same t n y l uses).fault ≡ least_of (export_faults same t n y l uses)
  unfolding exports_of exports_from export_faults
  exports-least =
      let e : (exports_of same t n y l uses).fault ≡ min none (least_of (export_faults same t n y l uses)) =
      exports-add (suc (length t)) (world (exporting.exports 0 none) (zeros 256)) (omega arith) (omega arith) (omega arith) in
      omega (arith, least-none (export_faults same t n y l uses))
