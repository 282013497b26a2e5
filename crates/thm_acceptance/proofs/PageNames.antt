-- The page of specs/Unbroken on names says what the group of faults of names says.
-- Assumes nothing.
use mathlib.Core.Path.{◌≡◌, refl, sym, ◌∙◌, ap, subst}
use mathlib.Core.Bool.{Bool}
use mathlib.Core.List.{List, [], ◌∷◌, ◌++◌}
use Prim.Native.Nat.{ℕ, zero, suc, ◌+◌, ◌-◌, ◌≤◌, ◌<◌}
use native.Mathlib.Decide.{dec_lt, ℕ_discrete}
use native.Mathlib.Omega.{arith}
use lib.ListN.{length, get_or}
use Rattle.base_prelude.specs.Choice.{if_lt, if_eq}
use Rattle.base_prelude.specs.Fault.{none}
use Rattle.base_prelude.proofs.Choice.{either, either-eq, if_lt-yes, if_lt-no, if_eq-yes, if_eq-no}
use Rattle.parse_lines.specs.Tokens.{host_at, key_at}
use Rattle.parse_lines.specs.Units.{unit_at}
use Rattle.parse_lines.specs.Lines.{line_kind}
use Rattle.parse_lines.specs.declared.Span.{Span}
use Rattle.parse_lines.proofs.Keys.{no_key}
use Rattle.prog_tables.specs.Statement.{row_at}
use Rattle.res_scope.specs.Lines.{first_token, end_token}
use Rattle.res_scope.specs.Parts.{parts_of}
use Rattle.res_scope.specs.declared.Parts.{Parts}
use Rattle.res_names.specs.Naming.{Naming, label_fault, names_of}
use Rattle.res_names.specs.Uses.{first_use}
use Rattle.res_names.proofs.Uses.{uses-first}
use Rattle.res_exports.specs.Exports.{use_fault, missing_fault, export_fault, label_at_token, import_use, import_fault, carried_in}
use Rattle.parse_verdict.specs.Verdict.{All, Clean}
use Rattle.thm_acceptance.specs.Lines.{Line, lines_from, lines_of, EachFrom, EachLine}
use Rattle.thm_acceptance.specs.Faults.{label_faults, declared_faults, head_faults, callee_faults, operand_faults, body_faults, statement_faults, statements_faults, all_name_faults, line_faults, export_faults_from, export_faults}
use Rattle.thm_acceptance.specs.Accepts.{names_in}
use Rattle.thm_acceptance.specs.Unbroken.{NamesUnbroken}
use Rattle.thm_acceptance.proofs.Shared.{DeclaredOnce, declared-by, by-declared, labels-by, by-labels}
use Rattle.thm_acceptance.proofs.Paged.{lines_more}
use Rattle.thm_acceptance.proofs.Rising.{InOrder, NoneBelow, first-least, least_first}
use Rattle.thm_acceptance.proofs.Page.{each_map, each_both}

-- ---- lists

clean-left : (xs ys : List ℕ) → Clean (xs ++ ys) → Clean xs
clean-left [] ys h = tt
clean-left (a ∷ xs) ys h = (h.0, clean-left xs ys h.1)

clean-right : (xs ys : List ℕ) → Clean (xs ++ ys) → Clean ys
clean-right [] ys h = h
clean-right (a ∷ xs) ys h = clean-right xs ys h.1

clean-join : (xs ys : List ℕ) → Clean xs → Clean ys → Clean (xs ++ ys)
clean-join [] ys h g = g
clean-join (a ∷ xs) ys h g = (h.0, clean-join xs ys h.1 g)

module _ (same : ℕ → ℕ → Bool) (t : List ℕ) (n : ℕ) (y : List ℕ) (l : ℕ) where
  -- ---- labels

  labels-each : (left j : ℕ) → Clean (label_faults left same t n y l j) → (i : ℕ) → j ≤ i → i < j + left → none ≤ label_fault same t n y l i
  unfolding label_faults
  labels-each zero j h i a b = let z : ⊥ = omega arith in absurd z
  labels-each (suc left) j h i a b =
      elim (ℕ_discrete j i) [
        | yes e ↦ subst (λ (v : ℕ). none ≤ label_fault same t n y l v) e h.0
        | no d ↦ labels-each left (j + 1) h.1 i (omega arith) (omega arith)
      ]

  each-labels : (left j : ℕ) → ((i : ℕ) → j ≤ i → i < j + left → none ≤ label_fault same t n y l i) → Clean (label_faults left same t n y l j)
  unfolding label_faults
  each-labels zero j f = tt
  each-labels (suc left) j f = (f j (omega arith) (omega arith), each-labels left (j + 1) (λ i a b. f i (omega arith) (omega arith)))

  module _ (k : List ℕ) where
    -- ---- statements

    statements-each : (left r : ℕ) → Clean (statements_faults left same t n k y l r) → (i : ℕ) → r ≤ i → i < r + left → Clean (statement_faults same t n k y l i)
    unfolding statements_faults
    statements-each zero r h i a b = let z : ⊥ = omega arith in absurd z
    statements-each (suc left) r h i a b =
        elim (ℕ_discrete r i) [
          | yes e ↦ subst (λ (v : ℕ). Clean (statement_faults same t n k y l v)) e (clean-left (statement_faults same t n k y l r) (statements_faults left same t n k y l (r + 1)) h)
          | no d ↦ statements-each left (r + 1) (clean-right (statement_faults same t n k y l r) (statements_faults left same t n k y l (r + 1)) h) i (omega arith) (omega arith)
        ]

    each-statements : (left r : ℕ) → ((i : ℕ) → r ≤ i → i < r + left → Clean (statement_faults same t n k y l i)) → Clean (statements_faults left same t n k y l r)
    unfolding statements_faults
    each-statements zero r f = tt
    each-statements (suc left) r f =
        clean-join (statement_faults same t n k y l r) (statements_faults left same t n k y l (r + 1)) (f r (omega arith) (omega arith))
        (each-statements left (r + 1) (λ i a b. f i (omega arith) (omega arith)))

    abbrev parts : ℕ → Parts
    parts r = parts_of t (row_at k r).kind (first_token k r) (end_token k r)

    abbrev Declared : ℕ → Type 0
    Declared r = Clean (declared_faults same t n k r (row_at k r).kind)

    abbrev Headed : ℕ → Type 0
    Headed r = Clean (head_faults same t n k y l r (row_at k r).kind (first_token k r + 1))

    abbrev Called : ℕ → Parts → Type 0
    Called r p = Clean (callee_faults same t n k y l r p.callee (end_token k r - p.first))

    abbrev Valued : ℕ → Parts → Type 0
    Valued r p = Clean (operand_faults (end_token k r - p.first) same t n k y l r p.first)

    statement-parts : (r : ℕ) → Clean (statement_faults same t n k y l r) → (Declared r × Headed r) × (Called r (parts r) × Valued r (parts r))
    unfolding statement_faults body_faults
    statement-parts r h =
        let a = declared_faults same t n k r (row_at k r).kind in
        let b = head_faults same t n k y l r (row_at k r).kind (first_token k r + 1) in
        let c = callee_faults same t n k y l r (parts r).callee (end_token k r - (parts r).first) in
        let d = operand_faults (end_token k r - (parts r).first) same t n k y l r (parts r).first in
        let g : Clean (b ++ (c ++ d)) = clean-right a (b ++ (c ++ d)) h in
        let i : Clean (c ++ d) = clean-right b (c ++ d) g in
        ((clean-left a (b ++ (c ++ d)) h, clean-left b (c ++ d) g), (clean-left c d i, clean-right c d i))

    parts-statement : (r : ℕ) → Declared r → Headed r → Called r (parts r) → Valued r (parts r) → Clean (statement_faults same t n k y l r)
    unfolding statement_faults body_faults
    parts-statement r e f g h =
        let a = declared_faults same t n k r (row_at k r).kind in
        let b = head_faults same t n k y l r (row_at k r).kind (first_token k r + 1) in
        let c = callee_faults same t n k y l r (parts r).callee (end_token k r - (parts r).first) in
        let d = operand_faults (end_token k r - (parts r).first) same t n k y l r (parts r).first in
        clean-join a (b ++ (c ++ d)) e (clean-join b (c ++ d) f (clean-join c d g h))

  module _ (uses : List ℕ) where
    -- ---- exports

    abbrev Exported : Line → Type 0
    Exported x = x.kind ≡ 27 → carried_in same t y l x.unit < l

    abbrev First : Line → Type 0
    First x = x.kind ≡ 27 → (get_or uses (carried_in same t y l x.unit) 0 ≡ 0 → ⊥) → x.unit.word + 1 ≤ get_or uses (carried_in same t y l x.unit) 0

    -- ---- imports

    abbrev Marked : Line → Type 0
    Marked x = x.kind ≡ 36 → 1 ≤ host_at t (x.unit.word + 1)

    abbrev Imported : Line → Type 0
    Imported x = x.kind ≡ 36 → label_at_token y l (x.unit.word + 1) < l
        → (get_or uses (label_at_token y l (x.unit.word + 1)) 0 ≡ 0 → ⊥) → x.unit.word + 1 ≤ get_or uses (label_at_token y l (x.unit.word + 1)) 0

    abbrev Both : List Line → Line → Type 0
    Both before x = (Exported x × First x) × (Marked x × Imported x)

    missing-fault : {P : Type 0} (i : ℕ) → none ≤ missing_fault same t n y l i → P
    unfolding missing_fault
    missing-fault {P} i = either (λ (x : ℕ). none ≤ x → P) _ l _ _ (λ _ h. no_key t n i 11 (omega arith) h) (λ _ h. no_key t n i 10 (omega arith) h)

    use-by : (i q : ℕ) → none ≤ use_fault t n i q → (q ≡ 0 → ⊥) → i ≤ q
    unfolding use_fault
    use-by i q h d =
        either (λ (x : ℕ). none ≤ x → i ≤ q) q i _ _ (λ _ z. no_key t n i 17 (omega arith) z) (λ l _. l)
        (subst (λ (x : ℕ). none ≤ x) (if_eq-no none (if_lt q i (key_at t n i 17) none) d) h)

    by-use : (i q : ℕ) → ((q ≡ 0 → ⊥) → i ≤ q) → none ≤ use_fault t n i q
    unfolding use_fault
    by-use i q f =
        either-eq (λ (x : ℕ). none ≤ x) q 0 _ _ (λ _. omega arith) (λ d. subst (λ (x : ℕ). none ≤ x) (sym (if_lt-no (key_at t n i 17) none (f d))) (omega arith))

    export-by : (i j : ℕ) → none ≤ export_fault same t n y l uses i j → (j < l) × ((get_or uses j 0 ≡ 0 → ⊥) → i ≤ get_or uses j 0)
    unfolding export_fault
    export-by i j =
        either (λ (x : ℕ). none ≤ x → (j < l) × ((get_or uses j 0 ≡ 0 → ⊥) → i ≤ get_or uses j 0)) j l _ _
        (λ a h. (a, use-by i (get_or uses j 0) h)) (λ _ h. missing-fault i h)

    by-export : (i j : ℕ) → j < l → ((get_or uses j 0 ≡ 0 → ⊥) → i ≤ get_or uses j 0) → none ≤ export_fault same t n y l uses i j
    unfolding export_fault
    by-export i j a f = subst (λ (x : ℕ). none ≤ x) (sym (if_lt-yes _ _ a)) (by-use i (get_or uses j 0) f)

    import-by : (i : ℕ) → none ≤ import_fault t n y l uses i
        → (1 ≤ host_at t i) × (label_at_token y l i < l → (get_or uses (label_at_token y l i) 0 ≡ 0 → ⊥) → i ≤ get_or uses (label_at_token y l i) 0)
    unfolding import_fault import_use
    import-by i h =
        elim (ℕ_discrete (host_at t i) 0) [
          | yes e ↦ no_key t n i 10 (omega arith) (subst (λ (x : ℕ). none ≤ x) (if_eq-yes _ _ e) h)
          | no d ↦ (
            omega (arith, d),
            λ a. use-by i (get_or uses (label_at_token y l i) 0) (subst (λ (x : ℕ). none ≤ x) (if_eq-no _ _ d ∙ if_lt-yes _ _ a) h),
          )
        ]

    by-import : (i : ℕ) → 1 ≤ host_at t i → (label_at_token y l i < l → (get_or uses (label_at_token y l i) 0 ≡ 0 → ⊥) → i ≤ get_or uses (label_at_token y l i) 0)
        → none ≤ import_fault t n y l uses i
    unfolding import_fault import_use
    by-import i a f =
        subst (λ (x : ℕ). none ≤ x) (sym (if_eq-no _ _ (λ e. let z : ⊥ = omega (arith, e) in z)))
        (either (λ (x : ℕ). none ≤ x) (label_at_token y l i) l _ _ (λ b. by-use i (get_or uses (label_at_token y l i) 0) (f b)) (λ _. omega arith))

    line-by : (before : List Line) (u : Span) (k : ℕ) → Clean (line_faults same t n y l uses u k) → Both before (record { unit = u; kind = k })
    unfolding line_faults carried_in
    line-by before u k h = ((λ e. (two e).0, λ e. (two e).1), (λ e. (import e).0, λ e. (import e).1))
      where
        import : k ≡ 36 → (1 ≤ host_at t (u.word + 1))
            × (label_at_token y l (u.word + 1) < l → (get_or uses (label_at_token y l (u.word + 1)) 0 ≡ 0 → ⊥) → u.word + 1 ≤ get_or uses (label_at_token y l (u.word + 1)) 0)
        import e =
            import-by (u.word + 1) (subst Clean (if_eq-no _ _ (λ z. let q : ⊥ = omega arith in q) ∙ if_eq-yes _ _ e) h).0

        two : k ≡ 27 → (carried_in same t y l u < l) × ((get_or uses (carried_in same t y l u) 0 ≡ 0 → ⊥) → u.word + 1 ≤ get_or uses (carried_in same t y l u) 0)
        two e = export-by (u.word + 1) (carried_in same t y l u) (subst Clean (if_eq-yes _ _ e) h).0

    by-line : (before : List Line) (u : Span) (k : ℕ) → Both before (record { unit = u; kind = k }) → Clean (line_faults same t n y l uses u k)
    unfolding line_faults carried_in
    by-line before u k b =
        either-eq Clean k 27 _ _ (λ e. (by-export (u.word + 1) (carried_in same t y l u) (b.0.0 e) (b.0.1 e), tt)) (λ _.
        either-eq Clean k 36 _ _ (λ e. (by-import (u.word + 1) (b.1.0 e) (b.1.1 e), tt)) (λ _. tt))

    faults-more : (left at : ℕ) → export_faults_from (suc left) same t n y l uses at
        ≡ if_eq (line_kind t (unit_at t at).word) 0 [] (line_faults same t n y l uses (unit_at t at) (line_kind t (unit_at t at).word) ++ export_faults_from left same t n y l uses (unit_at t at).next)
    unfolding export_faults_from
    faults-more left at = refl

    edge-line : (before : List Line) (u : Span) (k : ℕ) → k ≡ 0 → Both before (record { unit = u; kind = k })
    edge-line before u k e = (
      (λ q. let z : ⊥ = omega arith in absurd z, λ q. let z : ⊥ = omega arith in absurd z),
      (λ q. let z : ⊥ = omega arith in absurd z, λ q. let z : ⊥ = omega arith in absurd z),
    )

    faults-each : (left at : ℕ) (before : List Line) → Clean (export_faults_from left same t n y l uses at) → EachFrom Both before (lines_from left t at)
    unfolding lines_from
    faults-each zero at before h = tt
    faults-each (suc left) at before h =
        let u = unit_at t at in
        let k = line_kind t (unit_at t at).word in
        let g = subst Clean (faults-more left at) h in
        subst (EachFrom Both before) (sym (lines_more left t at))
        (elim (ℕ_discrete (line_kind t (unit_at t at).word) 0) [
          | yes e ↦ (edge-line before u k e, subst (EachFrom Both (record { unit = u; kind = k } ∷ before)) (sym (if_eq-yes [] (lines_from left t u.next) e)) tt)
          | no d ↦
              let i : Clean (line_faults same t n y l uses u k ++ export_faults_from left same t n y l uses u.next) = subst Clean (if_eq-no [] _ d) g in (
                line-by before u k (clean-left (line_faults same t n y l uses u k) (export_faults_from left same t n y l uses u.next) i),
                subst (EachFrom Both (record { unit = u; kind = k } ∷ before)) (sym (if_eq-no [] (lines_from left t u.next) d))
                    (faults-each left u.next (record { unit = u; kind = k } ∷ before) (clean-right (line_faults same t n y l uses u k) (export_faults_from left same t n y l uses u.next) i)),
              )
        ])

    each-faults : (left at : ℕ) (before : List Line) → EachFrom Both before (lines_from left t at) → Clean (export_faults_from left same t n y l uses at)
    unfolding export_faults_from
    each-faults zero at before h = tt
    each-faults (suc left) at before h =
        let u = unit_at t at in
        let k = line_kind t (unit_at t at).word in
        let g = subst (EachFrom Both before) (lines_more left t at) h in
        elim (ℕ_discrete (line_kind t (unit_at t at).word) 0) [
          | yes e ↦ subst Clean (sym (if_eq-yes [] (line_faults same t n y l uses u k ++ export_faults_from left same t n y l uses u.next) e)) tt
          | no d ↦ subst Clean (sym (if_eq-no [] (line_faults same t n y l uses u k ++ export_faults_from left same t n y l uses u.next) d))
              (clean-join (line_faults same t n y l uses u k) (export_faults_from left same t n y l uses u.next) (by-line before u k g.0)
              (each-faults left u.next (record { unit = u; kind = k } ∷ before) (subst (EachFrom Both (record { unit = u; kind = k } ∷ before)) (if_eq-no [] (lines_from left t u.next) d) g.1)))
        ]

-- ---- all names

module _ (same : ℕ → ℕ → Bool) (t : List ℕ) (n : ℕ) (k y : List ℕ) (l c : ℕ) (few : l ≤ 256) where
  abbrev uses : List ℕ
  uses = (names_of same t n k y l c).uses

  abbrev Ex : List Line → Line → Type 0
  Ex before x = x.kind ≡ 27 → carried_in same t y l x.unit < l

  abbrev Fi : List Line → Line → Type 0
  Fi before x = x.kind ≡ 27 → (r : ℕ) → r < c → NoneBelow same t k y l c (carried_in same t y l x.unit) (x.unit.word + 1) r

  abbrev Ma : List Line → Line → Type 0
  Ma before x = x.kind ≡ 36 → 1 ≤ host_at t (x.unit.word + 1)

  abbrev Im : List Line → Line → Type 0
  Im before x = x.kind ≡ 36 → label_at_token y l (x.unit.word + 1) < l
      → (r : ℕ) → r < c → NoneBelow same t k y l c (label_at_token y l (x.unit.word + 1)) (x.unit.word + 1) r

  use-is : (j : ℕ) → j < l → get_or uses j 0 ≡ first_use same t k y l c j
  use-is j h = uses-first same t n k y l c j (omega arith)

  both_first : InOrder t k c → (before : List Line) (x : Line) → Both same t n y l uses before x → Fi before x
  both_first o before x b e =
      let q = use-is (carried_in same t y l x.unit) (b.0.0 e) in
      first-least same t k y l c (carried_in same t y l x.unit) (x.unit.word + 1) o (λ d. omega (arith, b.0.1 e (λ z. d (sym q ∙ z)), q))

  both-import : InOrder t k c → (before : List Line) (x : Line) → Both same t n y l uses before x → Im before x
  both-import o before x b e a =
      let q = use-is (label_at_token y l (x.unit.word + 1)) a in
      first-least same t k y l c (label_at_token y l (x.unit.word + 1)) (x.unit.word + 1) o (λ d. omega (arith, b.1.1 e a (λ z. d (sym q ∙ z)), q))

  first-both : (before : List Line) (x : Line) → (Ex before x × Fi before x) × (Ma before x × Im before x) → Both same t n y l uses before x
  first-both before x b = (
    (b.0.0, λ e d. (let q = use-is (carried_in same t y l x.unit) (b.0.0 e) in omega (arith, q, least_first same t k y l c (carried_in same t y l x.unit) (x.unit.word + 1) (b.0.1 e) (λ z. d (q ∙ z))))),
    (b.1.0, λ e a d. (let q = use-is (label_at_token y l (x.unit.word + 1)) a in omega (arith, q, least_first same t k y l c (label_at_token y l (x.unit.word + 1)) (x.unit.word + 1) (b.1.1 e a) (λ z. d (q ∙ z))))),
  )

  pub clean-names : InOrder t k c → Clean (names_in same t n k y l c) → NamesUnbroken same t n k y l c × EachLine t Ma
  unfolding names_in all_name_faults export_faults lines_of
  clean-names o h =
      let names = label_faults l same t n y l 0 ++ statements_faults c same t n k y l 0 in
      let out = export_faults_from (suc (length t)) same t n y l uses 0 in
      let a : Clean names = clean-left names out h in
      let b : Clean (statements_faults c same t n k y l 0) = clean-right (label_faults l same t n y l 0) (statements_faults c same t n k y l 0) a in
      let once : (r : ℕ) → r < c → DeclaredOnce same t n k r =
      λ r g. declared-by same t n k r (statement-parts same t n y l k r (statements-each same t n y l k c 0 b r (omega arith) (omega arith))).0.0 in
      let e : EachLine t (Both same t n y l uses) = faults-each same t n y l uses (suc (length t)) 0 [] (clean-right names out h) in (
        record {
          parameters = λ r g. (once r g).parameters;
          lets = λ r g. (once r g).lets;
          lets_and_parameters = λ r g. (once r g).lets_and_parameters;
          labels = labels-by same t n y l (λ j g. labels-each same t n y l l 0 (clean-left (label_faults l same t n y l 0) (statements_faults c same t n k y l 0) a) j (omega arith) (omega arith));
          targets = λ r g. (statement-parts same t n y l k r (statements-each same t n y l k c 0 b r (omega arith) (omega arith))).0.1;
          callees = λ r g. (statement-parts same t n y l k r (statements-each same t n y l k c 0 b r (omega arith) (omega arith))).1.0;
          values = λ r g. (statement-parts same t n y l k r (statements-each same t n y l k c 0 b r (omega arith) (omega arith))).1.1;
          exports = each_map (Both same t n y l uses) Ex (λ before x z. z.0.0) [] (lines_of t) e;
          exports_first = each_map (Both same t n y l uses) Fi (both_first o) [] (lines_of t) e;
          imports_first = each_map (Both same t n y l uses) Im (both-import o) [] (lines_of t) e;
        },
        each_map (Both same t n y l uses) Ma (λ before x z. z.1.0) [] (lines_of t) e,
      )

  pub names-clean : NamesUnbroken same t n k y l c → EachLine t Ma → Clean (names_in same t n k y l c)
  unfolding names_in all_name_faults export_faults lines_of
  names-clean u m =
      let names = label_faults l same t n y l 0 ++ statements_faults c same t n k y l 0 in
      let out = export_faults_from (suc (length t)) same t n y l uses 0 in
      clean-join names out
      (clean-join (label_faults l same t n y l 0) (statements_faults c same t n k y l 0)
      (each-labels same t n y l l 0 (λ j a b. by-labels same t n y l u.labels j (omega arith)))
      (each-statements same t n y l k c 0 (λ r a b.
      parts-statement same t n y l k r (by-declared same t n k r (record { parameters = u.parameters r (omega arith); lets = u.lets r (omega arith); lets_and_parameters = u.lets_and_parameters r (omega arith) })) (u.targets r (omega arith)) (u.callees r (omega arith)) (u.values r (omega arith)))))
      (each-faults same t n y l uses (suc (length t)) 0 []
      (each_map (λ before x. (Ex before x × Fi before x) × (Ma before x × Im before x)) (Both same t n y l uses) first-both [] (lines_of t)
      (each_both (λ before x. Ex before x × Fi before x) (λ before x. Ma before x × Im before x) [] (lines_of t) (each_both Ex Fi [] (lines_of t) u.exports u.exports_first) (each_both Ma Im [] (lines_of t) m u.imports_first))))
